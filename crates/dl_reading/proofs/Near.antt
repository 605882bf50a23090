-- How large the amounts of a severity are, and how many there are.
use Rattle.dl_reading.proofs.Common.{◌==◌, amounts_of, ℕ, ◌≡◌, ◌*◌, ◌/◌, ◌≤◌, List, [], ◌∷◌, map, filter, zip, length, get_or, nat_lt, Option, Some, None, Bool, true, cond, refl, sym, subst, arith, All, length-map, All-nil, All-head, All-tail, All-weaker, All-append, All-map, Fraction, ◌*ℚ◌, IsWhole, Item, Sev, Pairs, conditioned, HasDistribution, Clause, layer, kept, IsClause, whole_num, scaled, with_amounts, layered, ceded_each, GridSev, GridLayer, atom_probs, atom_pairs, mixed, mixed_pairs, weights_of, is_conditioned, layer_pairs, support, GridAtom, IsGridSev, IsSevWithin, most_values, sum_by, sum_by-cons, length-append, IsEquivalence, is_member, Decides-eqb, nat_tests, All-is_member, is_member-Decides, IsDistinct-from_AllPairs, length-le_from_is_member, AllPairs-from_increasing, cond_both, All-contains, All-filter, count_by-le-length, length-filter, get_or-zip, length-zip, kept_parts, parts_in_bucket, layer_le, kept_whole, kept_only, kept_le}
use Rattle.std.proofs.Math.Nat.{div-le_of_le-mul, le_refl, le_trans}
use Rattle.dl_reading.proofs.Items.{items_in, support_all}
use Rattle.dl_reading.proofs.Positive.{is_positive, support-mapped}

-- no amount is above b
abbrev pub Near : ℕ → Pairs → Type 0
Near b ps = All (λ pair. pair.0 ≤ b) ps

-- ---- the atoms

zip_near : (b : ℕ) (xs : List ℕ) (ys : List Fraction) → All (λ x. x ≤ b) xs → Near b (zip xs ys)
zip_near b xs ys h k d lt =
    let both = length-zip xs ys in
    rw (get_or-zip xs ys k d (omega (arith, both, lt)) (omega (arith, both, lt))) (h k d.0 (omega (arith, both, lt)))

-- ---- the mixture

all_mixed_near : (b : ℕ) (ws : List Fraction) (lists : List Pairs) → All (Near b) lists → Near b (mixed ws lists)
all_mixed_near b [] lists h = All-nil (λ pair. pair.0 ≤ b)
all_mixed_near b (w ∷ ws) [] h = All-nil (λ pair. pair.0 ≤ b)
all_mixed_near b (w ∷ ws) (ps ∷ lists) h =
    All-append (λ pair. pair.0 ≤ b) (scaled w ps) (mixed ws lists)
    (All-map (λ pair. pair.0 ≤ b) (λ (pair : ℕ × Fraction). (pair.0, w *ℚ pair.1)) ps (All-head (Near b) ps lists h))
    (all_mixed_near b ws lists (All-tail (Near b) ps lists h))

all_mixed_few : (ws : List Fraction) (lists : List Pairs) → length (mixed ws lists) ≤ sum_by (λ ps. length ps) lists
all_mixed_few [] lists = omega arith
all_mixed_few (w ∷ ws) [] = omega arith
all_mixed_few (w ∷ ws) (ps ∷ lists) =
    omega (
      arith,
      length-append (scaled w ps) (mixed ws lists),
      length-map {B = ℕ × Fraction} ps (λ (pair : ℕ × Fraction). (pair.0, w *ℚ pair.1)),
      sum_by-cons (λ (qs : Pairs). length qs) ps lists,
      all_mixed_few ws lists,
    )

-- the atoms have no more pairs than amounts
pairs_few : (atoms : List GridAtom) → sum_by (λ (ps : Pairs). length ps) (map atom_pairs atoms) ≤ sum_by (λ a. length a.amounts) atoms
pairs_few [] = omega arith
pairs_few (a ∷ atoms) =
    omega (
      arith,
      sum_by-cons (λ (ps : Pairs). length ps) (atom_pairs a) (map atom_pairs atoms),
      sum_by-cons (λ (g : GridAtom). length g.amounts) a atoms,
      length-zip a.amounts (atom_probs a),
      pairs_few atoms,
    )

mixed_near : (b : ℕ) (s : GridSev) → IsSevWithin b s → Near b (mixed_pairs s)
mixed_near b s near =
    all_mixed_near b (weights_of s) (map atom_pairs s.atoms) (All-map (Near b) atom_pairs s.atoms
    (λ k d h. zip_near b (get_or s.atoms k d).amounts (atom_probs (get_or s.atoms k d)) (near k d h)))

mixed_few : (s : GridSev) → IsGridSev s → length (mixed_pairs s) ≤ most_values
mixed_few s grid =
    omega (arith, all_mixed_few (weights_of s) (map atom_pairs s.atoms), pairs_few s.atoms, grid.together)

-- ---- the layer

filter_few : {X : Type 0} (p : X → Bool) (xs : List X) → length (filter p xs) ≤ length xs
filter_few p xs = omega (arith, length-filter p xs, count_by-le-length p xs)

conditioned_near : (b a : ℕ) (ps : Pairs) → Near b ps → Near b (conditioned a ps)
conditioned_near b a ps h = All-map (λ pair. pair.0 ≤ b) _ (filter (λ pair. nat_lt a pair.0) ps)
    (All-filter (λ pair. nat_lt a pair.0) (λ pair. pair.0 ≤ b) ps h)

conditioned_few : (a : ℕ) (ps : Pairs) → length (conditioned a ps) ≤ length ps
conditioned_few a ps = rw length-map (filter_few (λ pair. nat_lt a pair.0) ps)

mapped_near : (b : ℕ) (f : ℕ → ℕ) (ps : Pairs) → ((x : ℕ) → f x ≤ x) → Near b ps → Near b (with_amounts f ps)
mapped_near b f ps le h =
    All-map (λ pair. pair.0 ≤ b) (λ (pair : ℕ × Fraction). (f pair.0, pair.1)) ps
    (All-weaker (λ pair. pair.0 ≤ b) (λ pair. f pair.0 ≤ b) (λ pair near. omega (arith, le pair.0, near)) ps h)

layered_near : (b : ℕ) (limit : Option ℕ) (a : ℕ) (large : Bool) (ps : Pairs) → Near b ps
    → Near b (layered limit a (cond large (conditioned a ps) ps))
layered_near b limit a large ps h = mapped_near b (layer limit a) (cond large (conditioned a ps) ps) (layer_le limit a)
    (cond_both large (conditioned a ps) ps (Near b) (λ _. conditioned_near b a ps h) (λ _. h))

layered_few : (limit : Option ℕ) (a : ℕ) (large : Bool) (ps : Pairs)
    → length (layered limit a (cond large (conditioned a ps) ps)) ≤ length ps
layered_few limit a large ps =
    rw length-map (cond_both large (conditioned a ps) ps (λ qs. length qs ≤ length ps) (λ _. conditioned_few a ps) (λ _. le_refl _))

-- a layer has no greater amounts, and no more of them
pub in_layer_near : (o : Option GridLayer) (bang : Bool) (s : GridSev) (b : ℕ) → IsSevWithin b s
    → Near b (layer_pairs o bang s)
in_layer_near None bang s b near = mixed_near b s near
in_layer_near (Some l) bang s b near =
    layered_near b l.limit l.attach (is_conditioned bang l) (mixed_pairs s) (mixed_near b s near)

pub in_layer_few : (o : Option GridLayer) (bang : Bool) (s : GridSev) → IsGridSev s
    → length (layer_pairs o bang s) ≤ most_values
in_layer_few None bang s grid = mixed_few s grid
in_layer_few (Some l) bang s grid =
    omega (arith, layered_few l.limit l.attach (is_conditioned bang l) (mixed_pairs s), mixed_few s grid)

-- ---- rising amounts that all stand in a list are no more than it has

same_laws : IsEquivalence ◌==◌
same_laws = record {
  refl = λ x. grind arith;
  symm = λ x y. grind (arith, nat_tests);
  congr = λ x y z e. grind (arith, nat_tests, e);
}

members_few : (sev : Sev) (ps : Pairs) → HasDistribution sev ps → length (amounts_of sev.items) ≤ length (support ps)
members_few sev ps means =
    let xs : List ℕ = amounts_of sev.items in
    let Q : ℕ → Type 0 = λ x. is_member ◌==◌ (support ps) x ≡ true in
    length-le_from_is_member same_laws xs (support ps)
    (IsDistinct-from_AllPairs Decides-eqb xs
    (λ i j d p q e. omega (arith, e, AllPairs-from_increasing xs sev.weighted.rising i j d p q)))
    (λ q h. All-contains Q xs q
    (All-map Q (λ (i : Item). i.amount) sev.items (items_in sev ps means Q (All-is_member same_laws (support ps))))
    ((is_member-Decides Decides-eqb xs q).0 h))

support_few : (ps : Pairs) → length (support ps) ≤ length ps
support_few ps = rw length-map (filter_few (λ pair. is_positive pair.1) ps)

-- a severity has no more items than what it means has amounts
pub items_few : (sev : Sev) (ps : Pairs) → HasDistribution sev ps → length sev.items ≤ length ps
items_few sev ps means =
    omega (
      arith,
      support_few ps,
      members_few sev ps means,
      length-map sev.items (λ (i : Item). i.amount),
    )

pub items_near : (b : ℕ) (sev : Sev) (ps : Pairs) → HasDistribution sev ps → Near b ps
    → All (λ (i : Item). i.amount ≤ b) sev.items
items_near b sev ps means near = items_in sev ps means (λ x. x ≤ b) (support_all (λ x. x ≤ b) ps near)

-- ---- the occurrence clause

kept_small : (clause : Clause) (x : ℕ) → IsClause clause → IsWhole (kept clause x) → (kept clause x).num ≤ x
kept_small clause x is_clause is =
    let c : ℕ = parts_in_bucket clause in
    let p : ℕ = kept_parts clause c x in
    let le : p ≤ c * x = omega (arith, kept_le clause c x is_clause) in
    rw (kept_whole clause x c p refl refl (kept_only clause x c p refl refl is), whole_num (p / c)) (div-le_of_le-mul c le)

-- a clause with fine shares that maps each amount of positive probability to a whole number makes none greater
pub ceded_near : (b : ℕ) (clause : Clause) (ps : Pairs) → IsClause clause
    → All (λ x. IsWhole (kept clause x)) (support ps) → Near b ps
    → All (λ x. x ≤ b) (support (ceded_each clause ps))
ceded_near b clause ps is_clause w near =
    subst (All (λ x. x ≤ b)) (sym (support-mapped (λ x. (kept clause x).num) ps))
    (All-map (λ x. x ≤ b) (λ x. (kept clause x).num) (support ps)
    (λ k d h. le_trans (kept_small clause (get_or (support ps) k d) is_clause (w k d h))
    (support_all (λ x. x ≤ b) ps near k d h)))
