-- Layers that keep the rules make a clause where their shares are fine.
use Rattle.dl_reading.proofs.Common.{le-leb, Clause, or_parts, false_from_ne_true, leb-true, ◌≡◌, ◌∙◌, ℕ, zero, suc, ◌*◌, ◌^◌, ◌<◌, ◌≤◌, List, [], ◌∷◌, ◌++◌, length, map, take, get_or, Option, None, true, false, sym, ap, subst, arith, append_assoc, mul-pos, inl, inr, Some, All, list_any, append-nil, get_or-map, length-map, length-take, All-map, list_any_at, Fraction, whole, ◌/ℚ◌, ◌≤ℚ◌, quotient_is, CedeLayer, IsFineTo30Bits, common_denominator, Overlap, IsClause, common_pos, den_divides, GridCeded, GridClause, in_turn, is_fine, is_above, share_of, shares_of, ceded_layer, clause_of, overlaps, share_exceeds, share_above_one_in, overlap_in, IsClauseLayered, else_first, else_second, none_each, not_at, most_parts, ltb-false, layer_shares, AllPairs, get_or-take, le_of_dvd, GridShare, is_zero, map-map, over_le, IsTooFine, num_le_den}
use Rattle.dl_reading.proofs.Values.{not_above, zero_above}
use Rattle.std.specs.Prelude.{◌||◌}
use Rattle.dl_exact.proofs.Laws.{le_refl}
use Rattle.dl_reading.specs.declared.grid.GridShare.TheVariants.{Whole, So, Po}
use Rattle.dl_reading.proofs.Turns.{yes_overlap, overlap_at, share_at}

-- ---- fine shares

-- a share with a great denominator is not fine
pub one_too_fine : (xs : List Fraction) (i : ℕ) (d : Fraction) → i < length xs → 2 ^ 30 < (get_or xs i d).den
    → is_fine most_parts xs ≡ false
one_too_fine xs i d h far = false_from_ne_true (is_fine most_parts xs)
    (λ yes. let le : (get_or xs i d).den ≤ common_denominator xs = le_of_dvd (common_pos xs) (den_divides 1 xs i d h) in
    omega (arith, le, leb-true (common_denominator xs) (2 ^ 30) yes, far))

-- ---- shares of at most 1

pub part_tests : (x y : Fraction) → (is_above x y || is_zero y) ≡ false → (x.num * y.den ≤ y.num * x.den) × (0 < y.num)
part_tests x y h =
    let tests = or_parts (is_above x y) (is_zero y) h in
    (ltb-false (y.num * x.den) (x.num * y.den) tests.0, zero_above y.num tests.1)

part_le : (x y : Fraction) → (is_above x y || is_zero y) ≡ false → x /ℚ y ≤ℚ whole 1
part_le x y h =
    let tests = part_tests x y h in
    subst (λ z. z ≤ℚ whole 1) (quotient_is x y)
    (over_le (x.num * y.den) (x.den * y.num) 1 1 (mul-pos x.positive tests.1) (omega arith) (omega (arith, tests.0)))

-- a part of a limit that is too fine has a great denominator
pub part_far : (x y : Fraction) → (is_above x y || is_zero y) ≡ false → IsTooFine (x /ℚ y) → 2 ^ 30 < (x /ℚ y).den
part_far x y h far = elim far [
  | inl num ↦ omega (arith, num, num_le_den (x /ℚ y) (part_le x y h))
  | inr den ↦ omega (arith, den)
]

share_le : (s : GridShare) → share_exceeds s ≡ false → share_of s ≤ℚ whole 1
share_le Whole e = le_refl (whole 1)
share_le (So x) e = not_above x (whole 1) e
share_le (Po x (Some n)) e = part_le x n e
share_le (Po x None) e = absurd (cc)

pub shares_kept : (c : GridClause) → share_above_one_in c ≡ None
    → All (λ (l : GridCeded). share_exceeds l.share ≡ false) c.layers
unfolding share_above_one_in
shares_kept c e k d h = not_at _ _ (none_each share_at c.layers e k d h)

-- ---- no overlap

pub turn_none : {A B : Type 0} (g : List A → A → Option B) (seen xs : List A) → in_turn g seen xs ≡ None
    → (j : ℕ) (d : A) → j < length xs → g (seen ++ take j xs) (get_or xs j d) ≡ None
unfolding in_turn
turn_none g seen [] e j d h = absurd (omega (arith, h))
turn_none g seen (y ∷ ys) e zero d h = subst (λ s. g s y ≡ None) (sym (append-nil seen)) (else_first (g seen y) _ e)
turn_none g seen (y ∷ ys) e (suc j) d h = subst (λ s. g s (get_or ys j d) ≡ None)
    (append_assoc seen (y ∷ []) (take j ys)) (turn_none g (seen ++ y ∷ []) ys (else_second (g seen y) _ e) j d
    (omega (arith, h)))

pairs_apart : (xs : List GridCeded) → in_turn overlap_at [] xs ≡ None → (i j : ℕ) (d : GridCeded)
    → i < j → j < length xs
    → overlaps (ceded_layer (get_or xs i d)) (ceded_layer (get_or xs j d)) ≡ true → ⊥
pairs_apart xs e i j d p q meet =
    let p_at = λ (m : GridCeded). overlaps (ceded_layer m) (ceded_layer (get_or xs j d)) in
    let none : list_any p_at (take j xs) ≡ false = not_at _ _ (turn_none overlap_at [] xs e j d q) in
    let same : get_or (take j xs) i d ≡ get_or xs i d = get_or-take j xs i d p in
    let some : list_any p_at (take j xs) ≡ true = list_any_at p_at (take j xs) i d
    (omega (arith, p, q, length-take j xs)) (ap p_at same ∙ meet) in
    absurd (cc (none, some))

pairs_map : {X Y : Type 0} (R : Y → Y → Type 0) (f : X → Y) (xs : List X)
    → ((i j : ℕ) (d : X) → i < j → j < length xs → R (f (get_or xs i d)) (f (get_or xs j d))) → AllPairs R (map f xs)
pairs_map R f [] h i j d p q = absurd (omega (arith, q))
pairs_map R f (y ∷ ys) h i j d p q =
    let lt : j < length (y ∷ ys) = omega (arith, q, length-map (y ∷ ys) f) in
    subst (λ a. R a (get_or (map f (y ∷ ys)) j d)) (sym (get_or-map f (y ∷ ys) i y d (omega (arith, p, lt))))
    (subst (λ b. R (f (get_or (y ∷ ys) i y)) b) (sym (get_or-map f (y ∷ ys) j y d lt)) (h i j y p lt))

-- a clause has fine shares
pub clause_fine : (c : GridClause) (clause : Clause) → (clause ≡ clause_of c) × IsClause clause
    → is_fine most_parts (shares_of c) ≡ true
clause_fine c clause told = le-leb (common_denominator (shares_of c)) (2 ^ 30) (subst IsFineTo30Bits
    (ap (λ (d : Clause). layer_shares d.1) told.0 ∙ map-map (λ (l : CedeLayer). l.share) ceded_layer c.layers) told.1.fine)

-- ---- the clause

module _ (c : GridClause) (layered : IsClauseLayered c) where
  turned : in_turn overlap_at [] c.layers ≡ None
  unfolding overlap_in
  turned = layered.apart

  pub made_is_clause : is_fine most_parts (shares_of c) ≡ true → IsClause (clause_of c)
  made_is_clause fine = record {
    some = omega (arith, length-map c.layers ceded_layer, layered.grid.some);
    few = omega (arith, length-map c.layers ceded_layer, layered.grid.few);
    apart = pairs_map (λ l m. ¬ Overlap l m) ceded_layer c.layers
        (λ i j d p q o. pairs_apart c.layers turned i j d p q
        (yes_overlap (ceded_layer (get_or c.layers i d)) (ceded_layer (get_or c.layers j d)) o));
    within = All-map (λ l. l.share ≤ℚ whole 1) ceded_layer c.layers
        (λ k d h. share_le (get_or c.layers k d).share
        (shares_kept c layered.within k d h));
    fine = subst IsFineTo30Bits (sym (map-map (λ (l : CedeLayer). l.share) ceded_layer c.layers))
        (leb-true (common_denominator (shares_of c)) (2 ^ 30) fine);
  }

  pub no_clause : (IsClause (clause_of c) → ⊥) → is_fine most_parts (shares_of c) ≡ false
  no_clause none = false_from_ne_true (is_fine most_parts (shares_of c)) (λ fine. none (made_is_clause fine))
