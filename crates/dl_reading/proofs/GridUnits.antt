-- What a unit without flaws keeps in whole buckets, part by part.
use Rattle.dl_reading.proofs.Common.{ℕ, ◌≡◌, ◌∙◌, ◌*◌, ◌≤◌, ◌&&◌, List, [], ◌∷◌, map, list_any_none, nat_tests, or_parts, sum_by, sum_by-cons, GridAtom, are_many_values, is_long_mixture, values_in, most_values, length, nat_lt, not, Option, Some, None, refl, sym, ap, arith, All, IfSome, length-map, All-map, eqb-true, eq-eqb, not-false, not_at, Fraction, whole, whole_num, whole_den, Span, IsShares, ◌over◌, subst, probs_among, IsClean, flaws_else, number_of, grid_atom, grid_layer, grid_ceded, grid_clause, grid_mixture, GridLayer, IsGridAtom, IsGridSev, IsLayerWithin, IsClauseWithin, IsSevWithin, IsGridClause, IsGridUnit, IsWithin, other_length, most_amount, most_atoms, most_layers, buckets, Numeral, ListAst, Atom, MixAst, IsFormedAtom, IsFormedMixture, IsFormedCession, IsFormedCount, IsFormedUnit, Flaws, flaws_in, flaws_within, earlier_flaws, long_at, grid_shares, limit_value, grid_exposure, grid_freq, grid_count, zero_value, given_zero, flaws_of_numeral, flaws_of_amount, flaws_of_money, flaws_of_list, flaws_of_amounts, flaws_of_shares, flaws_beside, flaws_of_atom, flaws_of_mixture, flaws_of_limit, flaws_of_layer, flaws_of_share, flaws_of_ceded, flaws_of_clause, flaws_of_exposure, flaws_of_count, flaws_of_freq, flaws_of_zero, flaws_of_distribution, is_named, if_there, value, values_of, spanned_values, Bounds, AreBounds, ltb-false, IfSome_then, length-replicate, LimitAst, Finite, Infinite, Layer, Cession, Exposure, Claims, Loss, Premium, FreqAst, Fixed, Poisson, Geometric, Bernoulli, Binomial, Gamma, ZeroAst, Plain, Truncated, Modified, CountAst, UnitAst, at_if, grid_of, flaws_of, count_lengths, IsSmall, IsGridExposure, IsGridFreq, IsGridCount}
use Rattle.std.proofs.Math.Nat.{le_trans}
use Rattle.dl_ast.specs.declared.ast.CountAst.TheVariants.{Exposed, Listed}
use Rattle.dl_reading.proofs.Clean.{each_none, clean_first, clean_second, clean_both, clean_earlier, clean_each}
use Rattle.dl_reading.proofs.ItemRanges.{number_is, list_few, list_is}

-- what holds of each part without flaws holds of one that may be missing
if_there_is : {A B : Type 0} (f : A → Flaws) (g : A → B) (P : B → Type 0) → ((x : A) → IsClean (f x) → P (g x))
    → (o : Option A) → IsClean (flaws_within f o) → IfSome (if_there g o) P
if_there_is f g P each None clean = tt
if_there_is f g P each (Some x) clean = each x clean

-- ---- the lists of probabilities

shares_is : (bounds : Bounds) (l : ListAst) → IsClean (flaws_of_shares bounds l) → IsShares (grid_shares l)
shares_is bounds l clean = record { weights = refl }

module _ (bounds : Bounds) (n : ℕ) where
  beside_is : (o : Option ListAst) → IsClean (flaws_within (flaws_beside bounds n) o) → IfSome (if_there grid_shares o) IsShares
  beside_is = if_there_is (flaws_beside bounds n) grid_shares IsShares (λ l clean. shares_is bounds l (clean_first (flaws_of_shares bounds l) _ clean))

  -- as many as the values
  beside_length : (o : Option ListAst) → IsClean (flaws_within (flaws_beside bounds n) o)
      → length (probs_among n (if_there grid_shares o)) ≡ n
  beside_length None clean = length-replicate n (1 over n)
  beside_length (Some l) clean =
      length-map (spanned_values l) (λ pair. pair.0)
      ∙ sym (eqb-true n (length (spanned_values l)) (not-false _ (not_at _ l.span
      (each_none _ (clean_second (flaws_of_shares bounds l) _ clean)).lengths)))

-- ---- amounts of money

pub amount_small : (most : ℕ) (bs x : Fraction) (span : Span) → IsClean (flaws_of_amount most bs x span)
    → number_of bs x ≤ most
amount_small most bs x span clean =
    let none = each_none (flaws_of_amount most bs x span) clean in
    let one : (buckets bs x).den ≡ 1 = eqb-true _ 1 (not-false _ (not_at _ span none.off_grid)) in
    let near = ltb-false ((whole most).num * (buckets bs x).den) ((buckets bs x).num * (whole most).den)
    (not_at _ span none.too_far) in
    omega (arith, rw (whole_num most, whole_den most, one) at near)

money_small : (most : ℕ) (bs : Fraction) (span : Span) (n : Numeral) → IsClean (flaws_of_money most bs span n)
    → number_of bs (value n) ≤ most
money_small most bs span n clean =
    amount_small most bs (value n) span (clean_second (flaws_of_numeral n) _ clean)

abbrev pub too_long : Bounds → MixAst → Flaws
too_long bounds m = long_at (at_if (is_long_mixture bounds m) m.span)

-- not too many atoms, nor too many values where none of their lists is too long
pub not_long : (bounds : Bounds) (m : MixAst) → IsClean (too_long bounds m) → All (λ a. values_in a ≤ bounds.values) m.atoms
    → (length m.atoms ≤ most_atoms) × (sum_by values_in m.atoms ≤ most_values)
not_long bounds m clean each =
    let tests = or_parts (nat_lt most_atoms (length m.atoms)) (are_many_values bounds m.atoms)
    (not_at _ m.span (each_none (too_long bounds m) clean).long) in
    let none = list_any_none (λ a. nat_lt bounds.values (values_in a)) m.atoms
    (λ k d h. grind (arith, nat_tests, each k d h)) in (
      ltb-false most_atoms (length m.atoms) tests.0,
      ltb-false most_values (sum_by values_in m.atoms)
          (ap (λ b. not b && nat_lt most_values (sum_by values_in m.atoms)) (sym none) ∙ tests.1),
    )

module _ (bounds : Bounds) (most : ℕ) (bs : Fraction) where
  -- ---- the severity

  atom_within : (a : Atom) → IsClean (flaws_of_atom bounds most bs a)
      → All (λ n. n ≤ most) (grid_atom bs a).amounts
  atom_within a clean =
      let each = clean_each (λ pair. flaws_of_amount most bs pair.0 pair.1) (spanned_values a.values)
      (clean_second (flaws_of_list bounds a.values) _ (clean_first (flaws_of_amounts bounds most bs a.values) _ clean)) in
      All-map (λ n. n ≤ most) (number_of bs) (values_of a.values)
      (All-map (λ x. number_of bs x ≤ most) (λ pair. pair.0) (spanned_values a.values)
      (λ k d h. amount_small most bs _ _ (each k d h)))

  mixture_atoms : (m : MixAst) → IsClean (flaws_of_mixture bounds most bs m)
      → All (λ a. IsClean (flaws_of_atom bounds most bs a)) m.atoms
  mixture_atoms m clean = clean_each (flaws_of_atom bounds most bs) m.atoms
      (clean_first (flaws_in (flaws_of_atom bounds most bs) m.atoms) _ (clean_second (too_long bounds m) _ clean))

  sev_within : (m : MixAst) → IsClean (flaws_of_mixture bounds most bs m) → IsSevWithin most (grid_mixture bs m)
  sev_within m clean = All-map (λ a. All (λ n. n ≤ most) a.amounts) (grid_atom bs) m.atoms
      (λ k d h. atom_within _ (mixture_atoms m clean k d h))

  -- ---- layers and clauses

  limit_small : (span : Span) (limit : LimitAst) → IsClean (flaws_of_limit most bs span limit)
      → IfSome (if_there (number_of bs) (limit_value limit)) (λ n. n ≤ most)
  limit_small span (Finite n) clean = money_small most bs span n clean
  limit_small span Infinite clean = tt

  layer_within : (l : Layer) → IsClean (flaws_of_layer most bs l) → IsLayerWithin most (grid_layer bs l)
  layer_within l clean = record {
    limit = limit_small l.span l.limit (clean_first (flaws_of_limit most bs l.span l.limit) _ clean);
    attach = money_small most bs l.span l.attach (clean_second (flaws_of_limit most bs l.span l.limit) _ clean);
  }

  clause_within : (c : Cession) → IsClean (flaws_of_clause most bs c) → IsClauseWithin most (grid_clause bs c)
  clause_within c clean =
      let each = clean_each (flaws_of_ceded most bs) c.layers
      (clean_first (flaws_in (flaws_of_ceded most bs) c.layers) _ clean) in
      All-map (λ l. IsLayerWithin most l.layer) (grid_ceded bs) c.layers
      (λ k d h. layer_within _ (clean_second (flaws_of_share _) _ (each k d h)))

-- the atoms have as many amounts as values
atoms_sum : (bs : Fraction) (atoms : List Atom)
    → sum_by (λ (a : GridAtom). length a.amounts) (map (grid_atom bs) atoms) ≡ sum_by values_in atoms
atoms_sum bs [] = refl
atoms_sum bs (a ∷ atoms) =
    omega (
      arith,
      sum_by-cons (λ (g : GridAtom). length g.amounts) (grid_atom bs a) (map (grid_atom bs) atoms),
      sum_by-cons values_in a atoms,
      length-map (values_of a.values) (number_of bs),
      length-map (spanned_values a.values) (λ pair. pair.0),
      atoms_sum bs atoms,
    )

-- ---- what holds of any amounts of at most 2^22

layer_weaker : (m n : ℕ) (l : GridLayer) → m ≤ n → IsLayerWithin m l → IsLayerWithin n l
layer_weaker m n l le h = record {
  limit = IfSome_then l.limit h.limit (λ k e. le_trans e le);
  attach = le_trans h.attach le;
}

module _ (bounds : Bounds) (within : AreBounds bounds) (most : ℕ) (bs : Fraction) (le : most ≤ most_amount) where
  atom_is : (a : Atom) → IsFormedAtom a → IsClean (flaws_of_atom bounds most bs a) → IsGridAtom (grid_atom bs a)
  atom_is a formed clean =
      let both = clean_both (flaws_of_amounts bounds most bs a.values) _ clean in
      let list = list_is bounds within a.values formed.values (clean_first (flaws_of_list bounds a.values) _ both.0) in
      let each = length-map (values_of a.values) (number_of bs) in
      record {
        some = omega (arith, each, list.some);
        few = omega (arith, each, list.few);
        near = λ k d h. le_trans (atom_within bounds most bs a clean k d h) le;
        probs = beside_is bounds (length (spanned_values a.values)) a.probs both.1;
        each = subst (λ n. length (probs_among n (if_there grid_shares a.probs)) ≡ n)
            (sym (each ∙ length-map (spanned_values a.values) (λ pair. pair.0)))
            (beside_length bounds (length (spanned_values a.values)) a.probs both.1);
      }

  sev_is : (m : MixAst) → IsFormedMixture m → IsClean (flaws_of_mixture bounds most bs m)
      → IsGridSev (grid_mixture bs m)
  sev_is m formed clean =
      let each = length-map m.atoms (grid_atom bs) in
      let long = not_long bounds m (clean_first (too_long bounds m) _ clean) (λ k d h.
      list_few bounds _ (clean_first (flaws_of_list bounds _) _ (clean_first (flaws_of_amounts bounds most bs _) _
      (mixture_atoms bounds most bs m clean k d h)))) in
      record {
        atoms = All-map IsGridAtom (grid_atom bs) m.atoms
            (λ k d h. atom_is _ (formed.atoms k d h) (mixture_atoms bounds most bs m clean k d h));
        some = omega (arith, each, formed.some);
        few = omega (arith, each, long.0);
        together = omega (arith, atoms_sum bs m.atoms, long.1);
        weights = if_there_is (flaws_of_shares bounds) grid_shares IsShares (shares_is bounds) m.weights
            (clean_second (flaws_in (flaws_of_atom bounds most bs) m.atoms) _ (clean_second (too_long bounds m) _ clean));
      }

  clause_is : (o : Option Cession) → IfSome o IsFormedCession
      → IsClean (flaws_within (flaws_of_clause most bs) o)
      → IfSome (if_there (grid_clause bs) o) IsGridClause
  clause_is None formed clean = tt
  clause_is (Some c) formed clean =
      let each = length-map c.layers (grid_ceded bs) in
      let long = clean_second (flaws_in (flaws_of_ceded most bs) c.layers) _ clean in
      record {
        some = omega (arith, each, formed.some);
        few = omega (arith, each, ltb-false most_layers (length c.layers) (not_at _ c.span (each_none _ long).long));
        layers = λ k d h. layer_weaker most most_amount _ le (clause_within bounds most bs c clean k d h);
      }

-- ---- the count

exposure_is : (e : Exposure) → IsClean (flaws_of_exposure e) → IsGridExposure (grid_exposure e)
exposure_is (Claims n span) clean = number_is n clean
exposure_is (Loss n span) clean = number_is n clean
exposure_is (Premium p r span) clean =
    let both = clean_both (flaws_of_numeral p) _ clean in (number_is p both.0, number_is r both.1)

freq_is : (f : FreqAst) → IsClean (flaws_of_freq f) → IsGridFreq (grid_freq f)
freq_is (Fixed span) clean = tt
freq_is (Poisson span) clean = tt
freq_is (Geometric span) clean = record { num = omega (arith, whole_num 1); den = omega (arith, whole_den 1) }
freq_is (Bernoulli span) clean = tt
freq_is (Binomial n span) clean = number_is n clean
freq_is (Gamma n span) clean = number_is n clean

zero_is : (z : ZeroAst) → IsClean (flaws_of_zero z) → IfSome (zero_value z) IsSmall
zero_is Plain clean = tt
zero_is (Truncated span) clean = record { num = omega (arith, whole_num 0); den = omega (arith, whole_den 0) }
zero_is (Modified n span) clean = number_is n clean

count_is : (bounds : Bounds) → AreBounds bounds → (k : CountAst) → IsFormedCount k → IsClean (flaws_of_count bounds k) → IsClean (flaws_of_distribution k)
    → IsGridCount (grid_count k)
count_is bounds within (Exposed exposure freq zero) formed clean later =
    (exposure_is exposure clean, freq_is freq (clean_first (flaws_of_freq freq) _ later))
count_is bounds within (Listed values probs span) formed clean later =
    let both = clean_both (flaws_of_list bounds values) _ clean in
    (list_is bounds within values formed.0 both.0, beside_is bounds (length (spanned_values values)) probs both.1)

paired_is : (bounds : Bounds) (k : CountAst) → IsClean (flaws_of_count bounds k) → count_lengths (grid_count k) ≡ None
unfolding other_length
paired_is bounds (Exposed exposure freq zero) clean = refl
paired_is bounds (Listed values None span) clean = refl
paired_is bounds (Listed values (Some l) span) clean =
    let each = length-map (spanned_values values) (λ pair. pair.0) in
    let same = beside_length bounds (length (spanned_values values)) (Some l) (clean_second (flaws_of_list bounds values) _ clean) in
    ap (λ b. at_if (not b) l.span) (eq-eqb (length (values_of values)) (length (values_of l)) (each ∙ sym same))

given_is : (k : CountAst) → IsClean (flaws_of_distribution k) → IfSome (given_zero k) IsSmall
given_is (Exposed exposure freq zero) clean = zero_is zero (clean_second (flaws_of_freq freq) _ clean)
given_is (Listed values probs span) clean = tt

-- ---- the unit

module _ (bounds : Bounds) (most : ℕ) (bs : Fraction) (u : UnitAst) (m : MixAst) (clean : IsClean (flaws_of bounds most bs u m)) where
  abbrev own : Flaws
  own = flaws_else (flaws_of_count bounds u.count) (flaws_within (flaws_of_layer most bs) u.layer)

  abbrev front : Flaws
  front = earlier_flaws (is_named u.sev.body) own (flaws_of_mixture bounds most bs m)

  parts : IsClean front × IsClean (flaws_within (flaws_of_clause most bs) u.occ)
      × (IsClean (flaws_of_distribution u.count) × IsClean (flaws_within (flaws_of_clause most bs) u.agr))
  unfolding flaws_of
  parts =
      let outer = clean_both front _ clean in
      let terms = clean_both (flaws_within (flaws_of_clause most bs) u.occ) _ outer.1 in
      (outer.0, terms.0, clean_both (flaws_of_distribution u.count) _ terms.1)

  fronts : (IsClean (flaws_of_count bounds u.count) × IsClean (flaws_within (flaws_of_layer most bs) u.layer))
      × IsClean (flaws_of_mixture bounds most bs m)
  fronts =
      let both = clean_earlier (is_named u.sev.body) own (flaws_of_mixture bounds most bs m) parts.0 in
      (clean_both (flaws_of_count bounds u.count) _ both.0, both.1)

  -- no amount passes the most
  pub within_is : IsWithin most (grid_of bs u m)
  unfolding grid_of
  within_is = record {
    layer = if_there_is (flaws_of_layer most bs) (grid_layer bs) (IsLayerWithin most) (layer_within bounds most bs) u.layer fronts.0.1;
    sev = sev_within bounds most bs m fronts.1;
    occ = if_there_is (flaws_of_clause most bs) (grid_clause bs) (IsClauseWithin most) (clause_within bounds most bs) u.occ parts.1;
    agr = if_there_is (flaws_of_clause most bs) (grid_clause bs) (IsClauseWithin most) (clause_within bounds most bs) u.agr parts.2.1;
  }

  pub grid_is : AreBounds bounds → most ≤ most_amount → IsFormedUnit u → IsFormedMixture m → IsGridUnit (grid_of bs u m)
  unfolding grid_of
  grid_is within le formed mixed = record {
    count = count_is bounds within u.count formed.count fronts.0.0 parts.2.0;
    paired = paired_is bounds u.count fronts.0.0;
    layer = if_there_is (flaws_of_layer most bs) (grid_layer bs) (IsLayerWithin most_amount)
        (λ l own. layer_weaker most most_amount _ le (layer_within bounds most bs l own)) u.layer fronts.0.1;
    sev = sev_is bounds within most bs le m mixed fronts.1;
    zero = given_is u.count parts.2.0;
    occ = clause_is bounds within most bs le u.occ formed.occ parts.1;
    agr = clause_is bounds within most bs le u.agr formed.agr parts.2.1;
  }
