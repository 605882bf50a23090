-- The products of the atoms of a mixture are fine exactly where those of the text are.
use Rattle.dl_reading.proofs.Common.{refl, ℕ, ◌≡◌, ◌∙◌, ◌+◌, ◌<◌, ◌==◌, List, [], ◌∷◌, ◌++◌, map, true, false, le-leb, cond, sym, ap, subst, arith, inl, inr, AllZip, All, ◌∣◌, eqb_tells, map-append, All-nil, All-head, All-tail, All-append, All-map, sum_by-cons, Fraction, whole, ◌over◌, ◌*ℚ◌, times_zero, Item, Sev, common_denominator, weight_at, Pairs, probability, pairs_of, HasDistribution, den_divides, whole_den, Weights, IsWeighing, scaled, mixture_of, mixture, is_fine, shares_in_mixture, ◌≤◌, common_from_divides}
use Rattle.dl_exact.proofs.Denominators.{over_zero as zero_over}
use Rattle.dl_plan.proofs.Means.{severity_total as total_pos}
use Rattle.dl_reading.proofs.Shared.{all_left, all_right, coarse_test, fine_with}
use Rattle.dl_reading.proofs.Firsts.{from_map}
use Rattle.dl_reading.proofs.Items.{Rising, products_are, rises, none_later}
use Rattle.dl_reading.proofs.Mixing.{mixture_fine}

-- what holds of 0 and of each weight holds of the weight of each amount
at_weight : (Q : ℕ → Type 0) (items : List Item) → Rising items → Q 0 → All (λ (i : Item). Q i.weight) items → (x : ℕ)
    → Q (weight_at items x)
at_weight Q [] rising none all x = none
at_weight Q (i ∷ items) rising none all x = elim (eqb_tells i.amount x) [
  | inl same ↦
      let own : cond (i.amount == x) i.weight 0 ≡ i.weight = rw same.0 refl in
      let past = none_later items x (subst (λ n. All (λ (j : Item). n < j.amount) items) same.1 rising.0) in
      let all_of : weight_at (i ∷ items) x ≡ i.weight = omega (arith, step, own, past) in
      subst Q (sym all_of) (All-head (λ (j : Item). Q j.weight) i items all)
  | inr other ↦
      let apart : cond (i.amount == x) i.weight 0 ≡ 0 = rw other.0 refl in
      let rest : weight_at (i ∷ items) x ≡ weight_at items x = omega (arith, step, apart) in
      subst Q (sym rest) (at_weight Q items rising.1 none (All-tail (λ (j : Item). Q j.weight) i items all) x)
]
  where
    step : weight_at (i ∷ items) x ≡ cond (i.amount == x) i.weight 0 + weight_at items x
    step = sum_by-cons (λ (j : Item). cond (j.amount == x) j.weight 0) i items

-- what holds of 0 and of each product of an atom holds of each product of what it means
atom_back : (P : Fraction → Type 0) (w : Fraction) (sev : Sev) (ps : Pairs) → HasDistribution sev ps → P (whole 0)
    → All P (map (λ pair. pair.1) (scaled w (pairs_of sev))) → (x : ℕ) → P (w *ℚ probability ps x)
atom_back P w sev ps means none all x =
    subst (λ t. P (w *ℚ t)) (means x)
    (at_weight (λ n. P (w *ℚ n over sev.total)) sev.items (rises sev.items sev.weighted.rising)
    (subst P (sym (ap (λ t. w *ℚ t) (zero_over sev.total (total_pos sev)) ∙ times_zero w)) none)
    (from_map P (λ (i : Item). w *ℚ i.weight over sev.total) sev.items
    (subst (All P) (products_are w sev.total sev.items) all)) x)

mixture_back : (P : Fraction → Type 0) (t : ℕ) (atoms : List Sev) (ws : List ℕ) (lists : List Pairs)
    → AllZip HasDistribution atoms lists → P (whole 0)
    → All P (map (λ pair. pair.1) (mixture_of t atoms ws)) → All P (shares_in_mixture (map (λ w. w over t) ws) lists)
mixture_back P t (a ∷ atoms) (w ∷ ws) (ps ∷ lists) means none all =
    let first : Pairs = scaled (w over t) (pairs_of a) in
    let others : Pairs = mixture_of t atoms ws in
    let apart : All P (map (λ pair. pair.1) first ++ map (λ pair. pair.1) others) =
    subst (All P) (map-append (λ pair. pair.1) first others) all in
    All-append P (map (λ pair. w over t *ℚ probability ps pair.0) ps) (shares_in_mixture (map (λ v. v over t) ws) lists)
    (All-map P (λ (pair : ℕ × Fraction). w over t *ℚ probability ps pair.0) ps
    (λ k d h. atom_back P (w over t) a ps means.0 none
    (all_left P (map (λ pair. pair.1) first) (map (λ pair. pair.1) others) apart) _))
    (mixture_back P t atoms ws lists means.1 none
    (all_right P (map (λ pair. pair.1) first) (map (λ pair. pair.1) others) apart))
mixture_back P t [] ws (ps ∷ lists) means none all = absurd means
mixture_back P t (a ∷ atoms) ws [] means none all = absurd means
mixture_back P t [] (w ∷ ws) [] means none all = All-nil P
mixture_back P t atoms ws lists means none all = All-nil P

module _ (atoms : List Sev) (weights : Weights) (probs : List Fraction) (lists : List Pairs)
    (is : IsWeighing probs weights) (means : AllZip HasDistribution atoms lists) where
  fine_back : (most : ℕ) → common_denominator (map (λ pair. pair.1) (mixture atoms weights)) ≤ most
      → common_denominator (shares_in_mixture probs lists) ≤ most
  fine_back most fine =
      let all : List Fraction = map (λ pair. pair.1) (mixture atoms weights) in
      let c : ℕ = common_denominator all in
      fine_with most (shares_in_mixture probs lists) all
      (subst (λ ws. All (λ x. x.den ∣ c) (shares_in_mixture ws lists)) is.shares
      (mixture_back (λ x. x.den ∣ c) weights.total atoms weights.weights lists means
      (subst (λ d. d ∣ c) (sym (whole_den 0)) (common_from_divides 1 all)) (den_divides 1 all))) fine

  pub mixed_fine : (most : ℕ) → common_denominator (map (λ pair. pair.1) (mixture atoms weights)) ≤ most
      → is_fine most (shares_in_mixture probs lists) ≡ true
  mixed_fine most fine = le-leb (common_denominator (shares_in_mixture probs lists)) most (fine_back most fine)

  pub mixed_coarse : (most : ℕ) → ¬ common_denominator (map (λ pair. pair.1) (mixture atoms weights)) ≤ most
      → is_fine most (shares_in_mixture probs lists) ≡ false
  mixed_coarse most coarse = coarse_test most (shares_in_mixture probs lists)
      (λ fine. coarse (mixture_fine atoms weights probs lists is means most fine))
