-- The sum over the parts is the sum over amounts and cells that the recursion has.
use Rattle.dl_recursion.proofs.Common.{◌≡◌, inl, inr, ℕ, suc, zero, ◌+◌, ◌-◌, ◌*◌, ◌<◌, List, [], ◌∷◌, cond, get_or, arith, refl, sym, ap, ap₂, ◌∙◌, zero-lt-suc, sum_by, All, sum_by-cons, cases_lt, count_pairs, Part, part_at, contribution, ◌≢◌, zero-mul, eqb_tells, nat_eq}
use Rattle.dl_recursion.proofs.Contributions.{contribution_yes, contribution_no}
use Rattle.dl_exact.proofs.Counts.{pairs_same, pairs_plus, pairs_none, pairs_only, pairs_past}

-- one part's weight at an amount
abbrev at : Part → ℕ → ℕ
at p j = cond (nat_eq p.amount j) p.weight 0

at_same : (p : Part) → at p p.amount ≡ p.weight
at_same p = grind (arith, eqb_tells p.amount p.amount)

at_other : (p : Part) (j : ℕ) → p.amount ≢ j → at p j ≡ 0
at_other p j h = grind (arith, eqb_tells p.amount j)

module _ (a b n : ℕ) (cells : List ℕ) where
  term : (ℕ → ℕ) → ℕ → ℕ → ℕ
  term w i k = (a * k + b * suc i) * w (suc i) * get_or cells k 0

  zero_term : (w : ℕ → ℕ) (i k : ℕ) → w (suc i) ≡ 0 → term w i k ≡ 0
  unfolding term
  zero_term w i k e = grind (arith, zero-mul)

  one_part : (p : Part) (j : ℕ) → p.amount ≡ suc j → contribution a b cells (suc n) p ≡ count_pairs n (term (at p))
  unfolding term
  one_part p j e = elim (cases_lt n j) [
    | inl l ↦ contribution_no a b cells (suc n) p (omega (arith, e, l)) ∙ sym (pairs_past n j (term (at p)) l off)
    | inr l ↦
        let k = n - j in
        let m : suc n - p.amount ≡ k = omega (arith, e) in
        contribution_yes a b cells (suc n) p (omega (arith, e, l))
        ∙ ap₂ (λ u v. (a * v + b * u) * p.weight * get_or cells v 0) e m
        ∙ ap (λ u. (a * k + b * suc j) * u * get_or cells k 0) (sym (at_same p) ∙ ap (at p) e)
        ∙ sym (pairs_only n j k (term (at p)) (omega (arith, l)) off)
  ]
    where
      off : (i l : ℕ) → i ≢ j → term (at p) i l ≡ 0
      off i l q = zero_term (at p) i l (at_other p (suc i) (λ t. q (omega (arith, e, t))))

  pub contribution_pairs : (parts : List Part) → All (λ p. 0 < p.amount) parts
      → sum_by (contribution a b cells (suc n)) parts ≡ count_pairs n
      (λ i k. (a * k + b * suc i) * part_at parts (suc i) * get_or cells k 0)
  unfolding term
  contribution_pairs [] h = sym (pairs_none n _ (λ i k. zero_term (λ j. 0) i k refl))
  contribution_pairs (p ∷ ps) h =
      let j = p.amount - 1 in
      sum_by-cons (contribution a b cells (suc n)) p ps
      ∙ ap₂ (λ u v. u + v) (one_part p j (omega (arith, h zero p (zero-lt-suc _))))
      (contribution_pairs ps (λ k d q. h (suc k) d (omega (arith, q))))
      ∙ sym (pairs_plus n (term (at p)) (term (part_at ps)))
      ∙ pairs_same n _ _
      (λ i k. split (a * k + b * suc i) (at p (suc i)) (part_at ps (suc i)) (get_or cells k 0)
      ∙ ap (λ t. (a * k + b * suc i) * t * get_or cells k 0) (sym (sum_by-cons (λ p. at p (suc i)) p ps)))
    where
      split : (f u v g : ℕ) → f * u * g + f * v * g ≡ f * (u + v) * g
      split f u v g = omega arith
