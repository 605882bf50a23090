-- Sums of claims stand at multiples of the common divisor of the amounts, and what a clause makes of them.
use Rattle.dl_model.proofs.Common.{ℕ, zero, suc, ◌≡◌, ◌≢◌, ◌+◌, ◌*◌, ◌/◌, List, [], ◌∷◌, arith, refl, ap, ap₂, subst, ◌∙◌, dec_dvd, div-one, dvd-mul_left, sum_by-cons, ◌∣◌, Fraction, whole, ◌over◌, ◌*ℚ◌, times_zero, zero_times, sum_pairs_same, sum_to_zero, sum_pairs_none, Item, Sev, weight_at, common_amount, probability_of, Clause, kept, over_zero, total_pos, at_zero, power, cell, outcome_after, div-add-mod, dvd_refl, dvd_trans, dvd-zero, mod-eq-zero_of_dvd, gcd, gcd_is, fold, ne_eqb, whole_num, whole_den}
use Rattle.std.proofs.Common.{Some}
use Rattle.dl_model.proofs.WeightLaws.{part_of}

-- the common divisor of d and the amounts
abbrev pub divisor_from : ℕ → List Item → ℕ
divisor_from d items = fold (λ d item. gcd d item.amount) d items

pub divides_start : (d : ℕ) (items : List Item) → divisor_from d items ∣ d
divides_start d [] = dvd_refl d
divides_start d (x ∷ xs) =
    dvd_trans (divisor_from (gcd d x.amount) xs) (divides_start (gcd d x.amount) xs) (gcd_is d x.amount).0

-- an amount that it does not divide is not there
pub no_weight_between : (items : List Item) (d j : ℕ) → ¬ (divisor_from d items ∣ j) → weight_at items j ≡ 0
no_weight_between [] d j h = refl
no_weight_between (x ∷ xs) d j h =
    let e : divisor_from (gcd d x.amount) xs ∣ x.amount =
    dvd_trans (divisor_from (gcd d x.amount) xs) (divides_start (gcd d x.amount) xs) (gcd_is d x.amount).1 in
    let here : part_of j x ≡ 0 = rw (ne_eqb x.amount j
    (λ same. h (subst (λ a. divisor_from (gcd d x.amount) xs ∣ a) same e))) refl in
    sum_by-cons (part_of j) x xs ∙ ap₂ (λ a b. a + b) here (no_weight_between xs (gcd d x.amount) j h)

pub multiple_of : (d s : ℕ) → d ∣ s → s ≡ s / d * d
multiple_of d s h = omega (arith, div-add-mod s d, mod-eq-zero_of_dvd d h)

dvd_plus : (d i j : ℕ) → d ∣ i → d ∣ j → d ∣ i + j
dvd_plus d i j p q =
    subst (λ k. d ∣ k) (omega (arith, multiple_of d i p, multiple_of d j q)) (dvd-mul_left d (i / d + j / d))

-- so no sum of such amounts stands between its multiples
module _ (f : ℕ → Fraction) (d : ℕ) (none : (j : ℕ) → ¬ (d ∣ j) → f j ≡ whole 0) where
  no_power_between : (n s : ℕ) → ¬ (d ∣ s) → power f n s ≡ whole 0
  unfolding power at_zero
  no_power_between zero zero h = absurd (h (dvd-zero d))
  no_power_between zero (suc s) h = refl
  no_power_between (suc n) s h =
      sum_pairs_same s _ (λ i j. whole 0) (λ i j e. elim (dec_dvd d i) [
        | yes p ↦ simp (no_power_between n j (λ q. h (subst (λ k. d ∣ k) e (dvd_plus d i j p q))), times_zero)
        | no p ↦ simp (none i p, zero_times)
      ])
      ∙ sum_pairs_none s

pub no_cell_between : (sev : Sev) (w : ℕ → Fraction) (s N : ℕ) → ((n : ℕ) → s ≢ n * common_amount sev.items)
    → cell w (probability_of sev) s N ≡ whole 0
no_cell_between sev w s N h =
    let d = common_amount sev.items in
    let pos = total_pos sev.items sev.total sev.weighted in
    let none : (j : ℕ) → ¬ (d ∣ j) → probability_of sev j ≡ whole 0 =
    λ j p. ap (λ k. k over sev.total) (no_weight_between sev.items 0 j p) ∙ over_zero sev.total pos in
    sum_to_zero N _ (λ n b. ap (λ t. w n *ℚ t)
    (no_power_between (probability_of sev) d none n s (λ p. h (s / d) (multiple_of d s p))) ∙ times_zero _)

-- a whole number is its own floor
pub clause_whole : (clause : Clause) (s y : ℕ) → kept clause s ≡ whole y → outcome_after (Some clause) s ≡ y
clause_whole clause s y e =
    ap (λ (x : Fraction). x.num / x.den) e ∙ ap₂ (λ a b. a / b) (whole_num y) (whole_den y) ∙ div-one y
