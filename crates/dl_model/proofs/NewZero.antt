-- Where the probability of no claim of a count of a plan can be changed: it is at most 16 / 17, and some number of claims
-- above 0 has a positive weight.
use Rattle.dl_model.proofs.Common.{◌≡◌, inl, inr, ℕ, zero, ◌*◌, ◌≤◌, max, arith, sym, ap, subst, ◌∙◌, le-max_left, le-max_right, Fraction, whole, ◌over◌, ◌+ℚ◌, ◌*ℚ◌, ◌/ℚ◌, ◌≤ℚ◌, ◌<ℚ◌, sum_to, over_same, over_self, le_over, one_pos, lt_or_le, one_times, times_comm, times_assoc, zero_plus, le_trans, le_div, zero_or_pos, times_le_times, times_le_cancel, div_times, lt_of_lt_of_le, AtMost, IsBound, AreCountWeights, Freq, Fixed, Table, Bernoulli, Binomial, Poisson, Gamma, num_le_den, count_weights, over_pos, over_add, IsNewZero, without_none, total, IsCountOfPlan}
use Rattle.dl_model.proofs.TotalLaws.{rises_to, sum_rises_to, weights_apart}
use Rattle.dl_model.proofs.SomeClaim.{fixed_some_claim, binomial_some_claim, poisson_some_claim, gamma_some_claim, gamma_some_claim_below}

pub count_new_zero : (freq : Freq) (p : Fraction) → IsCountOfPlan freq → IsNewZero freq p
    → AtMost (λ N. count_weights freq zero) (λ N. sum_to N (count_weights freq)) (16 over 17)
count_new_zero (Fixed m) p h z =
    let some : 1 * 1 ≤ m * 16 = le_over 1 16 m 1 (omega arith) one_pos z.least in
    fixed_some_claim m (omega (arith, some))
count_new_zero (Table counts total) p h z = absurd z.exposed
count_new_zero (Bernoulli q) p h z = binomial_some_claim 1 q.num q.den q.positive (num_le_den q h.within)
    (subst (λ t. 1 over 16 ≤ℚ t) (sym (one_times _ ∙ over_self q)) z.least)
count_new_zero (Binomial trials q) p h z = binomial_some_claim trials q.num q.den q.positive (num_le_den q h.1.within)
    (subst (λ t. 1 over 16 ≤ℚ whole trials *ℚ t) (sym (over_self q)) z.least)
count_new_zero (Poisson mean) p h z = poisson_some_claim mean z.least
count_new_zero (Gamma shape mean) p h z = elim (lt_or_le shape (whole 1)) [
  | inl below ↦ gamma_some_claim_below shape mean (z.some below)
  | inr above ↦ gamma_some_claim shape mean above z.least
]

module _ (w : ℕ → Fraction) (W : AreCountWeights w) (most : AtMost (λ N. w zero) (λ N. sum_to N w) (16 over 17)) where
  abbrev near : Fraction
  near = 33 over 34

  rest_to_one : near +ℚ 1 over 34 ≡ whole 1
  rest_to_one = over_add 33 34 1 34 (omega arith) (omega arith) ∙ over_same _ _ 1 1 (omega arith) one_pos (omega arith)

  near_pos : whole 0 <ℚ near
  near_pos = over_pos 33 34 (omega arith) (omega arith)

  -- were there no claims above 0, the weights would be that of no claim alone
  none_else : (top : ℕ) → W.level ≤ top → ((N : ℕ) → near *ℚ sum_to N w ≤ℚ sum_to top w)
      → sum_to top (without_none w) ≡ whole 0 → ⊥
  none_else top far settled none =
      let all : sum_to top w ≡ w zero = rw (weights_apart w top, none) (zero_plus _) in
      let some : whole 0 <ℚ w zero = subst (λ t. whole 0 <ℚ t) all
      (lt_of_lt_of_le _ _ _ W.positive (rises_to (λ N. sum_to N w) (sum_rises_to w) W.level top far)) in
      let bound : IsBound (λ N. sum_to N w) (w zero /ℚ near) =
      λ N. le_div _ near _ near_pos (rw (times_comm (sum_to N w), ← all) (settled N)) in
      let below : near ≤ℚ 16 over 17 = times_le_cancel _ _ (w zero) some (rw (times_comm near)
      (subst (λ t. w zero *ℚ near ≤ℚ t) (times_assoc _ _ _ ∙ ap (λ t. 16 over 17 *ℚ t) (div_times (w zero) near near_pos))
      (times_le_times _ _ near (most zero (w zero /ℚ near) bound)))) in
      let cross : 33 * 17 ≤ 16 * 34 = le_over 33 34 16 17 (omega arith) (omega arith) below in
      absurd (omega (arith, cross))

  pub some_weight : (level : ℕ) × (whole 0 <ℚ sum_to level (without_none w))
  some_weight =
      let s = W.settles near (1 over 34) rest_to_one (over_pos 1 34 (omega arith) (omega arith)) in
      let top = max s.0 W.level in
      let settled : (N : ℕ) → near *ℚ sum_to N w ≤ℚ sum_to top w =
      λ N. le_trans _ _ _ (s.1 N) (rises_to (λ N. sum_to N w) (sum_rises_to w) s.0 top (le-max_left s.0 W.level)) in
      elim (zero_or_pos (sum_to top (without_none w))) [
        | inr some ↦ (top, some)
        | inl none ↦ absurd (none_else top (le-max_right s.0 W.level) settled none)
      ]
