-- The probability of no claim where at least 1 / 16 of a claim is expected, and the weights of at least one claim.
use Rattle.dl_model.proofs.Common.{◌≡◌, ℕ, suc, zero, ◌+◌, ◌-◌, ◌*◌, ◌<◌, ◌≤◌, max, arith, refl, sym, ap, ap₂, subst, subst₂, ◌∙◌, Fraction, whole, ◌over◌, ◌+ℚ◌, ◌-ℚ◌, ◌*ℚ◌, ◌/ℚ◌, ◌≤ℚ◌, ◌<ℚ◌, ◌^ℚ◌, sum_to, sum_pairs, ring, over_same, over_mul, one_pos, plus_comm, times_comm, times_zero, zero_times, times_one, one_times, times_plus, plus_times, le_refl, le_trans, zero_le, le_plus, sub_plus, plus_le_both, plus_le_cancel, times_le_both, times_le_times, times_le_cancel, times_cancel, times_pos, div_times, div_pos, lt_of_lt_of_le, AtMost, Settles, at_zero, power, fixed, binomial, poisson, gamma, gamma_of, AreCountWeights, plus_zero, whole_pos, times_assoc, plus_assoc, over_rest, over_add, pow_times, without_none, plus_swap, order, fun_ext, Series, le_of_eq, bernoulli, pow_below_one}
use Rattle.dl_model.proofs.TotalLaws.{rises_to, sum_rises_to, power_severity, binomial_power, trial, one_trial_none, poisson_zero, poisson_next, gamma_zero, gamma_next, pos_plus, div_plus, least_scaled, weights_apart, off}
use Rattle.dl_model.proofs.Gamma.{geometric_least}

-- ---- at most 16 / 17

sixteenths : 16 over 17 *ℚ (whole 1 +ℚ 1 over 16) ≡ whole 1
sixteenths = ap (λ t. 16 over 17 *ℚ t) (over_add 1 1 1 16 one_pos (omega arith)) ∙ over_mul 16 17 (1 * 16 + 1 * 1)
    (1 * 16) (omega arith) (omega arith) ∙ over_same _ _ 1 1 (omega arith) one_pos (omega arith)

some_claim : (c u : Fraction) → c *ℚ (whole 1 +ℚ 1 over 16) ≤ℚ u → c ≤ℚ 16 over 17 *ℚ u
some_claim c u h = subst (λ t. t ≤ℚ 16 over 17 *ℚ u) ((simp ring) ∙ ap (λ t. c *ℚ t) sixteenths ∙ times_one c)
    (times_le_both _ _ _ _ (le_refl (16 over 17)) h)

pub poisson_some_claim : (v : Fraction) → 1 over 16 ≤ℚ v
    → AtMost (λ N. poisson v zero) (λ N. sum_to N (poisson v)) (16 over 17)
unfolding sum_to
poisson_some_claim v h n u b =
    let one : poisson v 1 ≡ v = sym (times_one _) ∙ poisson_next v zero ∙ rw (poisson_zero v) (times_one v) in
    some_claim (poisson v zero) u (rw (poisson_zero v, one_times) (grw (order, h)
    (subst₂ (λ s t. s +ℚ t ≤ℚ u) (poisson_zero v) one (b 1))))

-- of a shape of 1 or more each weight past the first is at least the shape times the geometric one
geometric_below : (r x : Fraction) → whole 1 ≤ℚ r → (n : ℕ)
    → r *ℚ gamma (whole 1) x (suc n) ≤ℚ gamma r x (suc n)
geometric_below r x h zero = le_of_eq _ _ (ap (λ t. r *ℚ t) (first (whole 1) ∙ one_times x) ∙ sym (first r))
  where
    first : (s : Fraction) → gamma s x 1 ≡ s *ℚ x
    first s = sym (one_times _) ∙ gamma_next s x zero ∙ ap₂ (λ a b. a *ℚ (x *ℚ b)) (plus_zero s) (gamma_zero s x)
        ∙ ap (λ t. s *ℚ t) (times_one x)
geometric_below r x h (suc n) =
    let N = whole (suc (suc n)) in
    times_le_cancel _ _ N (whole_pos (suc (suc n)) (omega arith))
    (subst₂ (λ s t. s ≤ℚ t)
    (turn (whole 1 +ℚ whole (suc n)) x r (gamma (whole 1) x (suc n))
    ∙ ap (λ t. r *ℚ t) (sym (gamma_next (whole 1) x (suc n))) ∙ outside r N (gamma (whole 1) x (suc (suc n))))
    (sym (gamma_next r x (suc n)) ∙ times_comm _ _)
    (times_le_both _ _ _ _ (plus_le_both _ _ _ _ h (le_refl (whole (suc n))))
    (times_le_both _ _ _ _ (le_refl x) (geometric_below r x h n))))
  where
    turn : (k x r g : Fraction) → k *ℚ (x *ℚ (r *ℚ g)) ≡ r *ℚ (k *ℚ (x *ℚ g))
    turn k x r g = simp ring

    outside : (r n g : Fraction) → r *ℚ (n *ℚ g) ≡ r *ℚ g *ℚ n
    outside r n g = simp ring

sums_below : (r x : Fraction) → whole 1 ≤ℚ r → (N : ℕ)
    → r *ℚ sum_to N (gamma (whole 1) x) +ℚ whole 1 ≤ℚ sum_to N (gamma r x) +ℚ r
unfolding sum_to
sums_below r x h zero = le_of_eq _ _ (ap (λ t. r *ℚ t +ℚ whole 1) (gamma_zero (whole 1) x)
    ∙ ap (λ t. t +ℚ whole 1) (times_one r) ∙ plus_comm r (whole 1) ∙ ap (λ t. t +ℚ r) (sym (gamma_zero r x)))
sums_below r x h (suc N) =
    subst₂ (λ s t. s ≤ℚ t) (sym (more r (sum_to N (gamma (whole 1) x)) (gamma (whole 1) x (suc N)) (whole 1)))
    (sym (last (sum_to N (gamma r x)) (gamma r x (suc N)) r))
    (plus_le_both _ _ _ _ (sums_below r x h N) (geometric_below r x h N))
  where
    more : (r s g o : Fraction) → r *ℚ (s +ℚ g) +ℚ o ≡ r *ℚ s +ℚ o +ℚ r *ℚ g
    more r s g o = simp ring

    last : (s g r : Fraction) → s +ℚ g +ℚ r ≡ s +ℚ r +ℚ g
    last s g r = simp ring

pub gamma_some_claim : (r v : Fraction) → whole 1 ≤ℚ r → 1 over 16 ≤ℚ v
    → AtMost (λ N. gamma_of r v zero) (λ N. sum_to N (gamma_of r v)) (16 over 17)
unfolding sum_to
gamma_some_claim r v one h n u b =
    let W = r +ℚ v in
    let x = v /ℚ W in
    let rp = lt_of_lt_of_le (whole 0) (whole 1) r (whole_pos 1 one_pos) one in
    let Wp = pos_plus r v rp in
    let L = W /ℚ r in
    let inverse : L *ℚ (r /ℚ W) ≡ whole 1 =
    times_cancel _ _ W Wp (rw (times_assoc, div_times r W Wp, div_times W r rp) (sym (one_times W))) in
    let least = geometric_least x (r /ℚ W) (div_plus v r W Wp (plus_comm v r)) L (div_pos r W rp Wp) inverse in
    let some : whole 1 ≤ℚ u = rw (gamma_zero r x) at (b zero) in
    let k = u -ℚ whole 1 in
    let back : k +ℚ whole 1 ≡ u = sub_plus u (whole 1) some in
    let below : (N : ℕ) → r *ℚ sum_to N (gamma (whole 1) x) ≤ℚ k +ℚ r = λ N.
    plus_le_cancel _ _ (whole 1) (le_trans _ _ _ (sums_below r x one N) (subst (λ t. sum_to N (gamma r x) +ℚ r ≤ℚ t)
    (ap (λ t. t +ℚ r) (sym back) ∙ last k (whole 1) r) (plus_le_both _ _ _ _ (b N) (le_refl r)))) in
    let all : r +ℚ v ≤ℚ k +ℚ r = subst (λ t. t ≤ℚ k +ℚ r) (times_comm r L ∙ div_times W r rp)
    ((least_scaled r (λ N. sum_to N (gamma (whole 1) x)) L (sum_rises_to (gamma (whole 1) x)) least).1
    (k +ℚ r) below) in
    let claim : v ≤ℚ k = plus_le_cancel v k r (subst (λ t. t ≤ℚ k +ℚ r) (plus_comm r v) all) in
    some_claim (gamma_of r v zero) u (rw (gamma_zero r x, one_times) (subst (λ t. whole 1 +ℚ 1 over 16 ≤ℚ t)
    (plus_comm (whole 1) k ∙ back) (plus_le_both _ _ _ _ (le_refl (whole 1)) (le_trans _ _ _ h claim))))
  where
    last : (k o r : Fraction) → k +ℚ o +ℚ r ≡ k +ℚ r +ℚ o
    last k o r = simp ring

-- of any shape, by the weight of one claim
pub gamma_some_claim_below : (r v : Fraction) → 1 over 16 ≤ℚ r *ℚ (v /ℚ (r +ℚ v))
    → AtMost (λ N. gamma_of r v zero) (λ N. sum_to N (gamma_of r v)) (16 over 17)
unfolding sum_to
gamma_some_claim_below r v h n u b =
    let x = v /ℚ (r +ℚ v) in
    let first : gamma r x 1 ≡ r *ℚ x = sym (one_times _) ∙ gamma_next r x zero
    ∙ ap₂ (λ a b. a *ℚ (x *ℚ b)) (plus_zero r) (gamma_zero r x) ∙ ap (λ t. r *ℚ t) (times_one x) in
    some_claim (gamma_of r v zero) u (rw (gamma_zero r x, one_times) (grw (order, h)
    (subst₂ (λ s t. s +ℚ t ≤ℚ u) (gamma_zero r x) first (b 1))))

power_zero : (f : ℕ → Fraction) (n : ℕ) → power f n zero ≡ f zero ^ℚ n
unfolding power at_zero ◌^ℚ◌ sum_pairs
power_zero f zero = refl
power_zero f (suc n) = ap (λ t. f zero *ℚ t) (power_zero f n)

pub binomial_some_claim : (m a b : ℕ) → 0 < b → a ≤ b → 1 over 16 ≤ℚ whole m *ℚ a over b
    → AtMost (λ N. binomial m a b zero) (λ N. sum_to N (binomial m a b)) (16 over 17)
binomial_some_claim m a b pos le h n u bound =
    let f = binomial 1 a b in
    let d = (b - a) over b in
    let x = a over b in
    let none : binomial m a b zero ≡ d ^ℚ m =
    sym (ap (λ w. w zero) (binomial_power a b pos m)) ∙ power_zero f m
    ∙ ap (λ t. t ^ℚ m) (one_trial_none a b pos) in
    let rest : x +ℚ d ≡ whole 1 = over_rest a b pos le in
    let d_le : d ≤ℚ whole 1 = rw (← rest, plus_comm x d) (le_plus d x) in
    let below : d *ℚ (whole 1 +ℚ x) ≤ℚ whole 1 =
    rw (times_plus, times_one) (grw (order, times_le_times _ _ x d_le) (le_of_eq _ _ (simp (plus_comm, one_times) rest))) in
    let all : whole 1 ≤ℚ u =
    subst (λ t. t ≤ℚ u) (ap (λ w. sum_to (m * 1) w) (sym (binomial_power a b pos m))
    ∙ (power_severity f 1 (trial a b pos le) m).add_up) (bound (m * 1)) in
    some_claim (binomial m a b zero) u (rw none (grw (order, h, bernoulli x m)
    (rw (← pow_times d (whole 1 +ℚ x) m) (le_trans _ _ _ (pow_below_one _ m below) all))))

pub fixed_some_claim : (m : ℕ) → 0 < m → AtMost (λ N. fixed m zero) (λ N. sum_to N (fixed m)) (16 over 17)
fixed_some_claim m pos n u b = rw (off zero m (whole 1) (λ e. omega (arith, pos, e))) (zero_le _)

-- ---- the weights of at least one claim

module _ (w : ℕ → Fraction) (W : AreCountWeights w) (level : ℕ) (some : whole 0 <ℚ sum_to level (without_none w)) where
  abbrev R : Series
  R N = sum_to N w

  abbrev E : Series
  E N = sum_to N (without_none w)

  E_le : (N : ℕ) → E N ≤ℚ R N
  E_le N = rw (weights_apart w N) (le_plus (E N) (w zero))

  E_rises_to : (n m : ℕ) → n ≤ m → E n ≤ℚ E m
  E_rises_to = rises_to E (sum_rises_to (without_none w))

  level_le : E level ≤ℚ W.bound
  level_le = le_trans _ _ _ (E_le level) (W.bounded level)

  bound_pos : whole 0 <ℚ W.bound
  bound_pos = lt_of_lt_of_le _ _ _ some level_le

  claims_settle : Settles E
  claims_settle p q one qp =
      let U = W.bound in
      let e0 = E level in
      let q' = q *ℚ e0 /ℚ U in
      let q'U : q' *ℚ U ≡ q *ℚ e0 = div_times (q *ℚ e0) U bound_pos in
      let q_le : q ≤ℚ whole 1 = rw (← one, plus_comm) (le_plus q p) in
      let q'_le : q' ≤ℚ whole 1 =
      times_le_cancel _ _ U bound_pos (rw q'U (times_le_both _ _ _ _ q_le level_le)) in
      let p' = whole 1 -ℚ q' in
      let one' : p' +ℚ q' ≡ whole 1 = sub_plus (whole 1) q' q'_le in
      let s = W.settles p' q' one' (div_pos _ _ (times_pos q e0 qp some) bound_pos) in
      let L = s.0 in
      let top = max L level in
      let near : (N : ℕ) → E N ≤ℚ E L +ℚ q *ℚ e0 =
      λ N. plus_le_cancel _ _ (w zero) (subst₂ (λ s t. s ≤ℚ t)
      (sym (plus_times p' q' (R N)) ∙ ap (λ t. t *ℚ R N) one' ∙ one_times (R N) ∙ weights_apart w N)
      (ap₂ (λ s t. s +ℚ t) (weights_apart w L) q'U ∙ plus_assoc _ _ _ ∙ plus_swap _ _ _)
      (plus_le_both _ _ _ _ (s.1 N) (times_le_both _ _ _ _ (le_refl q') (W.bounded N)))) in (
        top,
        λ N.
            let M = max N top in
            grw (order, E_rises_to N M (omega arith)) (plus_le_cancel _ _ (q *ℚ E M)
            (rw (← plus_times, one, one_times) (le_trans _ _ _ (near M) (plus_le_both _ _ _ _
            (E_rises_to L top (omega arith)) (grw (order, E_rises_to level M (omega arith))))))),
      )

  numbers_same : (n : ℕ) → whole n *ℚ without_none w n ≡ whole n *ℚ w n
  unfolding without_none
  numbers_same zero = times_zero _ ∙ sym (zero_times (w zero))
  numbers_same (suc n) = refl

  pub claims_count : AreCountWeights (without_none w)
  claims_count = record {
    bound = W.bound;
    bounded = λ N. le_trans _ _ _ (E_le N) (W.bounded N);
    mean_bound = W.mean_bound;
    mean_bounded = λ N. rw (fun_ext numbers_same) (W.mean_bounded N);
    level = level;
    positive = some;
    settles = claims_settle;
  }
