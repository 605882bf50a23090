-- The weight of the amounts above 0 of a unit, and the joint mean of a unit under a common factor of every shape.
use Rattle.dl_shares.proofs.Common.{ℕ, ◌≡◌, ◌∙◌, ◌-◌, ◌<◌, ◌^◌, List, length, get_or, inl, inr, ap, sym, subst, arith, cases_lt, Fraction, whole, ◌over◌, ◌*ℚ◌, over_zero, times_zero, severity_total, UnitOfPlan, Plan, weight_at, expected_count, thinned_mean, SharesFactor, IsRaised, Iv, low_at, high_at, positive_share, has_factor, Holds, GridEncloses, compound_of, declared, One, Joint, declared_is, claims_mean, whole_num}
use Rattle.dl_shares.proofs.JointValues.{joint_exact}

-- the weight of the positive amounts
abbrev pub positive : UnitOfPlan → ℕ
positive u = u.sev.total - weight_at u.sev.items 0

pub thinned_over : (u : UnitOfPlan) (h : Fraction) → h ≡ thinned_mean u
    → h ≡ expected_count u.freq *ℚ positive u over u.sev.total
thinned_over u h is = is ∙ ap (λ p. expected_count u.freq *ℚ p)
    (sym (positive_share (weight_at u.sev.items 0) u.sev.total (severity_total u.sev)))

-- where some claim above 0 is expected, some amount is above 0
pub some_positive : (u : UnitOfPlan) (h : Fraction) → h ≡ thinned_mean u → (h.num ≡ 0 → ⊥)
    → weight_at u.sev.items 0 < u.sev.total
some_positive u h is some = elim (cases_lt (weight_at u.sev.items 0) u.sev.total) [
  | inl within ↦ within
  | inr beyond ↦
      let none : positive u ≡ 0 = omega arith in
      let nothing : h ≡ whole 0 =
      thinned_over u h is ∙ ap (λ n. expected_count u.freq *ℚ n over u.sev.total) none
      ∙ ap (λ p. expected_count u.freq *ℚ p) (over_zero u.sev.total (severity_total u.sev)) ∙ times_zero _ in
      absurd (some (ap (λ (x : Fraction). x.num) nothing ∙ whole_num 0))
]

-- ---- under a common factor, of every shape

module _ {B : ℕ} (grid : List (Iv B)) (plan : Plan) (i x : ℕ) (made u : UnitOfPlan) (inside : x < length grid) where
  pub common_exact : (r : Fraction) → SharesFactor plan r → i < length plan.units → get_or plan.units i u ≡ u
      → IsRaised r plan.units made → GridEncloses grid (compound_of made.freq made.sev)
      → Holds (declared plan (Joint i x)) (declared plan One) (claims_mean u (2 ^ B) x (low_at grid))
      (claims_mean u (2 ^ B) x (high_at grid))
  common_exact r shares there here raised encloses =
      subst (λ D. Holds (D (Joint i x)) (D One) (claims_mean u (2 ^ B) x (low_at grid))
      (claims_mean u (2 ^ B) x (high_at grid))) (sym (declared_is plan r shares.shape))
      (joint_exact plan.units r (has_factor plan r shares) made raised grid encloses i x u there here inside)
