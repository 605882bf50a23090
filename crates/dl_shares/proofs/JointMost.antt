-- No outcome of a unit is above the total, so its joint mean at x is at most x, and at most x times the probability of x.
use Rattle.dl_shares.proofs.Common.{ℕ, ◌≤ℚ◌, ◌*ℚ◌, ◌*◌, ◌<◌, ◌≤◌, sym, subst, List, length, Fraction, whole, ◌over◌, Series, AtMost, AtLeast, Quantity, One, Point, Joint, Loss, AreDeclared, score, sum_over_outcomes, partial_sums, Plan, IsValid, IsDistribution, losses_distribution, plan_distribution, declared_weighed, is_weighing, weighing_of}
use Rattle.dl_model.specs.Plans.{declared}
use Rattle.dl_model.proofs.Weighings.{IsWeighing, joint_le_point, losses_weighing, weighed_by}
use Rattle.dl_shares.proofs.JointBounds.{low_share}
use Rattle.dl_shares.proofs.JointValues.{at_most_whole, where_le}

-- what is declared has such bounds
abbrev pub AreWithin : (Quantity → Series) → Type 0
AreWithin D = ((i x : ℕ) → AtMost (D (Joint i x)) (D One) (whole x))
    × ((i x l h S : ℕ) → 0 < S → AtLeast (D (Joint i x)) (D One) (l over S)
    → AtMost (D (Point x)) (D One) (h over S) → l ≤ x * h)

weighed_within : (n : ℕ) (E : (List ℕ → Fraction) → Series) → IsWeighing n E → IsDistribution (weighed_by E)
    → AreWithin (weighed_by E)
weighed_within n E w d = (
  λ i x. at_most_whole _ (E (score (Point x))) (E (score One)) x (joint_le_point n E w i x)
      (w.grows (score (Point x)) (score One) (λ ys. where_le _)),
  low_share (weighed_by E) (joint_le_point n E w) d,
)

pub losses_within : (us : List Loss) → AreDeclared us → AreWithin (partial_sums us)
losses_within us h =
    weighed_within (length us) (sum_over_outcomes us) (losses_weighing us) (losses_distribution us h)

pub plan_within : (plan : Plan) → IsValid plan → AreWithin (declared plan)
plan_within plan h =
    let same = declared_weighed plan.common plan.units in
    subst AreWithin same (weighed_within (length plan.units) (weighing_of plan.common plan.units)
    (is_weighing plan.common plan.units) (subst IsDistribution (sym same) (plan_distribution plan h)))

-- no outcome of a unit of a plan is above the total
pub plan_joint_le : (plan : Plan) → IsValid plan → (i x N : ℕ)
    → declared plan (Joint i x) N ≤ℚ whole x *ℚ declared plan (Point x) N
plan_joint_le plan h = subst (λ D. (i x N : ℕ) → D (Joint i x) N ≤ℚ whole x *ℚ D (Point x) N)
    (declared_weighed plan.common plan.units) (joint_le_point (length plan.units) (weighing_of plan.common plan.units)
    (is_weighing plan.common plan.units))
