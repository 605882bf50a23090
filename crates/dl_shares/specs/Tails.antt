-- What lies above a level p at a total x: of the distribution, and of a unit's joint mean there.
use Rattle.std.specs.Prelude.{ℕ, suc, ◌-◌, ◌*◌, ◌/◌, ◌^◌, ◌≤◌, min, nat_le, if◌then◌else◌, List}
use Rattle.std.specs.Int.{div_ceil}
use Rattle.dl_exact.specs.Count.{count_below}
use Rattle.dl_exact.specs.Fraction.{Fraction, ◌over◌}
use Rattle.dl_exact.specs.Sum.{sum_to}
use Rattle.dl_iv.specs.declared.interval.Iv.{Iv}
use Rattle.dl_grid.specs.Cells.{low_at, high_at}
use Rattle.dl_plan.specs.declared.plan.Plan.{Plan}
use Rattle.dl_model.specs.Prelude.{Holds, One, Joint, declared}
use Rattle.dl_shares.specs.declared.tails.Joints.{Joints}

-- the probability of at most x less p, from the low ends, in units of the scale, rounded down; 0
-- where it is below p
abbrev pub low_above : {B : ℕ} → List (Iv B) → Fraction → ℕ → ℕ
low_above {B} grid p x = count_below (suc x) (low_at grid) - div_ceil (2 ^ B * p.num) p.den

-- the same from the high ends, rounded up
abbrev pub high_above : {B : ℕ} → List (Iv B) → Fraction → ℕ → ℕ
high_above {B} grid p x =
    min (2 ^ B) (count_below (suc x) (high_at grid)) - 2 ^ B * p.num / p.den

-- the part of a joint mean that `above` is of the probability `at`, rounded down; all of it where
-- `above` is no less
abbrev pub part_down : (joint above at : ℕ) → ℕ
part_down joint above at = if nat_le at above then joint else joint * above / at

-- the same, rounded up
abbrev pub part_up : (joint above at : ℕ) → ℕ
part_up joint above at = if nat_le at above then joint else div_ceil (joint * above) at

-- these hold the joint mean of unit i of a plan at their total, and the sum of those up to it, each
-- within `most`
pub record HoldJoints {B : ℕ} (plan : Plan) (i most : ℕ) (joints : Joints B) : Type 0 where
  pub at : Holds (declared plan (Joint i joints.x)) (declared plan One) (joints.at.lo over 2 ^ B)
      (joints.at.hi over 2 ^ B)
  pub up_to : Holds (λ N. sum_to joints.x (λ y. declared plan (Joint i y) N)) (declared plan One)
      (joints.up_to.lo over 2 ^ B) (joints.up_to.hi over 2 ^ B)
  pub at_narrow : joints.at.hi - joints.at.lo ≤ most
  pub up_to_narrow : joints.up_to.hi - joints.up_to.lo ≤ most
