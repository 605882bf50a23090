-- What has room at the scale of a plan.
use Rattle.dl_answers.proofs.Common.{ℕ, ◌≡◌, ◌*◌, ◌^◌, ◌<◌, ◌≤◌, arith, mul-le-mul_left, mul-le-mul, pow-le-pow_right, inl, inr, leb_tells, bits_of, most_plan_cells, most_short_cells, IsPlanScale, Plan, IsPlanAt, plan_scale, scale_least, IsGround, IsPart, Ground, Part}

-- the scale of a valid plan is one of a plan
pub at_scale : {B : ℕ} {plan : Plan} → IsPlanAt B plan → IsPlanScale B
at_scale {B} {plan} at = plan_scale B plan.cells at.scale

pub part_scale : {B : ℕ} {part : Part B} → IsPart part → IsPlanScale B
part_scale is = at_scale is.unit.at

pub ground_scale : {B : ℕ} {ground : Ground B} → IsGround ground → IsPlanScale B
ground_scale is = at_scale is.plan

-- so many digits of a number of 128 bits are printed
pub digits_fit : (B hi d : ℕ) → IsPlanScale B → hi < 2 ^ 128 → d ≤ 9 → hi * 10 ^ d ≤ 2 ^ 127 * 2 ^ B
digits_fit B hi d scale small few =
    let power : 10 ^ d ≤ 10 ^ 9 = pow-le-pow_right {n = 10} (omega arith) {i = d} {j = 9} few in
    let within : hi ≤ 2 ^ 128 = omega (arith, small) in
    omega (arith, mul-le-mul within power, mul-le-mul_left (2 ^ 127) (scale_least B scale))

-- four times a total of the grid, in units of 1 / 2^(2B), has room
pub share_fits : (B cells at : ℕ) → B ≡ bits_of cells → cells ≤ most_plan_cells → at < cells
    → 4 * at * 2 ^ B * 2 ^ B ≤ 2 ^ 127
unfolding bits_of
share_fits B cells at same few inside = elim (leb_tells cells most_short_cells) [
  | inl short ↦ rw (same, short.0) (omega (arith, short.1, inside))
  | inr long ↦ rw (same, long.0) (omega (arith, few, inside))
]
