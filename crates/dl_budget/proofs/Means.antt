-- The budget of a mean, as a loop over the units makes it.
use Rattle.dl_budget.proofs.Common.{ℕ, ◌≡◌, ◌*◌, ◌^◌, ◌≤◌, arith, whole, ◌≤ℚ◌, up, IsValidUnit, most_amount, most_expected, expected_count, declared_mean, mean_most, near_in_any, UnitOfPlan, up_least}

-- the mean of the claims of a unit whose probability of no claim can be changed is at most 2^34 buckets
pub whole_small : (cells : ℕ) (u : UnitOfPlan) (m : ℕ) → IsValidUnit cells u
    → expected_count u.freq ≤ℚ whole most_expected → m ≡ up (declared_mean u) → m ≤ 2 ^ 34
whole_small cells u m h few is =
    omega (
      arith,
      is,
      up_least (declared_mean u) (most_expected * most_amount) (mean_most most_expected most_amount u few (near_in_any cells u h)),
    )
