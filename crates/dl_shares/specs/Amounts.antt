-- Sums over the amounts of one claim, in whole numbers.
use Rattle.std.specs.Prelude.{ℕ, ◌-◌, ◌*◌, nat_le, if◌then◌else◌, List, sum_by}
use Rattle.dl_exact.specs.Fraction.{Fraction, ◌over◌, ◌*ℚ◌}
use Rattle.dl_plan.specs.declared.item.Item.{Item}
use Rattle.dl_plan.specs.declared.plan.Unit.{Unit as UnitOfPlan}
use Rattle.dl_plan.specs.Prelude.{expected_count}

-- the sum of a * weight * at (x - a) over the amounts a of one claim up to x, each with its
-- weight
abbrev pub amounts_to : ℕ → (ℕ → ℕ) → List Item → ℕ
amounts_to x at items = sum_by
    (λ item. if nat_le item.amount x then item.amount * item.weight * at (x - item.amount) else 0)
    items

-- the expected claims of a unit times the sum of a * P(claim = a) * at (x - a) / scale over the
-- amounts a of one claim up to x, where at k / scale is the probability that a sum is k
abbrev pub claims_mean : UnitOfPlan → (scale x : ℕ) → (ℕ → ℕ) → Fraction
claims_mean u scale x at =
    expected_count u.freq *ℚ amounts_to x at u.sev.items over (u.sev.total * scale)
