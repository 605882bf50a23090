use Rattle.std.proofs.Common.{◌∙◌, ap₂}
use Rattle.std.proofs.Math.Nat.{zero-lt-suc}
use Rattle.dl_exact.specs.Fraction.{◌over◌}
use Rattle.dl_plan.specs.Prelude.{weight_at, weight_sum}
use Rattle.dl_exact.proofs.Denominators.{over_zero}
use Rattle.dl_unit_tests.proofs.tests.unit.one_or_four.Goals as goal

pub returns : goal.returns
returns c =
    let h = c.in_ok-from_array.ensures.items in
    c.from_rising.ensures 0 ∙ ap₂ (λ xs ys. weight_at xs 0 over weight_sum ys) h h ∙ over_zero 2 (zero-lt-suc 1)
