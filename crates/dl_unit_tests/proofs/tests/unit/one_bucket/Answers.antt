use Rattle.std.proofs.Common.{ap₂}
use Rattle.dl_exact.proofs.Results.{if_ok_two}
use Rattle.dl_exact.specs.Fraction.{◌over◌}
use Rattle.dl_plan.specs.Prelude.{weight_at}
use Rattle.dl_unit_tests.proofs.tests.unit.one_bucket.Goals as goal

pub returns : goal.returns
returns c = if_ok_two c.alone.result _ _ _ (λ sev items total. ap₂ (λ xs t. weight_at xs 0 over t) items total)
    c.alone.ensures.items c.alone.ensures.total
