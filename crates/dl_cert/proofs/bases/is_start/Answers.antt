use Rattle.dl_cert.proofs.Common.{◌≡◌, refl, arith, true, false}
use Rattle.dl_cert.proofs.Outside.{one_more_passes, passes_here}
use Rattle.dl_cert.proofs.bases.is_start.Goals as goal

clash : false ≡ true → ⊥
clash e = cc

pub loop-y-preserved : goal.loop-y-preserved
loop-y-preserved c =
    one_more_passes c.loop-y.y
    c.number_at-number.result (omega (arith, c.loop-y-test.true)) c.index-cells-y.is c.number_at-number.ensures.low
    c.number_at-number.ensures.high c.loop-y.invariant (c.if-not-is_outside.ensures.0 refl)

pub returns-then-not-is_outside : goal.returns-then-not-is_outside
returns-then-not-is_outside c = (
  λ e. absurd (clash e),
  λ all. absurd (clash (c.if-not-is_outside.ensures.1
      (passes_here c.loop-y.y
      c.number_at-number.result (omega (arith, c.loop-y-test.true)) c.index-cells-y.is c.number_at-number.ensures.low
      c.number_at-number.ensures.high (omega (arith, c.loop-y-test.true)) all))),
)
