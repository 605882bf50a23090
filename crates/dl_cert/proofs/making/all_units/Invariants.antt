use Rattle.dl_cert.proofs.Common.{◌≡◌, ◌*◌, ◌≤◌, length, IfSome, Factor, IsSum}
use Rattle.dl_cert.proofs.making.all_units.Given as goal

abbrev pub invariant-loop-unit : goal.invariant-loop-unit
invariant-loop-unit l = record {
  cells : IfSome l.sum (λ (f : Factor). length f.grid ≡ l.plan.cells);
  count : l.steps.count ≤ 36 * l.unit;
  sum : IsSum l.plan l.unit l.steps.text.items l.steps.count l.sum;
}
