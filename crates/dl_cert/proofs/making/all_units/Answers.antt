use Rattle.dl_cert.proofs.Common.{arith}
use Rattle.dl_cert.proofs.Ladder.{nothing_written}
use Rattle.dl_cert.proofs.making.all_units.Goals as goal

pub loop-unit-init : goal.loop-unit-init
loop-unit-init c = record {
  cells = tt;
  count = omega arith;
  sum = nothing_written c.args.plan.now c.requires.empty c.requires.none;
}
