-- One number more.
use Rattle.dl_reading.proofs.Common.{refl, take_all}
use Rattle.dl_reading.proofs.InTurn.{mapped_next}
use Rattle.dl_reading.proofs.value_lists.push_each.Goals as goal

pub part-preserved : goal.part-preserved
part-preserved c =
    mapped_next c.args.values.now.items _ _ _ _ c.part-test.true c.value-item.is c.part.invariant
    c.in_ok-push.ensures.items refl

pub returns : goal.returns
returns c = rw (take_all c.part.value-index c.args.part.now c.part-test.false) at c.part.invariant
