use Rattle.dl_severity.proofs.Mapped.{amounts_more}
use Rattle.dl_severity.proofs.atoms.push_amounts.Goals as goal

pub items-preserved : goal.items-preserved
items-preserved c =
    amounts_more c.args.amounts.now.items c.items.amounts.items _ c.args.items.now c.items.item-index _ c.items-test.true
    c.items.invariant c.in_ok-push.ensures.items
