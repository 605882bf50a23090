use Rattle.dl_transform.proofs.Common.{◌*◌, arith}
use Rattle.dl_transform.proofs.Parts.{join_small}
use Rattle.dl_transform.proofs.AfterSteps.{items_after, split_part}
use Rattle.dl_transform.proofs.passes.to_items_8.Goals as goal

pub returns-clause-small : goal.returns-clause-small
returns-clause-small c =
    join_small (2 * c.args.table.now.p) _ _ c.join_all.ensures.low_small c.join_all.ensures.high_small

pub returns-clause-items : goal.returns-clause-items
returns-clause-items c =
    items_after c.args.table.now 3 c.args.node (2 * c.args.table.now.p) c.args.x.now _ _
    (split_part c.args.table.now 3 c.args.node (2 * c.args.table.now.p) 4 c.args.x.now _ _ (λ e. absurd (omega (arith, e)))
    c.requires (omega (arith, c.requires.size)) c.split_at_mut-low.ensures.front c.split_at_mut-low.ensures.back)
    c.inverse-w.result.0 c.to_items_4.new.x c.to_items_4-2.new.x c.join_all.new.low c.join_all.new.high
    c.inverse-w.ensures.value c.to_items_4.ensures.items c.to_items_4-2.ensures.items
    (omega (arith, c.split_at_mut-low.ensures.front_len)) (omega (arith, c.split_at_mut-low.ensures.front_len))
    c.join_all.ensures.low c.join_all.ensures.high
