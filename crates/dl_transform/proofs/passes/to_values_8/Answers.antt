use Rattle.dl_transform.proofs.Common.{◌*◌, arith}
use Rattle.dl_transform.proofs.AfterSteps.{halves_of, split_part, values_after}
use Rattle.dl_transform.proofs.Parts.{join_small}
use Rattle.dl_transform.proofs.passes.to_values_8.Goals as goal

pub returns-clause-values : goal.returns-clause-values
returns-clause-values c =
    values_after c.args.table.now 3 c.args.node (4 * c.args.table.now.p) c.args.x.now _ _
    (split_part c.args.table.now 3 c.args.node (4 * c.args.table.now.p) 4 c.args.x.now _ _ (λ e. absurd (omega (arith, e)))
    c.requires (omega (arith, c.requires.size)) c.split_at_mut-low.ensures.front c.split_at_mut-low.ensures.back)
    c.root-w.result.0 c.part_all.new.low c.part_all.new.high c.to_values_4.new.x c.to_values_4-2.new.x
    c.root-w.ensures.value c.part_all.ensures.low c.part_all.ensures.high
    (omega (arith, c.split_at_mut-low.ensures.front_len)) c.to_values_4.ensures.values c.to_values_4-2.ensures.values

pub part_all-requires-clause-halves : goal.part_all-requires-clause-halves
part_all-requires-clause-halves c =
    halves_of (split_part c.args.table.now 3 c.args.node (4 * c.args.table.now.p) 4 c.args.x.now _ _
    (λ e. absurd (omega (arith, e))) c.requires (omega (arith, c.requires.size))
    c.split_at_mut-low.ensures.front c.split_at_mut-low.ensures.back)

pub returns-clause-small : goal.returns-clause-small
returns-clause-small c = join_small _ _ _ c.to_values_4.ensures.small c.to_values_4-2.ensures.small
