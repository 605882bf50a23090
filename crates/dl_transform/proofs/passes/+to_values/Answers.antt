use Rattle.dl_transform.proofs.Common.{◌+◌, ◌*◌, ◌^◌, arith, get_or, point, refl}
use Rattle.dl_transform.proofs.Parts.{join_small, values_leaf}
use Rattle.dl_transform.proofs.AfterSteps.{changed_part, halves_of, part_inside, split_part, values_after}
use Rattle.dl_transform.proofs.passes.+to_values.Goals as goal

pub returns-then-levels-eq0-clause-values : goal.returns-then-levels-eq0-clause-values
returns-then-levels-eq0-clause-values t c =
    values_leaf c.args.table.now.p c.args.levels (λ i. get_or c.args.x.now i 0)
    (λ k. point c.args.table.now.p c.args.table.now.roots.items (c.args.node * 2 ^ c.args.levels + k))
    c.if-levels-eq0.true

pub root-w-requires-clause-inside : goal.root-w-requires-clause-inside
root-w-requires-clause-inside t c = part_inside c.if-levels-eq0.false c.requires

pub part_all-requires-clause-halves : goal.part_all-requires-clause-halves
part_all-requires-clause-halves t c =
    halves_of (split_part c.args.table.now c.args.levels c.args.node (4 * c.args.table.now.p) _ c.args.x.now _ _
    c.if-levels-eq0.false c.requires refl c.split_at_mut-low.ensures.front c.split_at_mut-low.ensures.back)

pub to_values-requires : goal.to_values-requires
to_values-requires t c =
    let parts = split_part c.args.table.now c.args.levels c.args.node (4 * c.args.table.now.p) _ c.args.x.now _ _
    c.if-levels-eq0.false c.requires refl c.split_at_mut-low.ensures.front c.split_at_mut-low.ensures.back in
    (omega (arith, c.if-levels-eq0.false, c.decreases), changed_part _ parts.first (omega arith) c.part_all.ensures.low_small)

pub to_values-requires-2 : goal.to_values-requires-2
to_values-requires-2 t c =
    let parts = split_part c.args.table.now c.args.levels c.args.node (4 * c.args.table.now.p) _ c.args.x.now _ _
    c.if-levels-eq0.false c.requires refl c.split_at_mut-low.ensures.front c.split_at_mut-low.ensures.back in
    (omega (arith, c.if-levels-eq0.false, c.decreases), changed_part _ parts.second (omega arith) c.part_all.ensures.high_small)

pub returns-clause-values : goal.returns-clause-values
returns-clause-values t c =
    let parts = split_part c.args.table.now c.args.levels c.args.node (4 * c.args.table.now.p) _ c.args.x.now _ _
    c.if-levels-eq0.false c.requires refl c.split_at_mut-low.ensures.front c.split_at_mut-low.ensures.back in
    values_after c.args.table.now c.args.levels c.args.node _ c.args.x.now _ _ parts
    c.root-w.result.0 c.part_all.new.low c.part_all.new.high c.to_values.new.x c.to_values-2.new.x
    c.root-w.ensures.value c.part_all.ensures.low c.part_all.ensures.high (omega (arith, parts.first.size))
    c.to_values.ensures.values c.to_values-2.ensures.values

pub returns-then-levels-eq3-clause-values : goal.returns-then-levels-eq3-clause-values
returns-then-levels-eq3-clause-values t c = rw c.if-levels-eq3.true c.to_values_8.ensures.values

pub returns-clause-small : goal.returns-clause-small
returns-clause-small t c = join_small _ _ _ c.to_values.ensures.small c.to_values-2.ensures.small
