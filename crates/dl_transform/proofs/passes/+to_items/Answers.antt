use Rattle.dl_transform.proofs.Common.{◌+◌, ◌*◌, ◌^◌, arith, get_or, point, refl}
use Rattle.dl_transform.proofs.Parts.{items_leaf, join_small}
use Rattle.dl_transform.proofs.AfterSteps.{items_after, part_inside, split_part}
use Rattle.dl_transform.proofs.passes.+to_items.Goals as goal

pub returns-then-levels-eq0-clause-items : goal.returns-then-levels-eq0-clause-items
returns-then-levels-eq0-clause-items t c =
    λ y h. items_leaf c.args.table.now.p c.args.levels (λ i. get_or c.args.x.now i 0) y
    (λ k. point c.args.table.now.p c.args.table.now.roots.items (c.args.node * 2 ^ c.args.levels + k))
    c.if-levels-eq0.true h

pub to_items-requires : goal.to_items-requires
to_items-requires t c =
    let parts = split_part c.args.table.now c.args.levels c.args.node (2 * c.args.table.now.p) _ c.args.x.now _ _
    c.if-levels-eq0.false c.requires refl c.split_at_mut-low.ensures.front c.split_at_mut-low.ensures.back in
    (omega (arith, c.if-levels-eq0.false, c.decreases), parts.first)

pub to_items-requires-2 : goal.to_items-requires-2
to_items-requires-2 t c =
    let parts = split_part c.args.table.now c.args.levels c.args.node (2 * c.args.table.now.p) _ c.args.x.now _ _
    c.if-levels-eq0.false c.requires refl c.split_at_mut-low.ensures.front c.split_at_mut-low.ensures.back in
    (omega (arith, c.if-levels-eq0.false, c.decreases), parts.second)

pub inverse-w-requires-clause-inside : goal.inverse-w-requires-clause-inside
inverse-w-requires-clause-inside t c = part_inside c.if-levels-eq0.false c.requires

pub join_all-requires-clause-halves : goal.join_all-requires-clause-halves
join_all-requires-clause-halves t c =
    let parts = split_part c.args.table.now c.args.levels c.args.node (2 * c.args.table.now.p) _ c.args.x.now _ _
    c.if-levels-eq0.false c.requires refl c.split_at_mut-low.ensures.front c.split_at_mut-low.ensures.back in
    record {
      alike = omega (arith, parts.first.size, parts.second.size);
      low_small = c.to_items.ensures.small;
      high_small = c.to_items-2.ensures.small;
    }

pub returns-clause-items : goal.returns-clause-items
returns-clause-items t c =
    let parts = split_part c.args.table.now c.args.levels c.args.node (2 * c.args.table.now.p) _ c.args.x.now _ _
    c.if-levels-eq0.false c.requires refl c.split_at_mut-low.ensures.front c.split_at_mut-low.ensures.back in
    items_after c.args.table.now c.args.levels c.args.node _ c.args.x.now _ _ parts
    c.inverse-w.result.0 c.to_items.new.x c.to_items-2.new.x c.join_all.new.low c.join_all.new.high
    c.inverse-w.ensures.value c.to_items.ensures.items c.to_items-2.ensures.items (omega (arith, parts.first.size))
    (omega (arith, parts.first.size)) c.join_all.ensures.low c.join_all.ensures.high

pub returns-then-levels-eq3-clause-items : goal.returns-then-levels-eq3-clause-items
returns-then-levels-eq3-clause-items t c = rw c.if-levels-eq3.true c.to_items_8.ensures.items

pub returns-clause-small : goal.returns-clause-small
returns-clause-small t c = join_small _ _ _ c.join_all.ensures.low_small c.join_all.ensures.high_small
