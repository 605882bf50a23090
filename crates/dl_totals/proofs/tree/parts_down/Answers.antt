use Rattle.dl_totals.proofs.Common.{arith, subst, IfSome, IsConvolution}
use Rattle.dl_totals.proofs.TreeLaws.{under, last_one, whole_outside, one_down}
use Rattle.dl_totals.proofs.tree.parts_down.Goals as goal

pub sum_at-one-requires : goal.sum_at-one-requires
sum_at-one-requires g c =
    let parts = under c.args.cells c.args.units.now c.args.left.now c.args.node.now c.args.outer.now.items c.args.sum.now c.requires.down in
    (omega arith, (omega arith, parts.1.first))

pub sum_at-other-requires : goal.sum_at-other-requires
sum_at-other-requires g c =
    let parts = under c.args.cells c.args.units.now c.args.left.now c.args.node.now c.args.outer.now.items c.args.sum.now c.requires.down in
    (omega arith, (omega arith, parts.1.second))

pub is_asked-asked_first-requires : goal.is_asked-asked_first-requires
is_asked-asked_first-requires g c =
    let parts = under c.args.cells c.args.units.now c.args.left.now c.args.node.now c.args.outer.now.items c.args.sum.now c.requires.down in
    (omega arith, rw c.requires.asked parts.1.first)

pub is_asked-asked_second-requires : goal.is_asked-asked_second-requires
is_asked-asked_second-requires g c =
    let parts = under c.args.cells c.args.units.now c.args.left.now c.args.node.now c.args.outer.now.items c.args.sum.now c.requires.down in
    (omega arith, rw c.requires.asked parts.1.second)

pub outside_part-requires : goal.outside_part-requires
outside_part-requires g c =
    let parts = under c.args.cells c.args.units.now c.args.left.now c.args.node.now c.args.outer.now.items c.args.sum.now c.requires.down in
    let whole = whole_outside c.args.cells c.args.units.now c.args.left.now c.args.node.now c.args.outer.now.items c.args.sum.now c.requires.down in
    let part = parts.0.sums c.args.node.now.second parts.1.second in
    (omega arith, (c.requires.cells.some, (omega (arith, whole.cells), rw c.sum_at-other.ensures part.long)))

pub outside_part-requires-2 : goal.outside_part-requires-2
outside_part-requires-2 g c =
    let parts = under c.args.cells c.args.units.now c.args.left.now c.args.node.now c.args.outer.now.items c.args.sum.now c.requires.down in
    let whole = whole_outside c.args.cells c.args.units.now c.args.left.now c.args.node.now c.args.outer.now.items c.args.sum.now c.requires.down in
    let part = parts.0.sums c.args.node.now.first parts.1.first in
    (omega arith, (c.requires.cells.some, (omega (arith, whole.cells), rw c.sum_at-one.ensures part.long)))

pub index_mut-requires : goal.index_mut-requires
index_mut-requires g c =
    let parts = under c.args.cells c.args.units.now c.args.left.now c.args.node.now c.args.outer.now.items c.args.sum.now c.requires.down in
    omega (arith, parts.1.first, last_one c.args.cells c.args.units.now c.args.left.now c.args.node.now c.args.outer.now.items c.args.sum.now c.requires.down)

pub index_mut-requires-2 : goal.index_mut-requires-2
index_mut-requires-2 g c =
    let parts = under c.args.cells c.args.units.now c.args.left.now c.args.node.now c.args.outer.now.items c.args.sum.now c.requires.down in
    omega (arith, parts.1.second, last_one c.args.cells c.args.units.now c.args.left.now c.args.node.now c.args.outer.now.items c.args.sum.now c.requires.down)

pub returns : goal.returns
returns g c =
    let first = c.in_ok-of_first.of_first in
    let second = c.in_ok-of_second.of_second in
    one_down c.args.cells c.args.units.now c.args.left.now c.args.node.now c.args.outer.now.items c.args.sum.now c.requires.down
    first second c.in_ok-of_first.ensures.cells
    (subst (λ t. IfSome first (IsConvolution c.args.cells c.args.sum.now t)) c.sum_at-other.ensures
    c.in_ok-of_first.ensures.convolution)
    c.in_ok-of_second.ensures.cells
    (subst (λ t. IfSome second (IsConvolution c.args.cells c.args.sum.now t)) c.sum_at-one.ensures
    c.in_ok-of_second.ensures.convolution)
