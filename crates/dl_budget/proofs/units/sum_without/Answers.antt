use Rattle.dl_budget.proofs.Common.{◌^◌, All-drop, All-take, IsValidUnit, take, arith, refl, from_there, operands}
use Rattle.dl_budget.proofs.Sums.{none_there, some_there, sum_of_later, sum_of_others, operands_apart, operands_standard, sum_small, sum_standard, parts_length}
use Rattle.dl_budget.proofs.units.sum_without.Goals as goal

pub sum_of-requires-clause-valid : goal.sum_of-requires-clause-valid
sum_of-requires-clause-valid g c = All-take (IsValidUnit c.args.cells) _ _
    (All-drop (IsValidUnit c.args.cells) _ c.args.units.now c.requires.valid)

pub sum_of-requires-2-clause-valid : goal.sum_of-requires-2-clause-valid
sum_of-requires-2-clause-valid g c = All-take (IsValidUnit c.args.cells) _ c.args.units.now c.requires.valid

pub with_units-requires-clause-valid : goal.with_units-requires-clause-valid
with_units-requires-clause-valid g c = All-take (IsValidUnit c.args.cells) _ _
    (All-drop (IsValidUnit c.args.cells) _ c.args.units.now c.requires.valid)

pub with_units-requires-clause-room : goal.with_units-requires-clause-room
with_units-requires-clause-room g c =
    let some = some_there _ _ c.is_empty.ensures c.if-is_empty.false in
    let apart = operands_apart c.args.cells c.args.units.now c.args.i in
    (operands c.args.cells (take c.args.i c.args.units.now), omega (arith, apart), c.sum_of-2.ensures.size some)

pub sum_of-requires-clause-room : goal.sum_of-requires-clause-room
sum_of-requires-clause-room g c = omega (arith, operands_apart c.args.cells c.args.units.now c.args.i)

pub sum_of-requires-2-clause-room : goal.sum_of-requires-2-clause-room
sum_of-requires-2-clause-room g c = omega (arith, operands_apart c.args.cells c.args.units.now c.args.i)

pub returns-then-is_empty-clause-value : goal.returns-then-is_empty-clause-value
returns-then-is_empty-clause-value g c =
    sum_of_later (2 ^ g.row.B) c.args.cells c.args.units.now c.args.i _ c.requires.unit
    (none_there _ _ c.is_empty.ensures c.if-is_empty.true) c.sum_of.ensures.value

pub returns-clause-value : goal.returns-clause-value
returns-clause-value g c =
    let some = some_there _ _ c.is_empty.ensures c.if-is_empty.false in
    sum_of_others (2 ^ g.row.B) c.args.cells c.args.units.now _ _ c.args.i _ _ refl
    (from_there c.args.i c.args.units.now) some c.sum_of-2.ensures.value c.with_units.ensures.value

pub returns-then-is_empty-clause-standard : goal.returns-then-is_empty-clause-standard
returns-then-is_empty-clause-standard g c few =
    c.sum_of.ensures.standard (omega (arith, parts_length c.args.i c.args.units.now))

pub returns-clause-small : goal.returns-clause-small
returns-clause-small g c =
    let some = some_there _ _ c.is_empty.ensures c.if-is_empty.false in
    let apart = operands_apart c.args.cells c.args.units.now c.args.i in
    sum_small g.row.B c.args.cells _ _ c.requires.scale (omega (arith, apart))
    (c.with_units.ensures.size (operands c.args.cells (take c.args.i c.args.units.now)) (omega (arith, apart))
    (c.sum_of-2.ensures.size some))

pub returns-clause-standard : goal.returns-clause-standard
returns-clause-standard g c few =
    let some = some_there _ _ c.is_empty.ensures c.if-is_empty.false in
    let apart = operands_apart c.args.cells c.args.units.now c.args.i in
    let room = operands_standard c.args.cells c.args.units.now c.requires.few few in
    sum_standard g.row.B c.args.cells _ _ c.requires.scale (omega (arith, apart, room))
    (c.with_units.ensures.size (operands c.args.cells (take c.args.i c.args.units.now)) (omega (arith, apart))
    (c.sum_of-2.ensures.size some))
