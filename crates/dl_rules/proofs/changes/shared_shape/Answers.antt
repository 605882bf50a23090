-- The units of the plan are as large as those of the program.
use Rattle.dl_rules.proofs.Common.{true, IfSome, IsFormedHead, IsNumeral}
use Rattle.dl_rules.proofs.FactorParts.{all_counted}
use Rattle.dl_rules.proofs.FactorKept.{no_port, no_common, common_there, some_variation, size_told, port_kept, shape_is_written, factor_is, bad_told}
use Rattle.dl_rules.proofs.changes.shared_shape.Goals as goal

pub returns-in_default-clause-fault : goal.returns-in_default-clause-fault
returns-in_default-clause-fault c = no_port c.args.settings.now c.args.program.now c.in_default.is

pub returns-in_default-common-clause-fault : goal.returns-in_default-common-clause-fault
returns-in_default-common-clause-fault c =
    no_common c.args.settings.now c.args.program.now c.in-Some.head c.in-Some.is c.in_default-common.is

pub variation_of-requires : goal.variation_of-requires
variation_of-requires c =
    let head : IsFormedHead c.in-Some.head = rw c.in-Some.is at c.requires.head in
    let common : IfSome c.in-Some.head.common (λ n. IsNumeral n.text) = head.common in
    rw c.in-Some-common.is at common

pub returns-in_default-variation_of-clause-fault : goal.returns-in_default-variation_of-clause-fault
returns-in_default-variation_of-clause-fault c =
    let bad = rw (c.in_default-variation_of.is, c.bounds_asked-bounds.ensures.value) at c.variation_of.ensures in
    rw c.typing.ensures (bad_told c.args.settings.now c.args.program.now c.in-Some.head c.in-Some-common.variation
    c.in-Some.is c.in-Some-common.is bad)

pub shape_for-requires-clause-above : goal.shape_for-requires-clause-above
shape_for-requires-clause-above c =
    some_variation c.args.settings.now c.args.program.now c.in-Some.head c.in-Some-common.variation c.in-Some.is
    c.in-Some-common.is c.in-Some-variation_of.value
    (rw c.bounds_asked-bounds.ensures.value at c.in-Some-variation_of.ensures) c.args.units.now c.requires.units

pub shape_for-requires-clause-counted : goal.shape_for-requires-clause-counted
shape_for-requires-clause-counted c =
    let program = c.args.program.now in
    all_counted c.args.settings.now program.port program.sevs program.units c.args.units.now c.requires.units
    (common_there c.bounds_asked-bounds.result program.port c.in-Some.head c.in-Some-common.variation c.in-Some.is
    c.in-Some-common.is)

pub returns-in-Some-shape_for-clause-fault : goal.returns-in-Some-shape_for-clause-fault
returns-in-Some-shape_for-clause-fault c =
    let told = rw c.bounds_asked-bounds.ensures.value at c.in-Some-shape_for.ensures in
    port_kept c.args.settings.now c.args.program.now c.in-Some.head c.in-Some-common.variation c.in-Some.is
    c.in-Some-common.is c.in-Some-variation_of.value
    (rw c.bounds_asked-bounds.ensures.value at c.in-Some-variation_of.ensures) c.args.units.now c.requires.units
    c.in-Some-shape_for.shape told.0 told.1

pub returns-in-Some-shape_for-clause-shape : goal.returns-in-Some-shape_for-clause-shape
returns-in-Some-shape_for-clause-shape c =
    let told = rw c.bounds_asked-bounds.ensures.value at c.in-Some-shape_for.ensures in
    shape_is_written c.args.settings.now c.args.program.now c.in-Some.head c.in-Some-common.variation c.in-Some.is
    c.in-Some-common.is c.in-Some-variation_of.value
    (rw c.bounds_asked-bounds.ensures.value at c.in-Some-variation_of.ensures) c.args.units.now c.requires.units
    c.in-Some-shape_for.shape told.0 told.1

pub returns-in-Some-shape_for-clause-factor : goal.returns-in-Some-shape_for-clause-factor
returns-in-Some-shape_for-clause-factor c =
    let told = rw c.bounds_asked-bounds.ensures.value at c.in-Some-shape_for.ensures in
    factor_is c.args.settings.now c.args.program.now c.in-Some.head c.in-Some-common.variation c.in-Some.is
    c.in-Some-common.is c.in-Some-variation_of.value
    (rw c.bounds_asked-bounds.ensures.value at c.in-Some-variation_of.ensures) c.args.units.now c.requires.units
    c.in-Some-shape_for.shape told.0 told.1

pub returns-in-None-clause-fault : goal.returns-in-None-clause-fault
returns-in-None-clause-fault c =
    let told = rw (c.in-None.is, c.bounds_asked-bounds.ensures.value) at c.shape_for.ensures in
    rw c.typing-in-None.ensures (size_told c.args.settings.now c.args.program.now c.in-Some.head
    c.in-Some-common.variation c.in-Some.is c.in-Some-common.is c.in-Some-variation_of.value
    (rw c.bounds_asked-bounds.ensures.value at c.in-Some-variation_of.ensures) c.args.units.now c.requires.units true told)
