use Rattle.dl_cert.proofs.Common.{◌∙◌, ◌<◌, arith, ap, get_or, length, List, IsTrue, get_or_default, UnitOfPlan}
use Rattle.dl_cert.proofs.Outside.{grid_size}
use Rattle.dl_cert.proofs.Tests.{start_tested}
use Rattle.dl_cert.proofs.test.is_passing.Goals as goal

pub zero-requires : goal.zero-requires
zero-requires c =
    (omega arith, grid_size c.args.plan.now.cells (λ none. omega (arith, none, c.requires.some)) c.requires.few)

pub returns-in-Start : goal.returns-in-Start
returns-in-Start c = λ labels before so_far.
    let plan = c.args.plan.now in
    let u = c.in-Start.unit in
    let unit : UnitOfPlan = get_or c.as_slice.result.now u c.index-as_slice-unit.result in
    let there : u < length plan.units = rw c.in-Start.is at c.requires.there in
    start_tested (IsTrue c.is_start.result) plan before c.args.step.now.cells.items c.requires.cells u c.args.bases.now
    c.requires.starts.0 unit c.index-bases-unit.result (rw c.as_slice-cells.ensures.value at c.is_start.ensures) c.in-Start.is
    c.requires.starts.1 there (c.requires.counted u c.in-Start.is)
    (ap (λ (l : List UnitOfPlan). get_or l u c.index-as_slice-unit.result) c.as_slice.ensures
    ∙ get_or_default plan.units u c.index-as_slice-unit.result unit there) c.index-bases-unit.is

pub are_times-requires-clause-first : goal.are_times-requires-clause-first
are_times-requires-clause-first c = (rw c.in-Times.is at c.requires.there).0

pub are_times-requires-clause-second : goal.are_times-requires-clause-second
are_times-requires-clause-second c = (rw c.in-Times.is at c.requires.there).1

pub returns-in-Times : goal.returns-in-Times
returns-in-Times c = rw (c.in-Times.is, ← c.as_slice-cells.ensures.value) c.are_times.ensures
