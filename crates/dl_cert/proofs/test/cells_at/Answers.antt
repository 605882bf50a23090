use Rattle.dl_cert.proofs.Common.{◌∙◌, arith, IfOk-weaker, ◌also◌}
use Rattle.dl_cert.proofs.Tests.{cells_again}
use Rattle.dl_cert.proofs.test.cells_at.Goals as goal

pub grid_of-requires : goal.grid_of-requires
grid_of-requires c =
    let read = rw c.in-Some.is at c.in_ok-step.ensures in
    let so_far = c.requires.so_far.2 in
    let same = cells_again c.args.step c.line_from-line.result.now
    (record { kind = c.in-Some.step.kind; cells = c.in-Some.step.cells.items }) so_far c.requires.inside
    c.line_from-line.ensures read.0 in
    (omega arith) also (omega arith) also rw (c.deref.ensures.value, same) (so_far.steps_at c.args.step (omega (
      arith,
      c.requires.inside,
      so_far.many,
    ))).grid

pub returns-clause-cells : goal.returns-clause-cells
returns-clause-cells c =
    let read = rw c.in-Some.is at c.in_ok-step.ensures in
    IfOk-weaker c.grid_of.result _ _ (λ grid is labels before so_far.
    is ∙ c.deref.ensures.value ∙ cells_again c.args.step c.line_from-line.result.now
    (record { kind = c.in-Some.step.kind; cells = c.in-Some.step.cells.items }) so_far c.requires.inside
    c.line_from-line.ensures read.0) c.grid_of.ensures
