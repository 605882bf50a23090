use Rattle.dl_cert.proofs.Common.{◌≤◌, [], arith, pow_pos, IsStep, made_after, line_from, Step}
use Rattle.dl_cert.proofs.Passings.{bad_line, misread, not_passing, line_passes, keeps_more, grid_now}
use Rattle.dl_cert.proofs.Endings.{step_small}
use Rattle.dl_cert.proofs.checking.take_step.Goals as goal

pub returns-in_default-clause-bad : goal.returns-in_default-clause-bad
returns-in_default-clause-bad c = λ no.
    bad_line c.requires.so_far c.requires.inside (rw (← c.line_from-line.ensures)
    (misread c.args.of.now.plan.now _ c.line_from-line.result.now (rw c.in_default.is at c.in_ok-step.ensures)))

pub tested-requires-clause-small : goal.tested-requires-clause-small
tested-requires-clause-small c =
    let read = rw c.in-Some.is at c.in_ok-step.ensures in
    step_small c.line_from-line.result.now (record { kind = c.in-Some.step.kind; cells = c.in-Some.step.cells.items }) read.0

pub returns-in_default-2-clause-bad : goal.returns-in_default-2-clause-bad
returns-in_default-2-clause-bad c = λ no.
    let passed = c.requires.so_far in
    let made = made_after [] passed.steps in
    let read = rw c.in-Some.is at c.in_ok-step.ensures in
    bad_line passed c.requires.inside (rw (← c.line_from-line.ensures)
    (not_passing c.args.of.now.plan.now made c.line_from-line.result.now
    (record { kind = c.in-Some.step.kind; cells = c.in-Some.step.cells.items }) read.0
    (rw c.in_default-2.is at (c.in_ok-label.ensures made passed.so_far))))

pub returns-clause-passes : goal.returns-clause-passes
returns-clause-passes c = λ yes next split.
    let plan = c.args.of.now.plan.now in
    let labels = c.args.so_far.now.labels.items in
    let passed = c.requires.so_far in
    let step : Step = record { kind = c.in-Some.step.kind; cells = c.in-Some.step.cells.items } in
    let read = rw c.in-Some.is at c.in_ok-step.ensures in
    let spelled : IsStep (line_from c.args.of.now.text.now c.args.offset) step = rw c.line_from-line.ensures at read.0 in
    let t = rw c.in-Some-2.is at (c.in_ok-label.ensures (made_after [] passed.steps) passed.so_far) in
    let some : 1 ≤ plan.cells = rw c.requires.plan.valid.cells.3 (pow_pos c.requires.plan.valid.cells.0) in
    let grid = grid_now plan.cells step.cells some c.requires.plan.few read.1
    (step_small c.line_from-line.result.now step read.0) t.0.mass in
    line_passes passed step split spelled t.0
    (rw (c.in_ok-keep.ensures.offsets, c.in_ok-keep.ensures.labels, c.deref.ensures.value)
    (keeps_more passed.so_far step c.args.of.now.starts.counts t.0.there t.1 c.args.offset (omega (arith, c.requires.inside)) spelled
    read.1 grid))
