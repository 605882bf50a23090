use Rattle.dl_cert.proofs.Common.{◌*◌, ◌≤◌, ◌^◌, arith, ap, length, get_or, sum_by-le, sum_by-take-le, Iv, mass_low}
use Rattle.dl_cert.proofs.test.mass_of.Goals as goal

pub overflow_add-mass : goal.overflow_add-mass
overflow_add-mass c =
    let cells = c.args.cells.now in
    let i = c.loop-cell.cell-index in
    let cell = c.cell-item.result in
    let all : mass_low cells ≤ length cells * 2 ^ 56 =
    sum_by-le (λ (t : Iv 56). t.lo) (2 ^ 56) cells
    (λ k d inside. omega (arith, (get_or cells k d).ordered, c.requires.cells.small k d inside)) in
    let here = c.requires.cells.small i cell (omega (arith, c.loop-cell-test.true)) in
    let is = ap (λ (t : Iv 56). t.hi) c.cell-item.is in
    omega (arith, sum_by-take-le (λ (t : Iv 56). t.lo) cells i)
