use Rattle.dl_recursion.proofs.Common.{◌≡◌, ◌+◌, ◌*◌, ◌^◌, length, arith, ap₂, ◌∙◌, cell_before}
use Rattle.dl_recursion.proofs.Windows.{before_small, window_cells_le, window_steps_le, next_cells, next_steps}
use Rattle.dl_recursion.proofs.sums.next_window.Goals as goal

pub overflow_add-result : goal.overflow_add-result
overflow_add-result c = omega (
  arith,
  window_cells_le c.args.cells.now _ c.args.run c.args.last c.requires.small (omega (arith, c.requires.run.end)) c.requires.last,
  before_small c.args.cells.now (length c.args.cells.now) c.args.run.amount (2 ^ 62) c.requires.small,
)

pub overflow_sub-result : goal.overflow_sub-result
overflow_sub-result c =
    omega (arith, next_cells c.args.cells.now (length c.args.cells.now) c.args.run c.args.last c.requires.some c.requires.last)

pub overflow_add-result-2 : goal.overflow_add-result-2
overflow_add-result-2 c = omega (
  arith,
  window_cells_le c.args.cells.now _ c.args.run c.args.last c.requires.small (omega (arith, c.requires.run.end)) c.requires.last,
  window_steps_le c.args.cells.now _ c.args.run c.args.last c.requires.small (omega (arith, c.requires.run.end)) c.requires.last,
)

pub overflow_sub-result-2 : goal.overflow_sub-result-2
overflow_sub-result-2 c =
    let cells = c.args.cells.now in
    let run = c.args.run in
    let gone : c.from.result * c.from-past.result ≡ run.count * cell_before cells (length cells) (run.amount + run.count) =
    ap₂ (λ x y. x * y) c.from.ensures (c.from-past.ensures ∙ c.cell_before-2.ensures) in
    omega (arith, gone, next_steps cells (length cells) run c.args.last c.requires.some c.requires.last)

pub returns : goal.returns
returns c =
    let cells = c.args.cells.now in
    let run = c.args.run in
    let gone : c.from.result * c.from-past.result ≡ run.count * cell_before cells (length cells) (run.amount + run.count) =
    ap₂ (λ x y. x * y) c.from.ensures (c.from-past.ensures ∙ c.cell_before-2.ensures) in
    record {
      cells = omega (arith, next_cells cells (length cells) run c.args.last c.requires.some c.requires.last);
      steps = omega (arith, gone, next_steps cells (length cells) run c.args.last c.requires.some c.requires.last);
    }
