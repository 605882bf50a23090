use Rattle.dl_cert.proofs.Common.{append-nil, append_assoc, low_at, high_at, cell_text, cells_text}
use Rattle.dl_cert.proofs.CellsText.{no_cells, one_more_cell}
use Rattle.dl_cert.proofs.printing.push_cells.Goals as goal

pub loop-x-init : goal.loop-x-init
loop-x-init c = simp (no_cells, append-nil)

pub loop-x-preserved : goal.loop-x-preserved
loop-x-preserved c =
    let g = c.args.grid.now in
    let x = c.loop-x.x in
    let more = one_more_cell (low_at g) (high_at g) x in
    let joined = append_assoc c.args.text.now.items (cells_text (low_at g) (high_at g) x) (cell_text (low_at g x) (high_at g x)) in
    cc (c.in_ok-push_cell.ensures, c.loop-x.invariant, c.at-cell.ensures.low, c.at-cell.ensures.high)
