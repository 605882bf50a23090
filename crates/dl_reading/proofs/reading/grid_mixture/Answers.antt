-- The atoms and their weights, where there are not too many.
use Rattle.dl_reading.proofs.Common.{ap, List, Option, Shares, GridAtom, GridSev, at_if}
use Rattle.dl_reading.proofs.Agreeing.{read_both}
use Rattle.dl_reading.proofs.reading.grid_mixture.Goals as goal

pub returns : goal.returns
returns c =
    let make : List GridAtom → Option Shares → GridSev = λ xs ws. record { atoms = xs; weights = ws } in
    rw (ap (λ b. at_if b c.args.mix.now.span) c.in_default.ensures.short)
    (read_both make (rw c.as_slice.ensures at c.in_ok-atoms.ensures) c.in_ok-weights.ensures c.or.ensures)
