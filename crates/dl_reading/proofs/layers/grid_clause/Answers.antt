-- The layers, and whether there are too many.
use Rattle.dl_reading.proofs.Common.{◌∙◌, refl, ap, List, GridCeded, GridClause, flaws_else, long_at, at_if, nat_lt, length}
use Rattle.dl_reading.proofs.Agreeing.{read_made, read_also}
use Rattle.dl_reading.proofs.layers.grid_clause.Goals as goal

pub returns : goal.returns
returns c =
    let clause = c.args.clause.now in
    let make : List GridCeded → GridClause = λ layers. record { net = clause.net; layers = layers; span = clause.span } in
    read_made make (read_also 7 (λ (ls : List GridCeded). long_at (at_if (nat_lt 16 (length clause.layers)) clause.span))
    (rw c.as_slice-ceded.ensures at c.in_ok-layers.ensures) refl (c.or.ensures ∙ ap (flaws_else c.in_ok-layers.layers.flaws)
    (c.long_at-long.ensures ∙ ap long_at (rw c.as_slice-ceded.ensures at c.span_if.ensures))))
