use Rattle.dl_totals.proofs.Common.{sym, ◌∙◌, Decides-eqb, slice_eq-Decides, same_cells}
use Rattle.dl_totals.proofs.runs.are_same.Goals as goal

pub returns-then-eq : goal.returns-then-eq
returns-then-eq g c both =
    let low = (slice_eq-Decides Decides-eqb c.lows.result.now c.lows-2.result.now c.eq.result c.eq.ensures).0
    c.if-eq.true in
    let high = (slice_eq-Decides Decides-eqb c.highs.result.now c.highs-then-eq.result.now c.eq-then-eq.result
    c.eq-then-eq.ensures).0 both in
    same_cells c.args.a.now c.args.b.now (sym c.lows.ensures.ends ∙ low ∙ c.lows-2.ensures.ends)
    (sym c.highs.ensures.ends ∙ high ∙ c.highs-then-eq.ensures.ends)
