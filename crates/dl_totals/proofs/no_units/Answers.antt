use Rattle.dl_totals.proofs.Common.{arith, sym, ◌∙◌, size_of, size_within, if_ok_two, spread_none}
use Rattle.dl_totals.proofs.Added.{no_units}
use Rattle.dl_totals.proofs.no_units.Goals as goal

pub zero-requires : goal.zero-requires
zero-requires g c =
    let size = size_of c.args.like.now c.cells.ensures.grid in
    (omega arith, size_within size c.requires.some c.requires.within)

pub returns-clause-encloses : goal.returns-clause-encloses
returns-clause-encloses g c = if_ok_two c.zero.result _ _ _
    (λ grid low high. no_units grid low high) c.zero.ensures.low c.zero.ensures.high

pub returns-clause-spread : goal.returns-clause-spread
returns-clause-spread g c = if_ok_two c.zero.result _ _ _
    (λ grid low high. spread_none grid (λ x. high x ∙ sym (low x))) c.zero.ensures.low c.zero.ensures.high
