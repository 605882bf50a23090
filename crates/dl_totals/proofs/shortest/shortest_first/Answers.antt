use Rattle.dl_totals.proofs.Common.{◌∙◌, arith, sym, eqb-true}
use Rattle.dl_totals.proofs.Singles.{apart, but_one, none_but}
use Rattle.dl_totals.proofs.shortest.shortest_first.Goals as goal

pub returns-then-is_empty : goal.returns-then-is_empty
returns-then-is_empty g c =
    let sums = c.in_ok-sums.ensures.sums in
    let none = eqb-true _ 0 (sym c.is_empty.ensures ∙ c.if-is_empty.true) in
    none_but c.args.cells c.args.units.now sums.0 c.args.skip sums.2
    (omega (arith, sums.1.as_many, none, c.in_ok-sums.sums.ok))

pub returns : goal.returns
returns g c =
    let sums = c.in_ok-sums.ensures.sums in
    but_one c.args.cells c.args.units.now sums.0 c.args.skip sums.2 c.in_ok-together.field-0
    (c.in_ok-together.ensures c.args.units.now sums.0 sums.1
    (apart c.args.cells c.args.units.now sums.0 c.args.skip sums.2))
