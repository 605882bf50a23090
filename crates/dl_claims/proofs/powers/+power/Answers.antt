use Rattle.dl_claims.proofs.Common.{◌+◌, ◌-◌, ◌/◌, ◌^◌, arith, sym, ap, ◌∙◌, length-take-le, pow_pos, IfOk-weaker, Iv, spread, size_of, size_within, spread_none, sum_by-take-le, pw_one, if_ok_two, if_ok_three}
use Rattle.dl_claims.proofs.Enclosing.{no_copy, first_cells, squared, one_more}
use Rattle.dl_claims.proofs.Spreads.{squared_width, one_more_width}
use Rattle.dl_claims.proofs.powers.+power.Goals as goal

pub zero-requires : goal.zero-requires
zero-requires g t c =
    let size = size_of c.args.base.now c.cells.ensures.grid in
    (omega arith, size_within size c.requires.some c.requires.within)

pub returns-then-n-eq0-clause-encloses : goal.returns-then-n-eq0-clause-encloses
returns-then-n-eq0-clause-encloses g t c =
    rw c.if-n-eq0.true (if_ok_three c.zero.result _ _ _ _
    (λ grid cells low high F p of_base. no_copy grid F low high) c.zero.ensures.cells c.zero.ensures.low
    c.zero.ensures.high)

pub returns-then-n-eq0-clause-spread : goal.returns-then-n-eq0-clause-spread
returns-then-n-eq0-clause-spread g t c =
    if_ok_three c.zero.result _ _ _ _ (λ grid cells low high.
    omega (arith, spread_none grid (λ x. high x ∙ sym (low x)))) c.zero.ensures.cells c.zero.ensures.low
    c.zero.ensures.high

pub returns-then-n-eq1-clause-encloses : goal.returns-then-n-eq1-clause-encloses
returns-then-n-eq1-clause-encloses g t c =
    rw c.if-n-eq1.true (IfOk-weaker c.truncate.result _ _ (λ grid e F p of_base.
    rw e (first_cells c.args.base.now c.args.cells F (length-take-le c.args.cells c.args.base.now c.requires.within)
    c.requires.within of_base)) c.truncate.ensures)

pub returns-then-n-eq1-clause-spread : goal.returns-then-n-eq1-clause-spread
returns-then-n-eq1-clause-spread g t c =
    rw c.if-n-eq1.true (IfOk-weaker c.truncate.result _ _ (λ grid e.
    omega (
      arith,
      ap (λ cells. spread cells) e,
      sum_by-take-le (λ (cell : Iv g.row.B). cell.hi - cell.lo) c.args.base.now c.args.cells,
      pw_one (2 ^ g.row.B) c.args.cells (spread c.args.base.now),
    )) c.truncate.ensures)

pub returns-then-n-eq0-2-clause-encloses : goal.returns-then-n-eq0-2-clause-encloses
returns-then-n-eq0-2-clause-encloses g t c F p of_base =
    squared c.in_ok-half.half c.in_ok-even.even c.args.cells (c.args.n / 2) c.args.n F p (omega arith)
    (omega (arith, c.in_ok-half.ensures.cells)) c.in_ok-even.ensures.cells c.in_ok-even.ensures.convolution
    (c.in_ok-half.ensures.encloses F p of_base)

pub returns-then-n-eq0-2-clause-spread : goal.returns-then-n-eq0-2-clause-spread
returns-then-n-eq0-2-clause-spread g t c =
    squared_width (2 ^ g.row.B) c.args.cells _ (c.args.n / 2) c.args.n _ _ (pow_pos g.row.B) (omega arith)
    (omega arith) c.in_ok-even.ensures.spread c.in_ok-half.ensures.spread

pub returns-clause-encloses : goal.returns-clause-encloses
returns-clause-encloses g t c =
    if_ok_two c.product.result _ _ _ (λ grid cells made F p of_base.
    one_more c.in_ok-even.even c.args.base.now grid c.args.cells (c.args.n / 2 + c.args.n / 2) c.args.n F p
    (omega arith)
    (omega (arith, c.in_ok-even.ensures.cells)) c.requires.within cells made
    (squared c.in_ok-half.half c.in_ok-even.even c.args.cells (c.args.n / 2) (c.args.n / 2 + c.args.n / 2) F p
    (omega arith)
    (omega (arith, c.in_ok-half.ensures.cells)) c.in_ok-even.ensures.cells c.in_ok-even.ensures.convolution
    (c.in_ok-half.ensures.encloses F p of_base)) of_base)
    c.product.ensures.cells c.product.ensures.convolution

pub returns-clause-spread : goal.returns-clause-spread
returns-clause-spread g t c =
    IfOk-weaker c.product.result _ _ (λ grid h.
    one_more_width (2 ^ g.row.B) c.args.cells _ (c.args.n / 2) c.args.n _ _ (pow_pos g.row.B) (omega arith)
    (omega arith) h
    (squared_width (2 ^ g.row.B) c.args.cells _ (c.args.n / 2) (c.args.n / 2 + c.args.n / 2) _ _ (pow_pos g.row.B)
    (omega arith) (omega arith) c.in_ok-even.ensures.spread c.in_ok-half.ensures.spread))
    c.product.ensures.spread
