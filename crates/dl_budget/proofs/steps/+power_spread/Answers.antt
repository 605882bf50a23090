use Rattle.dl_budget.proofs.Common.{◌+◌, ◌^◌, arith, refl, sym, pw_one, ◌/◌, pw_none}
use Rattle.dl_budget.proofs.SizeLaws.{unit_small, square_size, square_value, next_value, odd_size, base_small}
use Rattle.dl_budget.proofs.steps.+power_spread.Goals as goal

pub returns-then-n-eq0-clause-value : goal.returns-then-n-eq0-clause-value
returns-then-n-eq0-clause-value g t c = rw c.if-n-eq0.true (sym (pw_none (2 ^ g.row.B) c.args.cells c.args.base))

pub returns-then-n-eq1-clause-value : goal.returns-then-n-eq1-clause-value
returns-then-n-eq1-clause-value g t c = rw c.if-n-eq1.true (sym (pw_one (2 ^ g.row.B) c.args.cells c.args.base))

pub returns-then-n-eq1-clause-small : goal.returns-then-n-eq1-clause-small
returns-then-n-eq1-clause-small g t c = base_small c.args.cells 0 c.args.base c.args.n (omega arith) c.requires.room

pub returns-then-n-eq0-2-clause-value : goal.returns-then-n-eq0-2-clause-value
returns-then-n-eq0-2-clause-value g t c =
    square_value (2 ^ g.row.B) c.args.cells c.args.base (c.args.n / 2) c.args.n _ _ (omega arith)
    (omega arith) c.power_spread-half.ensures.value c.convolution_spread-even.ensures.value

pub returns-then-n-eq0-2-clause-size : goal.returns-then-n-eq0-2-clause-size
returns-then-n-eq0-2-clause-size g t c some =
    square_size g.row.B c.args.cells c.args.base (c.args.n / 2) c.args.n _ _ c.requires.scale
    (omega arith) c.requires.room (c.power_spread-half.ensures.size (omega arith)) c.convolution_spread-even.ensures.value

pub returns-then-n-eq0-2-clause-small : goal.returns-then-n-eq0-2-clause-small
returns-then-n-eq0-2-clause-small g t c =
    unit_small g.row.B c.args.cells 0 _ _ c.requires.scale c.requires.room
    (square_size g.row.B c.args.cells c.args.base (c.args.n / 2) c.args.n _ _ c.requires.scale
    (omega arith) c.requires.room (c.power_spread-half.ensures.size (omega arith)) c.convolution_spread-even.ensures.value)

pub convolution_spread-requires-clause-left : goal.convolution_spread-requires-clause-left
convolution_spread-requires-clause-left g t c =
    omega (
      arith,
      (odd_size g.row.B c.args.cells c.args.base (c.args.n / 2) c.args.n _ _ _ c.requires.scale
          (omega arith) c.requires.room (c.power_spread-half.ensures.size (omega arith)) c.convolution_spread-even.ensures.value refl).0,
    )

pub convolution_spread-requires-clause-right : goal.convolution_spread-requires-clause-right
convolution_spread-requires-clause-right g t c =
    let bound = base_small c.args.cells 0 c.args.base c.args.n (omega arith) c.requires.room in
    omega arith

pub returns-clause-value : goal.returns-clause-value
returns-clause-value g t c =
    next_value (2 ^ g.row.B) c.args.cells c.args.base (c.args.n / 2) c.args.n _ _ (omega arith) (omega arith)
    (square_value (2 ^ g.row.B) c.args.cells c.args.base (c.args.n / 2) (c.args.n / 2 + c.args.n / 2) _ _ (omega arith)
    (omega arith) c.power_spread-half.ensures.value c.convolution_spread-even.ensures.value)
    c.convolution_spread.ensures.value

pub returns-clause-size : goal.returns-clause-size
returns-clause-size g t c some =
    (odd_size g.row.B c.args.cells c.args.base (c.args.n / 2) c.args.n _ _ _ c.requires.scale
    (omega arith) c.requires.room (c.power_spread-half.ensures.size (omega arith)) c.convolution_spread-even.ensures.value
    c.convolution_spread.ensures.value).1

pub returns-clause-small : goal.returns-clause-small
returns-clause-small g t c =
    unit_small g.row.B c.args.cells 0 _ _ c.requires.scale c.requires.room
    (odd_size g.row.B c.args.cells c.args.base (c.args.n / 2) c.args.n _ _ _ c.requires.scale
    (omega arith) c.requires.room (c.power_spread-half.ensures.size (omega arith)) c.convolution_spread-even.ensures.value
    c.convolution_spread.ensures.value).1
