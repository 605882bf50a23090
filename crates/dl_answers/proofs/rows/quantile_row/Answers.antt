use Rattle.dl_answers.proofs.Common.{refl}
use Rattle.dl_answers.proofs.GoodRows.{is_bracket}
use Rattle.dl_answers.proofs.Tails.{bracket_past}
use Rattle.dl_answers.proofs.rows.quantile_row.Goals as goal

pub returns-clause-bracket : goal.returns-clause-bracket
returns-clause-bracket g c = λ plan valid t.
    let bracket = c.quantile-bracket in
    is_bracket bracket.result.hi refl c.bracket_end.ensures bracket.ensures.lo bracket.ensures.hi
    bracket.ensures.holds bracket.ensures.tight c.cells.ensures.grid valid t

pub returns-clause-past : goal.returns-clause-past
returns-clause-past g c =
    bracket_past c.args.total.now c.quantile-bracket.result.hi c.bracket_end.ensures c.quantile-bracket.ensures.hi
