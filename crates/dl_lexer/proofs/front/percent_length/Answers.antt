-- The percent: the longest decimal, and a percent sign behind it.
use Rattle.dl_lexer.proofs.Common.{arith, rules}
use Rattle.dl_lexer.proofs.NumeralLengths.{percent_without_mark}
use Rattle.dl_lexer.proofs.front.percent_length.Goals as goal
use Rattle.dl_lexer.proofs.front.percent_length.Goals.{else-decimal-gt0-via-then-decimal-gt0+else-is_at, else-decimal-gt0-via-else-decimal-gt0}

pub returns-else-decimal-gt0 : goal.returns-else-decimal-gt0
returns-else-decimal-gt0 c =
    percent_without_mark c.args.bytes.now c.args.decimal c.requires
    (elim c.else-decimal-gt0.branch [
      | else-decimal-gt0-via-then-decimal-gt0+else-is_at w ↦
          search rules
      | else-decimal-gt0-via-else-decimal-gt0 w ↦ λ some. absurd (omega arith)
    ])
