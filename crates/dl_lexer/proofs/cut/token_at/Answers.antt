-- Where no letter begins the bytes, the longest token is a numeral or a sign.
use Rattle.dl_lexer.proofs.Common.{◌∙◌, arith, sym}
use Rattle.dl_lexer.proofs.TokenKinds.{longest_numeral, longest_sign}
use Rattle.dl_lexer.proofs.cut.token_at.Goals as goal

pub returns-then-numeral-gt0-clause-spelled : goal.returns-then-numeral-gt0-clause-spelled
returns-then-numeral-gt0-clause-spelled c = c.numeral_length-numeral.ensures.spelled (omega arith)

pub returns-then-numeral-gt0-clause-longest : goal.returns-then-numeral-gt0-clause-longest
returns-then-numeral-gt0-clause-longest c =
    longest_numeral c.args.bytes.now c.numeral_length-numeral.result
    (sym c.begins_with_letter.ensures ∙ c.if-begins_with_letter.false) c.numeral_length-numeral.ensures (omega arith)

pub returns-in-Some-clause-longest : goal.returns-in-Some-clause-longest
returns-in-Some-clause-longest c = grind (arith, longest_sign)
