-- The longest of the three kinds of numerals.
use Rattle.dl_lexer.proofs.NumeralLengths.{numeral_longest}
use Rattle.dl_lexer.proofs.front.numeral_length.Goals as goal

pub returns : goal.returns
returns c = rw (c.max-2.ensures, c.max.ensures)
    (numeral_longest c.args.bytes.now c.decimal_length-decimal.result c.percent_length.result c.fraction_length.result
    c.decimal_length-decimal.ensures c.percent_length.ensures c.fraction_length.ensures)
