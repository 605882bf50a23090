-- The word: the run of its bytes, where a letter begins them.
use Rattle.dl_lexer.proofs.Common.{◌∙◌, sym}
use Rattle.dl_lexer.proofs.WordLengths.{word_longest}
use Rattle.dl_lexer.proofs.front.word_length.Goals as goal

pub returns-then-begins_with_letter : goal.returns-then-begins_with_letter
returns-then-begins_with_letter c = word_longest c.args.bytes.now c.run_length.result
    (sym c.begins_with_letter.ensures ∙ c.if-begins_with_letter.true) c.run_length.ensures.run
