-- Where a letter begins the bytes, the longest token is a word, a note or a reference, and a word is a keyword or a name.
use Rattle.dl_lexer.proofs.Common.{arith, sym}
use Rattle.dl_lexer.specs.declared.token.Kind.TheVariants as kind
use Rattle.dl_lexer.proofs.TokenKinds.{longest_lettered}
use Rattle.dl_lexer.proofs.cut.word_at.Goals as goal

pub returns-then-reference-max-clause-spelled : goal.returns-then-reference-max-clause-spelled
returns-then-reference-max-clause-spelled c = c.ref_length-reference.ensures.spelled (omega arith)

pub returns-then-reference-max-clause-longest : goal.returns-then-reference-max-clause-longest
returns-then-reference-max-clause-longest c =
    longest_lettered c.args.bytes.now c.word_length-word.result c.note_length-note.result c.ref_length-reference.result
    c.ref_length-reference.result kind.Ref c.requires c.word_length-word.ensures c.note_length-note.ensures
    c.ref_length-reference.ensures (omega arith, omega arith, omega arith) c.ref_length-reference.ensures.within
    c.ref_length-reference.ensures.spelled

pub returns-then-note-word-clause-spelled : goal.returns-then-note-word-clause-spelled
returns-then-note-word-clause-spelled c = c.note_length-note.ensures.spelled (omega arith)

pub returns-then-note-word-clause-longest : goal.returns-then-note-word-clause-longest
returns-then-note-word-clause-longest c =
    longest_lettered c.args.bytes.now c.word_length-word.result c.note_length-note.result c.ref_length-reference.result
    c.note_length-note.result kind.Note c.requires c.word_length-word.ensures c.note_length-note.ensures
    c.ref_length-reference.ensures (omega arith, omega arith, omega arith) c.note_length-note.ensures.within
    c.note_length-note.ensures.spelled

pub returns-in-Some-clause-longest : goal.returns-in-Some-clause-longest
returns-in-Some-clause-longest c =
    longest_lettered c.args.bytes.now c.word_length-word.result c.note_length-note.result c.ref_length-reference.result
    c.word_length-word.result (kind.Word c.in-Some.keyword) c.requires c.word_length-word.ensures
    c.note_length-note.ensures c.ref_length-reference.ensures (omega arith, omega arith, omega arith)
    c.word_length-word.ensures.within (λ some. sym c.in-Some.ensures.found)

pub returns-in-None-clause-longest : goal.returns-in-None-clause-longest
returns-in-None-clause-longest c =
    longest_lettered c.args.bytes.now c.word_length-word.result c.note_length-note.result c.ref_length-reference.result
    c.word_length-word.result kind.Name c.requires c.word_length-word.ensures c.note_length-note.ensures
    c.ref_length-reference.ensures (omega arith, omega arith, omega arith) c.word_length-word.ensures.within
    (λ some. record { word = c.word_length-word.ensures.spelled some; no_keyword = c.in-None.ensures.none })
