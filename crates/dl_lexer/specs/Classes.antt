-- The classes of bytes of which a run has one.
use Rattle.std.specs.Prelude.{ℕ, Bool}
use Rattle.std.specs.Char.{is_ascii_digit}
use Rattle.dl_lexer.specs.declared.front.Class.{Class}
use Rattle.dl_lexer.specs.declared.front.Class.TheVariants.{Digit, Word, Note, Comment}
use Rattle.dl_lexer.specs.Bytes.{is_word_byte, is_note_byte, is_comment_byte}

-- whether a byte is in a class
abbrev pub is_in : Class → ℕ → Bool
is_in Digit = is_ascii_digit
is_in Word = is_word_byte
is_in Note = is_note_byte
is_in Comment = is_comment_byte
