-- The definitions that other crates cite, passed on from one place. Declares nothing.
pub use Rattle.dl_lexer.specs.Bytes.{is_comment_byte, is_note_byte, is_white, is_word_byte}
pub use Rattle.dl_lexer.specs.Cutting.{Covers, IsBad, IsLongest, blank, blank_length, nothing, token, token_of}
pub use Rattle.dl_lexer.specs.Keywords.{spelling}
unfoldable pub use Rattle.dl_lexer.specs.Keywords.{first_spelled}
pub use Rattle.dl_lexer.specs.Lines.{column_of, is_newline, line_of}
pub use Rattle.dl_bytes.specs.Numerals.{IsDecimal, IsNumeral, a_decimal, a_fraction, a_percent, digits, digits_point, fraction, percent, point_digits}
pub use Rattle.dl_lexer.specs.Tokens.{IsNote, IsRef, IsSpelled, IsWord, begins_with_letter, note, ref, sign_byte}
