-- The classes of bytes.
use Rattle.std.specs.Prelude.{ℕ, Bool, ◌==◌, nat_le, ◌&&◌, ◌||◌, not}
use Rattle.std.specs.Char.{is_ascii_digit}

-- a tab, a newline, a carriage return or a space
abbrev pub is_white : ℕ → Bool
is_white b = b == 9 || b == 10 || b == 13 || b == 32

-- `A` to `Z` or `a` to `z`
abbrev pub is_letter : ℕ → Bool
is_letter b = (nat_le 65 b && nat_le b 90) || (nat_le 97 b && nat_le b 122)

-- a byte of a word behind its first: a letter, a digit, `_` or `-`
abbrev pub is_word_byte : ℕ → Bool
is_word_byte b = is_letter b || is_ascii_digit b || b == 95 || b == 45

-- a byte of a note: any but `{` and `}`
abbrev pub is_note_byte : ℕ → Bool
is_note_byte b = not (b == 123 || b == 125)

-- a byte of a comment: any but a newline
abbrev pub is_comment_byte : ℕ → Bool
is_comment_byte b = not (b == 10)
