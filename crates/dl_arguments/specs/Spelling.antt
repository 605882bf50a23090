-- How the values in the words are spelled.
use Rattle.std.specs.Prelude.{ℕ, ◌==◌, ◌&&◌, Bool, true, not, List, [], ◌∷◌, nat_le, nat_lt}
use Rattle.std.specs.List.{list_all}
use Rattle.dl_bytes.specs.Prelude.{is_number_of, is_numeral, number}
use Rattle.dl_frac.specs.Numerals.{is_bad, numeral_value}
use Rattle.dl_lexer.specs.Prelude.{is_word_byte, begins_with_letter}

-- the bytes of a word, or of a part of one
abbrev pub Text : Type 0
Text = List ℕ

-- 1 to 15 digits that write a number from low to high
abbrev pub is_number_within : ℕ → ℕ → Text → Bool
is_number_within low high text = is_number_of 15 text && nat_le low (number text)
    && nat_le (number text) high

-- 1 to 9 digits
abbrev pub is_amount : Text → Bool
is_amount = is_number_of 9

-- a numeral above 0 that is not bad with 11 digits
abbrev pub is_bucket : Text → Bool
is_bucket text = is_numeral text && not (is_bad 11 text) && nat_lt 0 (numeral_value text).num

-- a numeral below 1 that is not bad with so many digits
abbrev pub is_probability : ℕ → Text → Bool
is_probability digits text = is_numeral text && not (is_bad digits text)
    && nat_lt (numeral_value text).num (numeral_value text).den

-- a numeral that is not bad with 9 digits
abbrev pub is_weight : Text → Bool
is_weight text = is_numeral text && not (is_bad 9 text)

-- spelled as a word: a letter, then letters, digits, `_` and `-`
abbrev pub is_word : Text → Bool
is_word text = begins_with_letter text && list_all is_word_byte text

-- no hyphen begins the text
abbrev pub begins_plainly : Text → Bool
begins_plainly [] = true
begins_plainly (c ∷ cs) = not (c == 45)
