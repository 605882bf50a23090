-- How the tokens of each kind are spelled.
use Rattle.std.specs.Prelude.{ℕ, ◌≡◌, ◌≢◌, ◌++◌, Bool, false, ◌&&◌, List, [], ◌∷◌, IsTrue, codes}
use Rattle.std.specs.List.{list_all}
use Rattle.dl_lexer.specs.declared.token.Keyword.{Keyword}
use Rattle.dl_lexer.specs.declared.token.Sign.{Sign}
use Rattle.dl_lexer.specs.declared.token.Sign.TheVariants.{Open, Close, Colon, Comma, Bang}
use Rattle.dl_lexer.specs.declared.token.Kind.{Kind}
use Rattle.dl_lexer.specs.declared.token.Kind.TheVariants as kind
use Rattle.dl_lexer.specs.Bytes.{is_letter, is_word_byte, is_note_byte}
use Rattle.dl_bytes.specs.Numerals.{IsNumeral}
use Rattle.dl_lexer.specs.Keywords.{spelling}

-- whether a letter begins the bytes
abbrev pub begins_with_letter : List ℕ → Bool
begins_with_letter [] = false
begins_with_letter (b ∷ bytes) = is_letter b

-- a letter, then letters, digits, `_` and `-`
abbrev pub IsWord : List ℕ → Type 0
IsWord bytes = IsTrue (begins_with_letter bytes && list_all is_word_byte bytes)

-- a word that is no keyword
pub record IsName (bytes : List ℕ) : Type 0 where
  pub word : IsWord bytes
  pub no_keyword : (k : Keyword) → spelling k ≢ bytes

-- `note{`, bytes that are no braces, `}`
pub data IsNote (bytes : List ℕ) : Type 0 where
  note : (text : List ℕ) → bytes ≡ codes "note{" ++ text ++ 125 ∷ []
      → IsTrue (list_all is_note_byte text) → IsNote bytes

-- `sev.` and a word
pub data IsRef (bytes : List ℕ) : Type 0 where
  ref : (name : List ℕ) → bytes ≡ codes "sev." ++ name → IsWord name → IsRef bytes

-- the byte of a sign
abbrev pub sign_byte : Sign → ℕ
sign_byte sign = elim sign [ Open ↦ 91 | Close ↦ 93 | Colon ↦ 58 | Comma ↦ 44 | Bang ↦ 33 ]

-- the bytes spell a token of this kind
abbrev pub IsSpelled : Kind → List ℕ → Type 0
IsSpelled (kind.Word k) bytes = bytes ≡ spelling k
IsSpelled kind.Name bytes = IsName bytes
IsSpelled kind.Ref bytes = IsRef bytes
IsSpelled kind.Numeral bytes = IsNumeral bytes
IsSpelled kind.Note bytes = IsNote bytes
IsSpelled (kind.Sign s) bytes = bytes ≡ sign_byte s ∷ []

-- the bytes spell a token
pub record IsToken (bytes : List ℕ) : Type 0 where
  pub kind : Kind
  pub spelled : IsSpelled kind bytes
