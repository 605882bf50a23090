-- How a text is cut into blanks and tokens.
use Rattle.std.specs.Prelude.{ℕ, ◌≡◌, ◌+◌, ◌<◌, ◌≤◌, List, [], ◌∷◌, ◌++◌, length, take, drop, if◌then◌else◌, ◌==◌}
use Rattle.std.specs.List.{prefix_len}
use Rattle.dl_lexer.specs.declared.token.Kind.{Kind}
use Rattle.dl_lexer.specs.declared.token.Token.{Token}
use Rattle.dl_lexer.specs.Bytes.{is_white, is_comment_byte}
use Rattle.dl_lexer.specs.Tokens.{IsSpelled, IsToken}

-- the longest start of the bytes that is spelled so takes n of them; where n is 0 there is none
pub record IsLongest (IsSpelledSo : List ℕ → Type 0) (bytes : List ℕ) (n : ℕ) : Type 0 where
  pub within : n ≤ length bytes
  pub spelled : 0 < n → IsSpelledSo (take n bytes)
  pub longest : (m : ℕ) → m ≤ length bytes → IsSpelledSo (take m bytes) → m ≤ n

-- no token begins the bytes
abbrev pub NoToken : List ℕ → Type 0
NoToken bytes = IsLongest IsToken bytes 0

-- how many bytes the blank takes that begins the bytes: one, or a comment up to the next newline or
-- the end; 0 where none begins
abbrev pub blank_length : List ℕ → ℕ
blank_length [] = 0
blank_length (b ∷ bytes) =
    if is_white b then 1 else if b == 35 then 1 + prefix_len is_comment_byte bytes else 0

-- the token of this kind of n bytes from a place on
abbrev pub token_of : Kind → ℕ → ℕ → Token
token_of kind at n = record { kind = kind; span = record { start = at; end = at + n } }

-- Blanks and these tokens, put in order, are the first bytes of a text, up to this place. In the
-- whole text no longer token begins where one of them does, and none begins where a blank does.
pub data Covers (bytes : List ℕ) : ℕ → List Token → Type 0 where
  nothing : Covers bytes 0 []
  blank : (at : ℕ) (tokens : List Token) → Covers bytes at tokens
      → 0 < blank_length (drop at bytes) → NoToken (drop at bytes)
      → Covers bytes (at + blank_length (drop at bytes)) tokens
  token : (at n : ℕ) (kind : Kind) (tokens : List Token) → Covers bytes at tokens
      → IsSpelled kind (take n (drop at bytes)) → IsLongest IsToken (drop at bytes) n
      → Covers bytes (at + n) (tokens ++ token_of kind at n ∷ [])

-- the cutting reaches this place before the end of the text, and neither a blank nor a token begins
-- there
pub record IsBad (bytes : List ℕ) (at : ℕ) : Type 0 where
  pub within : at < length bytes
  pub tokens : List Token
  pub reached : Covers bytes at tokens
  pub no_blank : blank_length (drop at bytes) ≡ 0
  pub no_token : NoToken (drop at bytes)
