-- Tokens with their texts.
use Rattle.std.specs.Prelude.{ℕ, ◌-◌, List, map, take, drop}
use Rattle.dl_lexer.specs.declared.token.Kind.{Kind}
use Rattle.dl_lexer.specs.declared.token.Span.{Span}
use Rattle.dl_lexer.specs.declared.token.Token.{Token}
use Rattle.dl_lexer.specs.Tokens.{IsSpelled}

-- a token with its text
pub record Lexeme : Type 0 where
  pub kind : Kind
  pub text : List ℕ
  pub span : Span

-- its text is spelled as its kind says
abbrev pub IsReal : Lexeme → Type 0
IsReal t = IsSpelled t.kind t.text

-- a token of a text, and all of its tokens
abbrev pub lexeme : List ℕ → Token → Lexeme
lexeme source t = record {
  kind = t.kind;
  text = take (t.span.end - t.span.start) (drop t.span.start source);
  span = t.span;
}

abbrev pub lexemes : List ℕ → List Token → List Lexeme
lexemes source tokens = map (lexeme source) tokens
