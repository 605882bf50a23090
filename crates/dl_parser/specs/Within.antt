-- Tokens whose text lies in the source.
use Rattle.std.specs.Prelude.{ℕ, ◌≤◌, List, length, All}
use Rattle.dl_lexer.specs.declared.token.Token.{Token}
use Rattle.dl_lexer.specs.declared.token.Span.{Span}

abbrev pub Inside : List ℕ → Span → Type 0
Inside source span = (span.start ≤ span.end) × (span.end ≤ length source)

abbrev pub AllInside : List ℕ → List Token → Type 0
AllInside source tokens = All (λ t. Inside source t.span) tokens
