-- A text that grows by tokens.
use Rattle.std.specs.Prelude.{ℕ, List, [], ◌∷◌, ◌++◌, Option, Some}
use Rattle.dl_lexer.specs.declared.token.Kind.{Kind}
use Rattle.dl_printer.specs.Pieces.{Piece}
use Rattle.dl_printer.specs.Canonical.{gap}

-- the bytes so far, and the kind of the last token
pub record SoFar : Type 0 where
  pub text : List ℕ
  pub last : Option Kind

-- the text with these tokens at its end
unfoldable pub with_pieces : SoFar → List Piece → SoFar
with_pieces t [] = t
with_pieces t (p ∷ ps) =
    with_pieces (record { text = t.text ++ gap t.last p.kind ++ p.text; last = Some p.kind }) ps
