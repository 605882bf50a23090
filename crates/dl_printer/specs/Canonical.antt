-- The canonical text of a program: its tokens, and the gap between two neighbours.
use Rattle.std.specs.Prelude.{ℕ, Bool, true, false, ◌||◌, List, [], ◌∷◌, ◌++◌, codes, Option, Some, None, if◌then◌else◌}
use Rattle.dl_lexer.specs.declared.token.Keyword.TheVariants.{Agg, Port, Sev}
use Rattle.dl_lexer.specs.declared.token.Sign.TheVariants.{Open, Close, Colon}
use Rattle.dl_lexer.specs.declared.token.Kind.{Kind}
use Rattle.dl_lexer.specs.declared.token.Kind.TheVariants.{Word, Sign}
use Rattle.dl_ast.specs.declared.ast.Program.{Program}
use Rattle.dl_printer.specs.Pieces.{Piece, program_pieces}

-- no gap behind `[` and `:`
abbrev pub is_tight_behind : Kind → Bool
is_tight_behind (Sign Open) = true
is_tight_behind (Sign Colon) = true
is_tight_behind _ = false

-- no gap before `]` and `:`
abbrev pub is_tight_before : Kind → Bool
is_tight_before (Sign Close) = true
is_tight_before (Sign Colon) = true
is_tight_before _ = false

-- `agg`, `port` and the `sev` of a definition begin a line; a canonical text has no other `sev`
abbrev pub begins_line : Kind → Bool
begins_line (Word Agg) = true
begins_line (Word Port) = true
begins_line (Word Sev) = true
begins_line _ = false

-- the gap between two neighbours: nothing, a newline or a blank
unfoldable pub between : Kind → Kind → List ℕ
between j k =
    if is_tight_behind j || is_tight_before k then [] else if begins_line k then codes "\n"
    else codes " "

-- the gap before a token: none at the start of the text
unfoldable pub gap : Option Kind → Kind → List ℕ
gap None k = []
gap (Some j) k = between j k

-- the bytes of some tokens, the gaps before them included, behind a token of this kind
unfoldable pub spaced : Option Kind → List Piece → List ℕ
spaced j [] = []
spaced j (p ∷ ps) = gap j p.kind ++ p.text ++ spaced (Some p.kind) ps

-- the text ends with a newline
unfoldable pub canonical : Program → List ℕ
canonical p = spaced None (program_pieces p) ++ codes "\n"
