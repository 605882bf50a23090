-- When the canonical text of a program reads back as that program.
use Rattle.std.specs.Prelude.{List, length}
use Rattle.dl_lexer.specs.declared.token.Token.{Token}
use Rattle.dl_lexer.specs.Cutting.{Covers}
use Rattle.dl_ast.specs.declared.ast.Program.{Program}
use Rattle.dl_ast.specs.Prelude.{lexemes, Spells, program}
use Rattle.dl_printer.specs.Canonical.{canonical}
use Rattle.dl_printer.specs.Apart.{SameProgram}

-- the text has a token list, and it spells the program apart from spans
pub record ReadsBack (p : Program) : Type 0 where
  pub tokens : List Token
  pub covered : Covers (canonical p) (length (canonical p)) tokens
  pub read : Program
  pub spelled : Spells program read (lexemes (canonical p) tokens)
  pub same : SameProgram read p
