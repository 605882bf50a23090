-- Severities with names, and the mixture that a reference names.
use Rattle.std.specs.Prelude.{ℕ, List, [], ◌∷◌, Option, Some, None, if◌then◌else◌}
use Rattle.std.specs.Str.{bytes_eq}
use Rattle.dl_lexer.specs.declared.token.Span.{Span}
use Rattle.dl_ast.specs.declared.ast.MixAst.{MixAst}
use Rattle.dl_ast.specs.declared.ast.SevBody.{SevBody}
use Rattle.dl_ast.specs.declared.ast.SevBody.TheVariants.{Mixture, Ref}
use Rattle.dl_ast.specs.declared.ast.SevDef.{SevDef}

-- the mixture of the first severity with this name
unfoldable pub named : List SevDef → List ℕ → Option MixAst
named [] name = None
named (d ∷ ds) name = if bytes_eq d.name.text name then Some d.mix else named ds name

-- the mixture that a severity is: its own, or that of its name
unfoldable pub mixture_of : List SevDef → SevBody → Option MixAst
mixture_of sevs (Mixture m) = Some m
mixture_of sevs (Ref n) = named sevs n.text

-- where it is written in the unit
abbrev pub body_span : SevBody → Span
body_span (Mixture m) = m.span
body_span (Ref n) = n.span
