-- The names of units and of severities.
use Rattle.std.specs.Prelude.{ℕ, List, map}
use Rattle.dl_ast.specs.declared.ast.SevDef.{SevDef}
use Rattle.dl_ast.specs.declared.ast.UnitAst.{UnitAst}

abbrev pub names_of : List UnitAst → List (List ℕ)
names_of units = map (λ u. u.name.text) units

abbrev pub severity_names : List SevDef → List (List ℕ)
severity_names sevs = map (λ d. d.name.text) sevs
