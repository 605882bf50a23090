-- Severities in whole buckets, as they are read.
use Rattle.std.specs.Prelude.{◌≡◌, List, Option, Some}
use Rattle.dl_ast.specs.declared.ast.MixAst.{MixAst}
use Rattle.dl_ast.specs.declared.ast.SevDef.{SevDef}
use Rattle.dl_ast.specs.WellFormed.{IsFormedMixture}
use Rattle.dl_plan.specs.declared.settings.Settings.{Settings}
use Rattle.dl_reading.specs.declared.flaws.Gridded.{Gridded}
use Rattle.dl_reading.specs.declared.grid.GridSev.{GridSev}
use Rattle.dl_reading.specs.Prelude.{IsRead, grid_mixture, flaws_of_mixture}
use Rattle.dl_rules.specs.declared.known.KnownSeverity.{KnownSeverity}
use Rattle.dl_rules.specs.Faults.{bounds_asked, most_asked}
use Rattle.dl_rules.specs.Severities.{named}

-- a mixture is read
pub record IsMixtureRead (settings : Settings) (mix : MixAst) (made : Gridded GridSev) : Type 0
  where
    pub formed : IsFormedMixture mix
    pub right : IsRead (flaws_of_mixture (bounds_asked settings) (most_asked settings)
        settings.bs mix)
        (grid_mixture settings.bs mix) made

-- the mixture that a severity is, is there and is read
pub record IsSeverityRead (settings : Settings) (is : Option MixAst) (made : Gridded GridSev)
    : Type 0 where
  pub mix : MixAst
  pub there : is ≡ Some mix
  pub read : IsMixtureRead settings mix made

-- that of a severity with a name
abbrev pub IsKnown : Settings → List SevDef → KnownSeverity → Type 0
IsKnown settings sevs known = IsSeverityRead settings (named sevs known.name.now) known.made
