-- The fractions that a unit writes, apart from those of its exposure. They are asked of a unit whose
-- fine probabilities sum to 1, so a list of them is fine where it is fine and sums to 1 (`law_fine`).
use Rattle.std.specs.Prelude.{◌≡◌, ◌&&◌, ◌||◌, Bool, true, false, not, Option, Some, None}
use Rattle.std.specs.List.{list_all}
use Rattle.std.specs.Option.{MatchOption}
use Rattle.dl_limits.specs.Limits.{most_parts}
use Rattle.dl_limits.specs.declared.rules.Bounds.{Bounds}
use Rattle.dl_plan.specs.declared.severity.Sev.{Sev}
use Rattle.dl_plan.specs.Severity.{HasDistribution, Pairs}
use Rattle.dl_reading.specs.Lists.{are_fine, is_fine, probs_of}
use Rattle.dl_reading.specs.declared.grid.GridCount.{GridCount}
use Rattle.dl_reading.specs.declared.grid.GridCount.TheVariants.{Exposed, Listed}
use Rattle.dl_reading.specs.declared.grid.GridSev.{GridSev}
use Rattle.dl_reading.specs.declared.grid.GridClause.{GridClause}
use Rattle.dl_reading.specs.declared.grid.GridUnit.{GridUnit}
use Rattle.dl_reading.specs.Clauses.{shares_of}
use Rattle.dl_reading.specs.Severity.{atom_probs, weights_of, mixture_shares, severity_in_layer}

-- the probabilities of each atom are fine, and sum to 1
abbrev pub has_atoms : Bounds → GridSev → Bool
has_atoms bounds s = list_all (λ a. are_fine bounds.parts (atom_probs a)) s.atoms

-- so are the weights of the atoms, and their mixture is fine
abbrev pub has_severity : Bounds → GridSev → Bool
has_severity bounds s = has_atoms bounds s && are_fine bounds.parts (weights_of s)
    && is_fine bounds.parts (mixture_shares s)

-- the result means these pairs, and is there exactly where a test passes
abbrev pub HasPairsWhere : Bool → Pairs → Option Sev → Type 0
HasPairsWhere test pairs made = MatchOption made (test ≡ false)
    (λ sev. (test ≡ true) × HasDistribution sev pairs)

-- the result is the severity in the layer, where the parts of the severity are fine
abbrev pub IsWeighed : Bounds → GridUnit → Option Sev → Type 0
IsWeighed bounds u made = HasPairsWhere (has_severity bounds u.sev) (severity_in_layer u) made

-- the shares of a clause, if there is one, are fine
abbrev pub has_shares : Option GridClause → Bool
has_shares None = true
has_shares (Some c) = is_fine most_parts (shares_of c)

-- the probabilities of listed counts are fine, and sum to 1
abbrev pub has_probs : Bounds → GridCount → Bool
has_probs bounds (Exposed exposure freq) = true
has_probs bounds (Listed counts probs) = are_fine bounds.parts (probs_of counts probs)

-- the probabilities of the count, the shares of a clause, or a part of the severity is not fine
abbrev pub fractions_too_fine : Bounds → GridUnit → Bool
fractions_too_fine bounds u =
    not (has_probs bounds u.count) || not (has_shares u.occ)
    || not (has_shares u.agr) || not (has_severity bounds u.sev)
