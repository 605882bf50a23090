-- When each step is refused.
use Rattle.std.specs.Prelude.{ℕ, ◌≤◌, ⊤, List, map, All, Any}
use Rattle.dl_limits.specs.Limits.{frac_bound}
use Rattle.dl_exact.specs.Fraction.{Fraction}
use Rattle.dl_plan.specs.declared.item.Item.{Item}
use Rattle.dl_plan.specs.declared.severity.Sev.{Sev}
use Rattle.dl_plan.specs.Prelude.{common_denominator, IsWhole, Clause, kept}
use Rattle.dl_severity.specs.declared.weights.Weights.{Weights}
use Rattle.dl_severity.specs.Steps.{mixed_probability, mixture}
use Rattle.dl_severity.specs.declared.fault.MixFault.{MixFault}
use Rattle.dl_severity.specs.declared.fault.MixFault.TheVariants as mix_fault
use Rattle.dl_severity.specs.declared.fault.AboveFault.{AboveFault}
use Rattle.dl_severity.specs.declared.fault.AboveFault.TheVariants as above_fault
use Rattle.dl_severity.specs.declared.fault.CedeFault.{CedeFault}
use Rattle.dl_severity.specs.declared.fault.CedeFault.TheVariants as cede_fault

-- no amount exceeds the attachment
abbrev pub RefusesAbove : Sev → ℕ → AboveFault → Type 0
RefusesAbove sev attach above_fault.NoneAbove = All (λ item. item.amount ≤ attach) sev.items
RefusesAbove sev attach above_fault.OutOfMemory = ⊤

-- the clause maps an amount to no whole number
abbrev pub RefusesClause : List Item → Clause → CedeFault → Type 0
RefusesClause items clause cede_fault.OffGrid =
    Any (λ item. ¬ IsWhole (kept clause item.amount)) items
RefusesClause items clause cede_fault.OutOfMemory = ⊤

-- the products of a weight and an atom's probability have a common denominator above `most`
abbrev pub RefusesMixture : (most : ℕ) → List Sev → Weights → MixFault → Type 0
RefusesMixture most atoms weights mix_fault.TooFine =
    ¬ common_denominator (map (λ pair. pair.1) (mixture atoms weights)) ≤ most
RefusesMixture most atoms weights mix_fault.OutOfMemory = ⊤

-- a product of the share and a probability of the atom has a denominator of more than 62 bits
abbrev pub RefusesProducts : (share : Fraction) → Sev → MixFault → Type 0
RefusesProducts share atom mix_fault.TooFine =
    Any (λ item. frac_bound ≤ (mixed_probability share atom.total item).den) atom.items
RefusesProducts share atom mix_fault.OutOfMemory = ⊤
