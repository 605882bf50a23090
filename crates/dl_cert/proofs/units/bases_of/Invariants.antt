use Rattle.dl_cert.proofs.Common.{ℕ, ◌≡◌, ◌<◌, length, get_or, UnitOfPlan, BaseOfUnit, IsBaseOf}
use Rattle.dl_cert.proofs.units.bases_of.Given as goal

abbrev pub invariant-loop-unit : goal.invariant-loop-unit
invariant-loop-unit l = (length l.bases.items ≡ l.unit-index)
    × ((u : ℕ) (unit : UnitOfPlan) (base : BaseOfUnit) → u < l.unit-index
    → IsBaseOf (get_or l.units u unit) (get_or l.bases.items u base))
