-- Which units have the same outcomes.
use Rattle.std.specs.Prelude.{◌≡◌, All, List, get_or}
use Rattle.dl_plan.specs.declared.plan.Unit.{Unit as UnitOfPlan}

-- the same severity, claim count, aggregate clause and changed probability of no claim; the names
-- may differ
pub record AreAlike (u v : UnitOfPlan) : Type 0 where
  pub items : u.sev.items ≡ v.sev.items
  pub total : u.sev.total ≡ v.sev.total
  pub count : u.freq ≡ v.freq
  pub clause : u.cede ≡ v.cede
  pub zero : u.zero ≡ v.zero

-- all units are like the first
abbrev pub AreAllAlike : List UnitOfPlan → Type 0
AreAllAlike units = (u : UnitOfPlan) → All (AreAlike (get_or units 0 u)) units
