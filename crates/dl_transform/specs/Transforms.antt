-- Two transforms and what joins them.
use Rattle.std.specs.Prelude.{ℕ, ◌*◌, ◌<◌, ◌≤◌}
use Rattle.dl_transform.specs.Lists.{IsTableFor}
use Rattle.dl_transform.specs.Residue.{Same, IsFactor}
use Rattle.dl_transform.specs.declared.tables.Table.{Table}

-- both tables are right and have `levels` levels, and w is the inverse of the first p by the
-- second, q its quotient
pub record AreTransforms (t u : Table) (w q levels : ℕ) : Type 0 where
  pub first : IsTableFor t levels
  pub second : IsTableFor u levels
  pub order : t.p ≤ u.p
  pub factor : IsFactor u.p w q
  pub inverse : Same u.p (t.p * w) 1
  pub few : levels < 40
