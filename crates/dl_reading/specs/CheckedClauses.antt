-- The properties of a unit's clauses where the rules on them are kept.
use Rattle.std.specs.Prelude.{◌≡◌, None}
use Rattle.dl_reading.specs.declared.grid.GridClause.{GridClause}
use Rattle.dl_reading.specs.CheckedGrid.{IsGridClause}
use Rattle.dl_reading.specs.declared.grid.GridUnit.{GridUnit}
use Rattle.dl_reading.specs.declared.made.Clauses.{Clauses}
use Rattle.dl_reading.specs.Clauses.{made_of, IsMade}
use Rattle.dl_reading.specs.Rules.{overlap_in, share_above_one_in}

-- the layers of a clause do not overlap, and no share is above 1
pub record IsClauseLayered (c : GridClause) : Type 0 where
  pub grid : IsGridClause c
  pub apart : overlap_in c ≡ None
  pub within : share_above_one_in c ≡ None

-- the clauses of a unit
pub record AreClausesOf (u : GridUnit) (made : Clauses) : Type 0 where
  pub occ : made.occ ≡ made_of u.occ
  pub agr : made.agr ≡ made_of u.agr
  pub occ_made : IsMade made.occ
  pub agr_made : IsMade made.agr
