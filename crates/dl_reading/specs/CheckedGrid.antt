-- Properties of a unit in whole buckets: small amounts, and lists, severities and clauses of some
-- parts, but not too many. Lists that belong together are equally long, and fine probabilities sum
-- to 1.
use Rattle.std.specs.Prelude.{ℕ, ◌≡◌, ◌<◌, ◌≤◌, length, All, IfSome, None}
use Rattle.std.specs.List.{sum_by}
use Rattle.dl_limits.specs.Limits.{most_amount, most_atoms, most_layers, most_values}
use Rattle.dl_reading.specs.Small.{IsSmall, IsShares, IsGridCount}
use Rattle.dl_reading.specs.declared.grid.GridAtom.{GridAtom}
use Rattle.dl_reading.specs.declared.grid.GridSev.{GridSev}
use Rattle.dl_reading.specs.declared.grid.GridLayer.{GridLayer}
use Rattle.dl_reading.specs.declared.grid.GridClause.{GridClause}
use Rattle.dl_reading.specs.declared.grid.GridUnit.{GridUnit}
use Rattle.dl_reading.specs.Severity.{atom_probs}
use Rattle.dl_reading.specs.Rules.{count_lengths}

-- 1 to 65,536 amounts, each with one probability
pub record IsGridAtom (a : GridAtom) : Type 0 where
  pub some : 0 < length a.amounts
  pub few : length a.amounts ≤ most_values
  pub near : All (λ amount. amount ≤ most_amount) a.amounts
  pub probs : IfSome a.probs IsShares
  pub each : length (atom_probs a) ≡ length a.amounts

-- 1 to 64 atoms, with at most 65,536 amounts together
pub record IsGridSev (s : GridSev) : Type 0 where
  pub atoms : All IsGridAtom s.atoms
  pub some : 0 < length s.atoms
  pub few : length s.atoms ≤ most_atoms
  pub together : sum_by (λ a. length a.amounts) s.atoms ≤ most_values
  pub weights : IfSome s.weights IsShares

-- a limit and an attachment of at most so many buckets
pub record IsLayerWithin (most : ℕ) (l : GridLayer) : Type 0 where
  pub limit : IfSome l.limit (λ limit. limit ≤ most)
  pub attach : l.attach ≤ most

pub record IsGridClause (c : GridClause) : Type 0 where
  pub some : 0 < length c.layers
  pub few : length c.layers ≤ most_layers
  pub layers : All (λ l. IsLayerWithin most_amount l.layer) c.layers

pub record IsGridUnit (u : GridUnit) : Type 0 where
  pub count : IsGridCount u.count
  pub paired : count_lengths u.count ≡ None
  pub layer : IfSome u.layer (IsLayerWithin most_amount)
  pub sev : IsGridSev u.sev
  pub zero : IfSome u.zero IsSmall
  pub occ : IfSome u.occ IsGridClause
  pub agr : IfSome u.agr IsGridClause

-- ---- how large its amounts are

-- each amount of the atoms is at most so many buckets
abbrev pub IsSevWithin : ℕ → GridSev → Type 0
IsSevWithin most s = All (λ a. All (λ amount. amount ≤ most) a.amounts) s.atoms

-- each limit and each attachment of the layers
abbrev pub IsClauseWithin : ℕ → GridClause → Type 0
IsClauseWithin most c = All (λ l. IsLayerWithin most l.layer) c.layers

-- each amount, limit and attachment of the unit
pub record IsWithin (most : ℕ) (u : GridUnit) : Type 0 where
  pub layer : IfSome u.layer (IsLayerWithin most)
  pub sev : IsSevWithin most u.sev
  pub occ : IfSome u.occ (IsClauseWithin most)
  pub agr : IfSome u.agr (IsClauseWithin most)
