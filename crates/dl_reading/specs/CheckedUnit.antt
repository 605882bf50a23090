-- The properties of a unit in whole buckets that keeps the rules so far: later rules
-- rest on them.
use Rattle.std.specs.Prelude.{◌≡◌, None, false}
use Rattle.dl_limits.specs.declared.rules.Bounds.{Bounds}
use Rattle.dl_limits.specs.Rules.{AreBounds}
use Rattle.dl_reading.specs.declared.grid.GridUnit.{GridUnit}
use Rattle.dl_reading.specs.FineParts.{fractions_too_fine}
use Rattle.dl_reading.specs.CheckedGrid.{IsGridUnit}
use Rattle.dl_reading.specs.Rules.{weights_differ, none_above, overlap, share_above_one, off_grid_cession}

-- there is one weight for each atom
pub record IsWeighted (u : GridUnit) : Type 0 where
  pub grid : IsGridUnit u
  pub weights : weights_differ u ≡ None

-- its severity reaches its layer, and its clauses are ones: layers that do not overlap, with shares
-- of at most 1
pub record IsLayered (u : GridUnit) : Type 0 where
  pub weighted : IsWeighted u
  pub reached : none_above u ≡ None
  pub apart : overlap u ≡ None
  pub within : share_above_one u ≡ None

-- its clauses map whole amounts to whole amounts, and its fractions are fine by these bounds, apart
-- from its exposure: it has a final severity
pub record IsFineSev (bounds : Bounds) (u : GridUnit) : Type 0 where
  pub allowed : AreBounds bounds
  pub layered : IsLayered u
  pub ceded : off_grid_cession u ≡ None
  pub fine : fractions_too_fine bounds u ≡ false
