-- Sums of units: which units a list of grids encloses, and how wide the grid of their sum may be.
use Rattle.std.specs.Prelude.{ℕ, ◌≡◌, ◌<◌, List, [], length, get_or}
use Rattle.dl_iv.specs.declared.interval.Iv.{Iv}
use Rattle.dl_model.specs.Prelude.{Loss, GridEncloses, unit_of}

-- the grids enclose the outcomes of the units, one by one
pub record EncloseEach {B : ℕ} (grids : List (List (Iv B))) (units : List Loss) : Type 0 where
  pub as_many : length grids ≡ length units
  pub each : (i : ℕ) → i < length grids → GridEncloses (get_or grids i []) (unit_of units i)
