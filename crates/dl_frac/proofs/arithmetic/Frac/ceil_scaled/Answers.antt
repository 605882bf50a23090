-- The unit is below 2^64, so the shift loses nothing.
use Rattle.dl_frac.proofs.Common.{◌^◌}
use Rattle.dl_exact.proofs.Denominators.{ceiling_units}
use Rattle.dl_frac.proofs.FractionLaws.{unit_fits}
use Rattle.dl_frac.proofs.arithmetic.Frac.ceil_scaled.Goals as goal

pub returns : goal.returns
returns g c = rw (c.div_ceil.ensures, unit_fits g.row.B c.requires, ← c.self.view_is) (ceiling_units (2 ^ g.row.B) _)
