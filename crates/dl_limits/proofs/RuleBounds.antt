-- The bounds of both sets of rules are within what a plan may hold, and the standard ones within the extended ones.
use Rattle.std.proofs.Common.{arith, refl}
use Rattle.dl_limits.specs.declared.rules.Rules.{Rules}
use Rattle.dl_limits.specs.declared.rules.Rules.TheVariants.{Standard, Extended}
use Rattle.dl_limits.specs.Rules.{AreBounds, AreWithin, bounds_of}

pub bounds_within : (rules : Rules) → AreBounds (bounds_of rules)
bounds_within Standard =
    record { units = omega arith; values = omega arith; parts = omega arith; equal = omega arith }
bounds_within Extended =
    record { units = omega arith; values = omega arith; parts = omega arith; equal = omega arith }

pub standard_within : AreWithin (bounds_of Standard) (bounds_of Extended)
standard_within = record {
  units = omega arith;
  values = omega arith;
  parts = omega arith;
  shapes = λ h. refl;
}
