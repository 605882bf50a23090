-- The bounds in which the two sets of rules differ.
use Rattle.std.specs.Prelude.{◌≡◌, ◌≤◌, true, false}
use Rattle.dl_limits.specs.Limits.{most_units, most_values, most_weights, standard_units, standard_values, standard_weights}
use Rattle.dl_limits.specs.declared.rules.Rules.{Rules}
use Rattle.dl_limits.specs.declared.rules.Rules.TheVariants.{Standard, Extended}
use Rattle.dl_limits.specs.declared.rules.Bounds.{Bounds}

-- those of a set of rules
abbrev pub bounds_of : Rules → Bounds
bounds_of Standard = record {
  units = standard_units;
  values = standard_values;
  parts = standard_weights;
  whole_shapes = true;
}
bounds_of Extended = record {
  units = most_units;
  values = most_values;
  parts = most_weights;
  whole_shapes = false;
}

-- a plan has room for what they allow; and the longest list of equally likely values is fine
pub record AreBounds (bounds : Bounds) : Type 0 where
  pub units : bounds.units ≤ most_units
  pub values : bounds.values ≤ most_values
  pub parts : bounds.parts ≤ most_weights
  pub equal : most_values ≤ bounds.parts

-- what the first bounds allow, the second ones allow too
pub record AreWithin (a b : Bounds) : Type 0 where
  pub units : a.units ≤ b.units
  pub values : a.values ≤ b.values
  pub parts : a.parts ≤ b.parts
  pub shapes : b.whole_shapes ≡ true → a.whole_shapes ≡ true
