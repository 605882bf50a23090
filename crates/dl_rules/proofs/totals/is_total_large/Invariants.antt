-- The units so far.
use Rattle.dl_rules.proofs.Common.{◌≡◌, ◌≤◌, ◌*◌, take, mean_num_bound, most_growth, changed_units, whole_means}
use Rattle.dl_rules.proofs.totals.is_total_large.Given as goal

abbrev pub invariant-units : goal.invariant-units
invariant-units l = record {
  changed : l.changed ≡ changed_units (take l.unit-index l.units);
  total : l.total ≡ whole_means (take l.unit-index l.units);
  few : l.changed ≤ l.unit-index;
  small : l.total ≤ l.unit-index * (most_growth * mean_num_bound);
}
