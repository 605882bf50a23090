-- The ranges so far.
use Rattle.dl_reading.proofs.Common.{◌≡◌, ◌≤◌, flat_map, take, length, spanned_in}
use Rattle.dl_reading.proofs.value_lists.values_of_ranges.Given as goal

abbrev pub invariant-each : goal.invariant-each
invariant-each l = record {
  values : l.values.items ≡ flat_map spanned_in (take l.range-index l.ranges);
  few : length l.values.items ≤ l.bounds.values;
}
