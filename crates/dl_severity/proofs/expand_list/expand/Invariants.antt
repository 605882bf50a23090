-- The values of the ranges read so far.
use Rattle.dl_severity.proofs.Common.{◌≡◌, ◌≤◌, length, take, list_values}
use Rattle.dl_severity.proofs.expand_list.expand.Given as goal

abbrev pub invariant-items : goal.invariant-items
invariant-items l = record {
  so_far : l.values.items ≡ list_values (take l.item-index l.items);
  few : length l.values.items ≤ l.fn.most;
}
