-- The values of the atoms so far.
use Rattle.dl_reading.proofs.Common.{◌+◌, ◌≤◌, take, IsReadTo, flaws_in, listed_flaws, most_values}
use Rattle.dl_reading.proofs.ListLengths.{count_of, counted}
use Rattle.dl_reading.proofs.list_lengths.atoms_lists.Given as goal

abbrev pub invariant-atoms : goal.invariant-atoms
invariant-atoms l = record {
  read : IsReadTo 2 (flaws_in (listed_flaws l.bounds) (take l.atom-index l.atoms))
      (count_of l.bounds.values (take l.atom-index l.atoms))
      (record { part = counted l.is_long l.total; flaws = l.flaws });
  few : l.total ≤ most_values + 1;
}
