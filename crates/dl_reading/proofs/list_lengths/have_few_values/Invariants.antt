-- The values of the atoms so far, and the room that is left.
use Rattle.dl_reading.proofs.Common.{◌+◌, ◌≤◌, sum_by, take, most_values, values_in}
use Rattle.dl_reading.proofs.list_lengths.have_few_values.Given as goal

abbrev pub invariant-atoms : goal.invariant-atoms
invariant-atoms l = sum_by values_in (take l.atom-index l.atoms) + l.room ≤ most_values
