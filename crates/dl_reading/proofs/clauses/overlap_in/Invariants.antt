-- No layer before overlaps an earlier one.
use Rattle.dl_reading.proofs.Turns.{NoneTurned, overlap_at}
use Rattle.dl_reading.proofs.clauses.overlap_in.Given as goal

abbrev pub invariant-layers : goal.invariant-layers
invariant-layers l = NoneTurned overlap_at l.layers l.at
