-- What was read so far.
use Rattle.std.proofs.Common.{◌≡◌, ◌+◌, ◌-◌, ◌≤◌, vec_len}
use Rattle.std.specs.Io.KnownBytes.{Consumes}
use Rattle.dl_streams.specs.Steps.{Reads}
use Rattle.dl_streams.proofs.whole.read_all.Given as goal

abbrev pub invariant-reading : goal.invariant-reading
invariant-reading g l = record {
  within : vec_len l.bytes ≤ l.limit + 1;
  taken : Consumes (g.R.Source.left l.fn.src) (g.R.Source.left l.src) l.bytes.items;
  reads : Reads g.R.Source.read_step l.fn.src (l.limit + 1) l.bytes.items l.src;
  steady : g.R.Source.faults l.src ≡ g.R.Source.faults l.fn.src;
}

abbrev pub decreases-reading : goal.decreases-reading
decreases-reading g l = l.limit + 1 - vec_len l.bytes
