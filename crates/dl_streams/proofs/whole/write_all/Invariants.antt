-- What was written so far.
use Rattle.std.proofs.Common.{◌≡◌, ◌-◌, ◌≤◌, length, take}
use Rattle.std.specs.Io.KnownBytes.{Appends}
use Rattle.dl_streams.specs.Steps.{Writes}
use Rattle.dl_streams.proofs.whole.write_all.Given as goal

abbrev pub invariant-writing : goal.invariant-writing
invariant-writing g l = record {
  within : l.done ≤ length l.bytes;
  written : Appends (g.K.Sink.held l.fn.sink) (g.K.Sink.held l.sink) (take l.done l.bytes);
  offered : Writes g.K.Sink.write_step l.fn.sink l.bytes l.done l.sink;
  unused : length l.bytes ≡ 0 → l.sink ≡ l.fn.sink;
  steady : g.K.Sink.faults l.sink ≡ g.K.Sink.faults l.fn.sink;
}

abbrev pub decreases-writing : goal.decreases-writing
decreases-writing g l = length l.bytes - l.done
