use Rattle.dl_start.proofs.Common.{◌+◌, ◌-◌, ◌*◌, ◌^◌, ◌<◌, ◌≤◌}
use Rattle.dl_start.proofs.root.whole_root.Given as goal

abbrev pub invariant-loop-past : goal.invariant-loop-past
invariant-loop-past l = record {
  order : l.low < l.past;
  top : l.past ≤ 2 ^ 63 + 1;
  below : l.low * l.low ≤ l.fn.n;
  above : l.fn.n < l.past * l.past;
}

abbrev pub decreases-loop-past : goal.decreases-loop-past
decreases-loop-past l = l.past - l.low
