use Rattle.dl_recursion.proofs.Common.{◌≡◌, ◌-◌, length, AreWindows}
use Rattle.dl_recursion.proofs.sums.add_up.Given as goal

abbrev pub invariant-runs : goal.invariant-runs
invariant-runs l = record {
  windows : AreWindows l.runs l.low l.high (length l.low - 1) l.windows.items;
  count : length l.windows.items ≡ l.i;
}
