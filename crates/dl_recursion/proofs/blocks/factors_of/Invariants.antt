use Rattle.dl_recursion.proofs.Common.{◌≡◌, ℕ, ◌*◌, ◌<◌, length, take, get_or, part_at}
use Rattle.dl_recursion.proofs.blocks.factors_of.Given as goal

abbrev pub invariant-loop-part : goal.invariant-loop-part
invariant-loop-part l = record {
  count : length l.factors.items ≡ l.cells;
  each : (j : ℕ) → j < l.cells → get_or l.factors.items j 0 ≡ l.after * j * part_at (take l.part-index l.parts) j;
}
