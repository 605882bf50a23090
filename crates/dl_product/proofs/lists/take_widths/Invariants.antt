use Rattle.dl_product.proofs.Common.{ℕ, ◌≡◌, ◌+◌, ◌<◌, length, get_or}
use Rattle.dl_product.proofs.lists.take_widths.Given as goal

abbrev pub invariant-loop-k : goal.invariant-loop-k
invariant-loop-k l = record {
  long : length l.out.items ≡ length l.lows;
  done : (j : ℕ) → j < l.k → get_or l.lows j 0 + get_or l.out.items j 0 ≡ get_or l.highs j 0;
}
