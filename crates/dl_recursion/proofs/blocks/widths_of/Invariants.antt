use Rattle.dl_recursion.proofs.Common.{◌≡◌, ℕ, ◌+◌, ◌<◌, ◌^◌, All, length, get_or}
use Rattle.dl_recursion.proofs.blocks.widths_of.Given as goal

abbrev pub invariant-cells : goal.invariant-cells
invariant-cells l = record {
  count : length l.widths.items ≡ l.k;
  each : (j : ℕ) → j < l.k → get_or l.high j 0 ≡ get_or l.low j 0 + get_or l.widths.items j 0;
  small : All (λ width. width < 2 ^ 64) l.widths.items;
}
