use Rattle.std.proofs.Common.{◌≡◌, length}
use Rattle.dl_grid_tests.proofs.tests.products.counted_square.Given as goal

abbrev pub invariant-loop-i : goal.invariant-loop-i
invariant-loop-i l = length l.list.items ≡ 1024
