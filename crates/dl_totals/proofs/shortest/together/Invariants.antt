use Rattle.dl_totals.proofs.Common.{◌≡◌, ◌+◌, List, length, Iv, ℕ, Bool, AreApart, AreSumsOfChosen, KeepsChosen}
use Rattle.std.specs.List.{All}
use Rattle.dl_totals.proofs.shortest.together.Given as goal

abbrev pub invariant-sums : goal.invariant-sums
invariant-sums g l = record {
  many : length l.sums.items + l.step ≡ length l.fn.sums.items + 1;
  long : All (λ h. length h ≡ l.cells) l.sums.items;
  keeps : (grids : List (List (Iv g.row.B))) (tests : List (ℕ → Bool)) → AreSumsOfChosen l.cells grids l.fn.sums.items tests
      → AreApart tests → KeepsChosen l.cells grids l.sums.items tests;
}
