use Rattle.dl_totals.proofs.Common.{◌≡◌, ◌≤◌, List, length, ℕ, Bool, not, ◌&&◌, nat_lt, nat_eq, cond, passed, AreSumsOfChosen}
use Rattle.std.specs.List.{All}
use Rattle.dl_totals.proofs.shortest.singles.Given as goal

abbrev pub invariant-units : goal.invariant-units
invariant-units g l = record {
  inside : l.at ≤ length l.units;
  long : All (λ h. length h ≡ l.cells) l.sums.items;
  tests : List (ℕ → Bool);
  are : AreSumsOfChosen l.cells l.units l.sums.items tests;
  each : (i : ℕ) → passed tests i ≡ cond (nat_lt i l.at && not (nat_eq i l.skip)) 1 0;
}
