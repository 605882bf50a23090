use Rattle.dl_recursion.proofs.Common.{◌≡◌, ℕ, ◌+◌, ◌*◌, ◌^◌, ◌≤◌, length, get_or, All, sum, HasGridEnds}
use Rattle.dl_recursion.proofs.to_grid.to_grid.Given as goal

abbrev pub invariant-rows : goal.invariant-rows
invariant-rows g l = record {
  count : length l.lows.items ≡ l.cells;
  paired : length l.highs.items ≡ l.cells;
  ends : HasGridEnds g.row.B l.start l.x.shift l.step l.i l.x.low.items l.x.high.items (λ x. get_or l.lows.items x 0)
      (λ x. get_or l.highs.items x 0);
  zeros : (x : ℕ) → l.step * l.i ≤ x → get_or l.lows.items x 0 ≡ 0;
  ordered : (x : ℕ) → get_or l.lows.items x 0 ≤ get_or l.highs.items x 0;
  small : All (λ high. high ≤ 2 ^ g.row.B) l.highs.items;
  left : sum l.lows.items + l.room ≡ 2 ^ g.row.B;
}
