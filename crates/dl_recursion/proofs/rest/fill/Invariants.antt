use Rattle.dl_recursion.proofs.Common.{◌≡◌, ℕ, ◌-◌, ◌<◌, List, length, All, Fraction, Part, AreScaledCells, AreFalling, AreLast, FollowsInWhole, EncloseScaled}
use Rattle.dl_recursion.proofs.rest.fill.Given as goal

abbrev pub invariant-cells : goal.invariant-cells
invariant-cells l = record {
  sound : AreScaledCells l.x.low.items l.x.high.items l.x.first;
  count : length l.x.low.items ≡ l.n;
  shift : l.x.shift ≡ l.initial.x.shift;
  last : (top : ℕ) → AreLast l.initial.x.high.items (length l.initial.x.low.items - top) l.high
      → AreLast l.x.high.items (l.n - top) l.high;
  round : (parts : List Part) (a b q top : ℕ) (r : ℕ → Fraction) → AreFalling parts a b q top (length l.initial.x.low.items)
      → AreLast l.initial.x.high.items (length l.initial.x.low.items - top) l.high → All (λ p. 0 < p.amount) parts → 0 < q
      → FollowsInWhole parts a b q r
      → EncloseScaled r l.initial.x.shift (length l.initial.x.low.items) l.initial.x.low.items l.initial.x.high.items
      → EncloseScaled r l.x.shift l.n l.x.low.items l.x.high.items;
}
