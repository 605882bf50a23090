use Rattle.dl_claims.proofs.Common.{ℕ, ◌≡◌, ◌+◌, ◌-◌, ◌^◌, ◌≤◌, length, Fraction, low_at, high_at, mass_low, spread, cell_from, IsWithinOne, probability_at, mixed_spread, LieBetween}
use Rattle.dl_claims.proofs.WeightLists.{shares_below}
use Rattle.dl_claims.proofs.listed.Listed.by_horner.Given as goal

abbrev pub invariant-loop-step : goal.invariant-loop-step
invariant-loop-step g l = record {
  inside : l.step ≤ l.greatest;
  cells : length l.grid ≡ l.self.cells;
  mass : mass_low l.grid + shares_below (2 ^ g.row.B) l.self.total l.self.table.now (l.greatest - l.step) ≤ 2 ^ g.row.B;
  spread : spread l.grid ≤ mixed_spread (2 ^ g.row.B) l.self.cells (spread l.self.base.now) l.step;
  between : (f : ℕ → Fraction) → IsWithinOne f → LieBetween (2 ^ g.row.B) l.self.cells (low_at l.self.base.now) (high_at l.self.base.now) f
      → LieBetween (2 ^ g.row.B) l.self.cells (low_at l.grid) (high_at l.grid)
      (λ s. cell_from (probability_at l.self.table.now) f (l.greatest - l.step) s l.step);
}
