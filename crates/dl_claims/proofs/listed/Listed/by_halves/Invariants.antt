use Rattle.dl_claims.proofs.Common.{ℕ, suc, ◌≡◌, ◌-◌, ◌*◌, ◌^◌, ◌≤◌, length, All, Fraction, IsWithinOne, probability_at, Between, ArePairable}
use Rattle.dl_claims.proofs.listed.Listed.by_halves.Given as goal

abbrev pub invariant-loop : goal.invariant-loop
invariant-loop g l = record {
  many : length l.parts.items ≡ 2 * 2 ^ (l.levels - l.counter);
  few : All (λ t. length t ≤ l.self.cells) l.parts.items;
  in_step : length l.step ≤ l.self.cells;
  pairable : (f : ℕ → Fraction) → IsWithinOne f → Between l.self.cells l.self.base.now f
      → ArePairable l.self.cells (probability_at l.self.table.now) f (suc l.most * 2 ^ l.counter - 1) l.parts.items l.step;
}
