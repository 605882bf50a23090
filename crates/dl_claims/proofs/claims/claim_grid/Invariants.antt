use Rattle.dl_claims.proofs.Common.{ℕ, ◌≡◌, ◌*◌, ◌/◌, ◌^◌, ◌<◌, ◌≤◌, length, take, div_ceil, low_at, high_at, mass_low, spread, weight_at, weight_sum}
use Rattle.dl_claims.proofs.claims.claim_grid.Given as goal

abbrev pub invariant-loop-item : goal.invariant-loop-item
invariant-loop-item g l = record {
  cells : length l.grid ≡ l.cells;
  low : (y : ℕ) → y < l.cells → low_at l.grid y ≡ 2 ^ g.row.B * weight_at (take l.item-index l.amounts) y / l.total;
  high : (y : ℕ) → y < l.cells → high_at l.grid y ≡ div_ceil
      (2 ^ g.row.B * weight_at (take l.item-index l.amounts) y) l.total;
  mass : mass_low l.grid * l.total ≤ 2 ^ g.row.B * weight_sum (take l.item-index l.amounts);
  spread : spread l.grid ≤ l.item-index;
}
