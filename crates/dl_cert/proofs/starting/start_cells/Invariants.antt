use Rattle.dl_cert.proofs.Common.{ℕ, ◌≡◌, ◌^◌, ◌<◌, ◌≤◌, length, All, Iv, low_at, high_at, low_base, high_base}
use Rattle.dl_cert.proofs.starting.start_cells.Given as goal

abbrev pub invariant-loop-y : goal.invariant-loop-y
invariant-loop-y l = record {
  cells : length l.list.items ≡ l.y;
  small : All (λ (cell : Iv 56). cell.hi ≤ 2 ^ 56) l.list.items;
  low : (k : ℕ) → k < l.y → low_at l.list.items k ≡ low_base l.base l.sev (low_at l.list.items) k;
  high : (k : ℕ) → k < l.y → high_at l.list.items k ≡ high_base l.base l.sev (high_at l.list.items) k;
}
