use Rattle.dl_claims.proofs.Common.{ℕ, ◌≡◌, ◌/◌, ◌^◌, ◌<◌, length, get_or, min, div_ceil, low_at, high_at, mixture_end}
use Rattle.dl_claims.proofs.mixture.block.Given as goal

abbrev pub invariant-loop-x : goal.invariant-loop-x
invariant-loop-x g l = record {
  lows : length l.lows.items ≡ l.x;
  highs : length l.highs.items ≡ l.x;
  low : (k : ℕ) → k < l.x → get_or l.lows.items k 0 ≡ min (2 ^ g.row.B)
      (mixture_end l.weights.items l.powers (λ t. low_at t k) / l.fn.total);
  high : (k : ℕ) → k < l.x → get_or l.highs.items k 0
      ≡ min (2 ^ g.row.B) (div_ceil (mixture_end l.weights.items l.powers (λ t. high_at t k)) l.fn.total);
}
