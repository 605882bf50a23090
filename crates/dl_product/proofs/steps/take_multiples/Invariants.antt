use Rattle.dl_product.proofs.Common.{ℕ, ◌≡◌, ◌*◌, ◌<◌, length, get_or, div_ceil}
use Rattle.dl_product.proofs.steps.take_multiples.Given as goal

abbrev pub invariant-loop-k : goal.invariant-loop-k
invariant-loop-k l = record {
  long : length l.out.items ≡ div_ceil (length l.xs) l.step;
  done : (k : ℕ) → k < l.k → get_or l.out.items k 0 ≡ get_or l.xs (k * l.step) 0;
}
