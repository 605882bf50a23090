use Rattle.dl_product.proofs.Common.{ℕ, ◌≡◌, ◌+◌, ◌-◌, ◌*◌, ◌<◌, ◌≤◌, length, get_or, count_below}
use Rattle.dl_product.proofs.behind.with_rest.Given as goal

abbrev pub invariant-loop-s : goal.invariant-loop-s
invariant-loop-s l = record {
  sum : l.sum ≡ count_below (l.s - l.from) (λ k. get_or l.items k 0);
  long : length l.out ≡ length l.initial.out;
  done : (k : ℕ) → k < l.s → get_or l.out k 0
      ≡ get_or l.initial.out k 0 + l.rest * count_below (k + 1 - l.from) (λ k. get_or l.items k 0);
  left : (k : ℕ) → l.s ≤ k → get_or l.out k 0 ≡ get_or l.initial.out k 0;
}
