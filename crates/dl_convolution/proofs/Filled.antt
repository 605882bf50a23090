-- Lists of numbers that a loop fills place by place.
use Rattle.dl_exact.proofs.Writing.{set_done, set_rest}
use Rattle.dl_convolution.proofs.Common.{ℕ, ◌≡◌, ◌+◌, ◌<◌, ◌≤◌, List, ◌++◌, length, get_or, take, drop, arith, take_all, set, drop_all, append-nil}

-- the first n items of ys are those of f
pub record IsFilled (f : ℕ → ℕ) (ys : List ℕ) (n : ℕ) : Type 0 where
  pub done : (k : ℕ) → k < n → get_or ys k 0 ≡ f k

-- and the others are those of xs
pub record IsMapped (f : ℕ → ℕ) (xs ys : List ℕ) (n : ℕ) : Type 0 where
  pub filled : IsFilled (λ k. f (get_or xs k 0)) ys n
  pub rest : (k : ℕ) → n ≤ k → get_or ys k 0 ≡ get_or xs k 0

pub filled_more : (f : ℕ → ℕ) (ys : List ℕ) (n y : ℕ) → n < length ys → y ≡ f n → IsFilled f ys n
    → IsFilled f (set ys n y) (n + 1)
filled_more f ys n y inside here before =
    record { done = set_done (λ k item. item ≡ f k) ys n y inside before.done here }

pub mapped_more : (f : ℕ → ℕ) (xs ys : List ℕ) (n y : ℕ) → n < length ys → y ≡ f (get_or xs n 0) → IsMapped f xs ys n
    → IsMapped f xs (set ys n y) (n + 1)
mapped_more f xs ys n y inside here before = record {
  filled = filled_more _ ys n y inside here before.filled;
  rest = set_rest ys xs n y before.rest;
}

-- a list with all its items written anew
pub written : (xs new : List ℕ) (n : ℕ) → length new ≡ length xs → n ≡ length xs
    → take n (new ++ drop (length new) xs) ≡ new
written xs new n same long =
    rw (drop_all (length new) xs (omega (arith, same)), append-nil) (take_all n new (omega (arith, same, long)))
