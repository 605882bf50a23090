-- A loop that changes one cell after the other, and what holds of the cells so far.
use Rattle.dl_transform.proofs.Common.{ℕ, ◌≡◌, ◌+◌, ◌<◌, ◌≤◌, List, length, get_or, arith, set_done, set_rest, set}

-- each cell before i is below B and has its relation Q to its place and what stood there; the others are as before
pub record IsChanged (B : ℕ) (Q : ℕ → ℕ → ℕ → Type 0) (before now : List ℕ) (i : ℕ) : Type 0 where
  pub small : (k : ℕ) → k < i → get_or now k 0 < B
  pub done : (k : ℕ) → k < i → Q k (get_or before k 0) (get_or now k 0)
  pub rest : (k : ℕ) → i ≤ k → get_or now k 0 ≡ get_or before k 0

pub one_more : (B : ℕ) (Q : ℕ → ℕ → ℕ → Type 0) (before now : List ℕ) (i v : ℕ) → IsChanged B Q before now i
    → i < length now → v < B → Q i (get_or now i 0) v → IsChanged B Q before (set now i v) (i + 1)
one_more B Q before now i v h inside small here =
    record {
      small = set_done (λ k t. t < B) now i v inside h.small small;
      done = set_done (λ k t. Q k (get_or before k 0) t) now i v inside h.done (rw (h.rest i (omega arith)) at here);
      rest = set_rest now before i v h.rest;
    }

-- two lists that are changed at once, where P and Q relate what stood at a place in both to what stands there
pub record AreChanged (B : ℕ) (P Q : ℕ → ℕ → ℕ → Type 0) (low_before high_before low high : List ℕ) (i : ℕ) : Type 0 where
  pub first : IsChanged B (λ k u t. P u (get_or high_before k 0) t) low_before low i
  pub second : IsChanged B (λ k v t. Q (get_or low_before k 0) v t) high_before high i

pub both_more : (B : ℕ) (P Q : ℕ → ℕ → ℕ → Type 0) (low_before high_before low high : List ℕ) (i a b : ℕ)
    → AreChanged B P Q low_before high_before low high i → i < length low → i < length high → a < B → b < B
    → P (get_or low i 0) (get_or high i 0) a → Q (get_or low i 0) (get_or high i 0) b
    → AreChanged B P Q low_before high_before (set low i a) (set high i b) (i + 1)
both_more B P Q low_before high_before low high i a b h in_low in_high a_small b_small here there =
    record {
      first = one_more B (λ k u t. P u (get_or high_before k 0) t) low_before low i a h.first in_low a_small
          (rw (h.second.rest i (omega arith)) at here);
      second = one_more B (λ k v t. Q (get_or low_before k 0) v t) high_before high i b h.second in_high b_small
          (rw (h.first.rest i (omega arith)) at there);
    }
