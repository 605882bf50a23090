-- Horner's rule on grids of listed counts: the greatest count, each count before it, and the whole.
use Rattle.dl_claims.proofs.Common.{ℕ, suc, ◌≡◌, ◌+◌, ◌*◌, ◌/◌, ◌^◌, ◌<◌, ◌≤◌, List, length, arith, ap, ◌∙◌, min, div_ceil, Fraction, ◌over◌, ◌≤ℚ◌, Iv, low_at, high_at, all_at_zero, count_pairs, cell_from, IsWithinOne, probability_at, fixed, compound, GridEncloses, finite_encloses, Item, weight_at, weight_sum, greatest, probability_is, LieBetween, cell, severity_between, probabilities_all, probability-past, enclose_low, enclose_high, horner_end}
use Rattle.dl_claims.proofs.WeightLists.{probabilities_within}
use Rattle.dl_claims.proofs.HornerSteps.{starts, goes_on}

-- a share, rounded outward, holds its probability
share_below : (S total : ℕ) (items : List Item) (k a : ℕ) → 0 < S → 0 < total → weight_sum items ≡ total
    → a ≡ S * weight_at items k / total
    → a over S ≤ℚ probability_at items k
share_below S total items k a pos p sum e =
    rw e (rw (probability_is items total sum k) (enclose_low S pos (weight_at items k) total p))

share_above : (S total : ℕ) (items : List Item) (k b : ℕ) → 0 < S → 0 < total → weight_sum items ≡ total
    → b ≡ div_ceil (S * weight_at items k) total
    → probability_at items k ≤ℚ b over S
share_above S total items k b pos p sum e =
    rw e (rw (probability_is items total sum k) (enclose_high S pos (weight_at items k) total p))

module _ (S K total : ℕ) (items : List Item) (pos : 0 < S) (p : 0 < total) (sum : weight_sum items ≡ total) where
  pub starts_at : (f : ℕ → Fraction) (g g' : ℕ → ℕ) (a b k m : ℕ) → m ≡ k
      → a ≡ S * weight_at items k / total → b ≡ div_ceil (S * weight_at items k) total
      → ((s : ℕ) → g s ≡ all_at_zero a s) → ((s : ℕ) → g' s ≡ all_at_zero b s)
      → LieBetween S K g g' (λ s. cell_from (probability_at items) f m s 0)
  starts_at f g g' a b k m e low high of_low of_high =
      rw e (starts S pos K (probability_at items) f g g' a b k
      (share_below S total items k a pos p sum low) (share_above S total items k b pos p sum high) of_low of_high)

  pub goes_on_at : (f : ℕ → Fraction) (lo hi lo' hi' g g' : ℕ → ℕ) (a b k m N k' N' : ℕ) → IsWithinOne f
      → LieBetween S K lo hi f
      → suc k ≡ m → k' ≡ k → N' ≡ suc N
      → a ≡ S * weight_at items k / total → b ≡ div_ceil (S * weight_at items k) total
      → LieBetween S K lo' hi' (λ s. cell_from (probability_at items) f m s N)
      → ((s : ℕ) → s < K → g s ≡ count_pairs s (λ i j. lo i * lo' j) / S + all_at_zero a s)
      → ((s : ℕ) → s < K → g' s ≡ min (min S (div_ceil (count_pairs s (λ i j. hi i * hi' j)) S) + all_at_zero b s) S)
      → LieBetween S K g g' (λ s. cell_from (probability_at items) f k' s N')
  goes_on_at f lo hi lo' hi' g g' a b k m N k' N' q of_f next e n low high before of_low of_high =
      let w : ℕ → Fraction = probability_at items in
      rw e (rw n
      (goes_on S pos K lo hi w f (probabilities_within items total sum p) q of_f lo' hi' g g' a b k m N next
      (share_below S total items k a pos p sum low) (share_above S total items k b pos p sum high) before
      of_low of_high))

-- what encloses one claim lies between its ends
pub one_between : {B : ℕ} (base : List (Iv B)) (K : ℕ) (f : ℕ → Fraction) → K ≤ length base
    → GridEncloses base (compound (fixed 1) f)
    → LieBetween (2 ^ B) K (low_at base) (high_at base) f
one_between {B} base K f within e = record {
  low = λ s inside. (severity_between (2 ^ B) (length base) (low_at base) (high_at base) f e s (omega arith)).0;
  high = λ s inside. (severity_between (2 ^ B) (length base) (low_at base) (high_at base) f e s (omega arith)).1;
}

-- down to no claim
pub ends : {B : ℕ} (grid : List (Iv B)) (items : List Item) (total : ℕ) (f : ℕ → Fraction) (K k N : ℕ) → 0 < total
    → weight_sum items ≡ total
    → k ≡ 0 → greatest items ≤ N → length grid ≡ K
    → LieBetween (2 ^ B) K (low_at grid) (high_at grid) (λ s. cell_from (probability_at items) f k s N)
    → GridEncloses grid (compound (probability_at items) f)
ends {B} grid items total f K k N pos sum none all e between =
    let w : ℕ → Fraction = probability_at items in
    let there = rw (← sum) at pos in
    let last : (s : ℕ) → cell_from w f k s N ≡ cell w f s N = λ s. ap (λ t. cell_from w f t s N) none
    ∙ horner_end w f s N in
    finite_encloses w f N (probabilities_all items N there (omega (arith, all)))
    (λ n past. probability-past items n there (omega (arith, all)))
    (2 ^ B) (length grid) (low_at grid) (high_at grid)
    (λ s inside. rw (← last s) (between.low s (omega (arith, e))))
    (λ s inside. rw (← last s) (between.high s (omega (arith, e))))
