-- A block of counts and the counts after it, on grids.
use Rattle.dl_claims.proofs.Common.{ℕ, suc, ◌≡◌, ◌+◌, ◌*◌, ◌/◌, ◌^◌, ◌<◌, ◌≤◌, List, length, get_or, arith, refl, sym, ◌∙◌, min, div_ceil, pow_pos, Fraction, whole, ◌+ℚ◌, ◌≤ℚ◌, le_trans, le_of_eq, Iv, low_at, high_at, AreEnds, IsGridSize, count_pairs, low_le_high, convolve, power, cell_from, LieBetween, Between, le_plus, plus_comm, IsStep}
use Rattle.dl_claims.proofs.EndLists.{made_ends}
use Rattle.dl_claims.proofs.GiantSteps.{block_next}
use Rattle.dl_claims.proofs.HornerSteps.{from_within_one}
use Rattle.dl_claims.proofs.BlockEnds.{mass_within, cells_within_one, product_between, sum_between}

-- the same counts
pub from_same : {B : ℕ} (K : ℕ) (g : List (Iv B)) (w f : ℕ → Fraction) (k n k' n' : ℕ) → k ≡ k' → n ≡ n'
    → Between K g (λ s. cell_from w f k s n) → Between K g (λ s. cell_from w f k' s n')
from_same K g w f k n k' n' e h = rw (e, h) (λ between. between)

module _ {B : ℕ} (block step later moved : List (Iv B)) (lows highs : List ℕ) (K : ℕ)
    (moved_low : (s : ℕ) → s < K → low_at moved s ≡ count_pairs s (λ i j. low_at step i * low_at later j) / 2 ^ B)
    (moved_high : (s : ℕ) → s < K → high_at moved s ≡ min (2 ^ B)
    (div_ceil (count_pairs s (λ i j. high_at step i * high_at later j)) (2 ^ B)))
    (low : (x : ℕ) → x < K → get_or lows x 0 ≡ min (2 ^ B) (low_at moved x + low_at block x))
    (high : (x : ℕ) → x < K → get_or highs x 0 ≡ min (2 ^ B) (high_at moved x + high_at block x)) where
  pub step_between : (w f : ℕ → Fraction) (k m n : ℕ) → IsStep K w f k m n block step later
      → LieBetween (2 ^ B) K (λ x. get_or lows x 0) (λ x. get_or highs x 0) (λ s. cell_from w f k s (suc m + n))
  step_between w f k m n p =
      let after : ℕ → Fraction = λ j. cell_from w f (k + suc m) j n in
      let all : (s : ℕ) → cell_from w f k s (suc m + n) ≡ convolve (power f (suc m)) after s +ℚ cell_from w f k s m =
      λ s. block_next w f k m n s ∙ plus_comm _ _ in
      let one : (s : ℕ) → cell_from w f k s (suc m + n) ≤ℚ whole 1 = λ s.
      from_within_one w f p.counts p.amounts k s (suc m + n) in
      let less : (s : ℕ) → convolve (power f (suc m)) after s ≤ℚ whole 1 =
      λ s. le_trans _ _ _ (le_plus _ (cell_from w f k s m)) (le_trans _ _ _ (le_of_eq _ _ (sym (all s))) (one s)) in
      sum_between (2 ^ B) (pow_pos B) K (low_at moved) (high_at moved) (low_at block) (high_at block)
      (λ x. get_or lows x 0) (λ x. get_or highs x 0)
      (convolve (power f (suc m)) after) (λ s. cell_from w f k s m) (λ s. cell_from w f k s (suc m + n))
      (product_between (2 ^ B) (pow_pos B) K (low_at step) (high_at step) (low_at later) (high_at later) (low_at moved)
      (high_at moved) (power f (suc m)) after
      p.of_step p.of_later less moved_low moved_high)
      p.of_block all one low high

  pub step_ends : (L : ℕ) → L ≤ K → IsGridSize B L → length lows ≡ L → length highs ≡ L
      → (w f : ℕ → Fraction) (k m n : ℕ) → IsStep K w f k m n block step later → AreEnds B lows highs
  step_ends L within size many many' w f k m n p =
      made_ends B L lows highs (λ x. get_or lows x 0) (λ x. get_or highs x 0) size many many'
      (λ x b. refl) (λ x b. refl)
      (λ x b. omega (
        arith,
        low x (omega arith),
        high x (omega arith),
        low_le_high moved x,
        low_le_high block x,
      ))
      (λ x b. omega (arith, high x (omega arith)))
      (mass_within (2 ^ B) (pow_pos B) L (λ x. get_or lows x 0) (λ s. cell_from w f k s (suc m + n))
      (cells_within_one w f p.counts p.amounts k (suc m + n))
      (λ s b. (step_between w f k m n p).low s (omega arith)))
