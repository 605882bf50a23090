-- Grids that end early: past their end all ends are 0.
use Rattle.dl_claims.proofs.Common.{ℕ, suc, ◌≡◌, ◌+◌, ◌-◌, ◌*◌, ◌/◌, ◌^◌, ◌<◌, ◌≤◌, List, length, get_or, take, arith, sym, ap, ap₂, inl, inr, ◌∙◌, min, div_ceil, cases_lt, length-take-le, pow_pos, zero_le, Fraction, Iv, low_at, high_at, low_le_high, low_take, high_take, AreEnds, IsGridSize, low_within, count_pairs, IsConvolution, power, power_one, over_zero, Between, nothing_times, times_nothing, pairs_same, zero-div, below_none, below_pairs, high_le, IsGrid}
use Rattle.dl_claims.proofs.EndLists.{made_ends}
use Rattle.dl_claims.proofs.Ends.{low_past, high_past, nothing_over_up}

-- a beginning after which all is 0
pub trimmed_claim : {B : ℕ} (base g : List (Iv B)) (K n : ℕ) (f : ℕ → Fraction) → n ≤ length base → g ≡ take n base
    → ((x : ℕ) → n ≤ x → x < K → high_at base x ≡ 0) → Between K base f → Between K g (power f 1)
trimmed_claim {B} base g K n f within is none of_f = rw (is, power_one f) (record {
  low = λ s inside. elim (cases_lt s n) [
    | inl before ↦ rw (low_take base n s before) (of_f.low s inside)
    | inr past ↦ rw (low_past (take n base) s (omega (arith, length-take-le n base within)), over_zero (2 ^ B) (pow_pos B))
        (zero_le _)
  ];
  high = λ s inside. elim (cases_lt s n) [
    | inl before ↦ rw (high_take base n s before) (of_f.high s inside)
    | inr past ↦ rw (high_past (take n base) s (omega (arith, length-take-le n base within)), ← none s past inside)
        (of_f.high s inside)
  ];
})

-- the same ends with zeros after them
pub padded_ends : {B : ℕ} (g : List (Iv B)) (lows highs : List ℕ) (K : ℕ) → IsGrid g → IsGridSize B K
    → length lows ≡ K → length highs ≡ K → ((x : ℕ) → get_or lows x 0 ≡ low_at g x)
    → ((x : ℕ) → get_or highs x 0 ≡ high_at g x) → AreEnds B lows highs
padded_ends {B} g lows highs K is size many many' low high =
    made_ends B K lows highs (low_at g) (high_at g) size many many' (λ x b. low x) (λ x b. high x)
    (λ x b. low_le_high g x) (λ x b. high_le g x (2 ^ B) is.small) (omega (arith, is.mass, low_within K g))

-- a product past the last places of both lists
pairs_past : (s m n : ℕ) (a b : ℕ → ℕ) → m + n ≤ suc s → ((i : ℕ) → m ≤ i → a i ≡ 0) → ((j : ℕ) → n ≤ j → b j ≡ 0)
    → count_pairs s (λ i j. a i * b j) ≡ 0
pairs_past s m n a b past of_a of_b =
    sym (below_pairs s (λ i j. a i * b j))
    ∙ below_none (suc s) (λ i. a i * b (s - i)) (λ i within. elim (cases_lt i m) [
      | inl before ↦ times_nothing (a i) (b (s - i)) (of_b (s - i) (omega arith))
      | inr far ↦ nothing_times (a i) (b (s - i)) (of_a i far)
    ])

-- the convolution of two short grids, from that of the same with zeros after them
pub short_convolution : {B : ℕ} (a b a' b' g : List (Iv B)) (K L : ℕ) → (L < K → length a + length b ≡ suc L)
    → ((x : ℕ) → low_at a' x ≡ low_at a x) → ((x : ℕ) → high_at a' x ≡ high_at a x)
    → ((x : ℕ) → low_at b' x ≡ low_at b x) → ((x : ℕ) → high_at b' x ≡ high_at b x)
    → length g ≡ L → IsConvolution L a' b' g → IsConvolution K a b g
short_convolution {B} a b a' b' g K L last low_a high_a low_b high_b long is = record {
  low = λ s inside. elim (cases_lt s L) [
    | inl before ↦ is.low s before
        ∙ ap (λ t. t / 2 ^ B) (pairs_same s _ _ (λ i j. ap₂ (λ u v. u * v) (low_a i) (low_b j)))
    | inr past ↦ low_past g s (omega arith)
        ∙ sym (ap (λ t. t / 2 ^ B) (pairs_past s (length a) (length b) (low_at a) (low_at b)
        (omega (arith, last (omega arith))) (low_past a) (low_past b)) ∙ zero-div (2 ^ B))
  ];
  high = λ s inside. elim (cases_lt s L) [
    | inl before ↦ is.high s before
        ∙ ap (λ t. min (2 ^ B) (div_ceil t (2 ^ B)))
        (pairs_same s _ _ (λ i j. ap₂ (λ u v. u * v) (high_a i) (high_b j)))
    | inr past ↦ high_past g s (omega arith)
        ∙ sym (ap (λ t. min (2 ^ B) (div_ceil t (2 ^ B))) (pairs_past s (length a) (length b) (high_at a) (high_at b)
        (omega (arith, last (omega arith))) (high_past a) (high_past b))
        ∙ nothing_over_up (2 ^ B) (2 ^ B) (pow_pos B))
  ];
}
