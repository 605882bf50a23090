-- What an enclosing grid weighs, and how wide its ends are.
use Rattle.dl_measures.proofs.Common.{◌≡◌, inl, inr, ℕ, suc, zero, ◌+◌, ◌-◌, ◌*◌, ◌<◌, ◌≤◌, min, arith, List, cases_lt, Fraction, whole, ◌<ℚ◌, over_lt, one_pos, IsBound, count_below, Loss, AreDeclarable, One, Cdf, score, partial_sums, total, Encloses, low_cdf, outcomes_rise, cdf_most_one, not_both}
use Rattle.dl_measures.proofs.CellEnds.{cdf_ends}

-- the low ends of an enclosing grid add up to at most S
pub mass : (us : List Loss) (S K : ℕ) (lo hi : ℕ → ℕ) (e : Fraction) (k : ℕ) → AreDeclarable us → 0 < S
    → Encloses S K lo hi (total us)
    → IsBound (partial_sums us One) e → whole 0 <ℚ partial_sums us One k → (n : ℕ) → n ≤ K → count_below n lo ≤ S
unfolding count_below
mass us S K lo hi e k w s c b pos zero nk = omega arith
mass us S K lo hi e k w s c b pos (suc x) nk = elim (cases_lt S (count_below (suc x) lo)) [
  | inr l ↦ l
  | inl l ↦ absurd (not_both (partial_sums us One) (outcomes_rise us w (score One)) e k b pos (partial_sums us (Cdf x))
      (low_cdf S lo x)
      (cdf_ends us S K lo hi w s c x (omega arith)).0
      (whole 1, over_lt 1 1 (count_below (suc x) lo) S one_pos s (omega arith), cdf_most_one us x))
]

-- the widths of the cells add up
pub spread : (n : ℕ) (lo hi : ℕ → ℕ) → ((y : ℕ) → y < n → lo y ≤ hi y)
    → count_below n hi ≡ count_below n lo + count_below n (λ y. hi y - lo y)
unfolding count_below
spread zero lo hi h = omega arith
spread (suc n) lo hi h = omega (arith, h n (omega arith), spread n lo hi (λ y b. h y (omega arith)))

-- so a finite layer is no wider than its limit times the spread
pub rests : (S w L : ℕ) (f g : ℕ → ℕ) → ((i : ℕ) → i < L → g i ≤ f i + w)
    → count_below L (λ i. S - f i) ≤ count_below L (λ i. S - min S (g i)) + L * w
unfolding count_below
rests S w zero f g h = omega arith
rests S w (suc L) f g h = omega (arith, h L (omega arith), rests S w L f g (λ i c. h i (omega arith)))
