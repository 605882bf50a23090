-- A bracket holds each quantile, and there is at most one.
use Rattle.dl_model.proofs.Common.{◌≡◌, inl, inr, ℕ, ◌-◌, ◌≤◌, arith, sym, subst₂, List, Some, None, cases_lt, Fraction, whole, ◌≤ℚ◌, ◌<ℚ◌, le_trans, sum_to_grows, IsBound, AtLeast, Below, Rises, Series, Loss, AreDeclarable, One, Cdf, score, partial_sums, IsQuantile, Quantity, IsBracketed, none-some}
use Rattle.std.specs.Prelude.{Option}
use Rattle.dl_model.proofs.Alike.{not_both}
use Rattle.dl_model.proofs.Outcomes.{outcomes_rise}
use Rattle.dl_model.proofs.Scores.{cdf_points}

pub cdf_grows : (us : List Loss) → (x y N : ℕ) → x ≤ y → partial_sums us (Cdf x) N ≤ℚ partial_sums us (Cdf y) N
cdf_grows us x y N h = subst₂ (λ s t. s ≤ℚ t) (sym (cdf_points us x N)) (sym (cdf_points us y N)) (sum_to_grows x y _ h)

module _ (phi : Quantity → Series) (grows : (x y N : ℕ) → x ≤ y → phi (Cdf x) N ≤ℚ phi (Cdf y) N)
    (rise : Rises (phi One)) (e : Fraction) (k : ℕ) (bound : IsBound (phi One) e) (pos : whole 0 <ℚ phi One k)
    (p : Fraction) where
  clash : (x y : ℕ) → x ≤ y → AtLeast (phi (Cdf x)) (phi One) p → Below (phi (Cdf y)) (phi One) p → ⊥
  clash x y h a d = not_both (phi One) rise e k bound pos (phi (Cdf y)) p
      (λ n u b. a n u (λ m. le_trans _ _ _ (grows x y m h) (b m))) d

  pub bracket_holds : (q lo : ℕ) (hi : Option ℕ) → IsQuantile phi q p → IsBracketed phi lo hi p
      → (lo ≤ q) × ((x : ℕ) → hi ≡ Some x → q ≤ x)
  bracket_holds q lo hi i j = (
    elim (cases_lt q lo) [
      | inr l ↦ l
      | inl l ↦ absurd (clash q (lo - 1) (omega arith) i.reached (j.before (lo - 1) (omega arith)))
    ],
    λ x is. elim (cases_lt x q) [
      | inr l ↦ l
      | inl l ↦ absurd (clash x (q - 1) (omega arith) (j.reached x is) (i.before (q - 1) (omega arith)))
    ],
  )

  -- there is at most one quantile
  pub one_quantile : (q q' : ℕ) → IsQuantile phi q p → IsQuantile phi q' p → q ≡ q'
  one_quantile q q' i j =
      omega (arith, (bracket_holds q q' None i (alone j)).0, (bracket_holds q' q None j (alone i)).0)
    where
      alone : {q : ℕ} → IsQuantile phi q p → IsBracketed phi q None p
      alone i = record { before = i.before; reached = λ x is. absurd (none-some x is) }

-- ---- of units

pub quantile_inside : (us : List Loss) (e p : Fraction) (k q lo : ℕ) (hi : Option ℕ) → AreDeclarable us
    → IsBound (partial_sums us One) e → whole 0 <ℚ partial_sums us One k → IsQuantile (partial_sums us) q p
    → IsBracketed (partial_sums us) lo hi p → (lo ≤ q) × ((x : ℕ) → hi ≡ Some x → q ≤ x)
quantile_inside us e p k q lo hi w b pos =
    bracket_holds (partial_sums us) (cdf_grows us) (outcomes_rise us w (score One)) e k b pos p q lo hi
