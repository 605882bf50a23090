-- The quantities of the total as sums of points and of survivals.
use Rattle.dl_model.proofs.Common.{◌≡◌, inl, inr, ℕ, suc, zero, ◌+◌, ◌-◌, min, Bool, nat_eq, nat_le, nat_lt, arith, sym, ap, ◌∙◌, List, sum, Some, None, cases_lt, lt-ltb, le-ltb, Fraction, ◌+ℚ◌, whole, sum_to, sum_to_zero, sum_below, zero_plus, plus_zero, plus_comm, whole_plus, Loss, One, Point, Cdf, Layer, Mean, where_true, score, partial_sums, above, survival, lt-leb, le-leb, refl}
use Rattle.dl_model.proofs.Picks.{off, passed}
use Rattle.dl_model.proofs.Outcomes.{outcomes_same, outcomes_plus, outcomes_sum, outcomes_below}

abbrev chosen : Bool → Fraction
chosen b = where_true b (whole 1)

pub points_to : (x t : ℕ) → where_true (nat_le t x) (whole 1) ≡ sum_to x (λ y. where_true (nat_eq t y) (whole 1))
points_to x t = elim (cases_lt x t) [
  | inl l ↦ ap chosen (lt-leb t x l) ∙ sym (sum_to_zero x _ (λ y b. off t y (whole 1) (omega arith)))
  | inr l ↦ ap chosen (le-leb t x l) ∙ sym (passed x t (λ y. whole 1) l)
]

pub cdf_points : (us : List Loss) (x N : ℕ) → partial_sums us (Cdf x) N ≡ sum_to x (λ y. partial_sums us (Point y) N)
cdf_points us x N = outcomes_same us _ _ N (λ ys. points_to x (sum ys)) ∙ outcomes_sum us x (λ y. score (Point y)) N

pub above_cdf : (x t : ℕ) → where_true (nat_lt x t) (whole 1) +ℚ where_true (nat_le t x) (whole 1) ≡ whole 1
above_cdf x t = elim (cases_lt x t) [
  | inl l ↦ rw (lt-ltb x t l, lt-leb t x l) (plus_zero _)
  | inr l ↦ rw (le-ltb x t l, le-leb t x l) (zero_plus _)
]

pub survival_rest : (us : List Loss) (x N : ℕ) → survival us x N +ℚ partial_sums us (Cdf x) N ≡ partial_sums us One N
survival_rest us x N = sym (outcomes_plus us _ _ N) ∙ outcomes_same us _ _ N (λ ys. above_cdf x (sum ys))

pub cdf_rest : (us : List Loss) (x N : ℕ) → partial_sums us (Cdf x) N +ℚ survival us x N ≡ partial_sums us One N
cdf_rest us x N = plus_comm _ _ ∙ survival_rest us x N

pub layer_tails : (L A t : ℕ) → whole (min (t - A) L) ≡ sum_below L (λ i. where_true (nat_lt (A + i) t) (whole 1))
unfolding sum_below
layer_tails zero A t = ap whole (omega arith)
layer_tails (suc L) A t = elim (cases_lt (A + L) t) [
  | inl l ↦
      let e : min (t - A) (suc L) ≡ min (t - A) L + 1 = omega arith in
      rw (e, whole_plus, layer_tails L A t, lt-ltb (A + L) t l) refl
  | inr l ↦
      let e : min (t - A) (suc L) ≡ min (t - A) L = omega arith in
      rw (e, layer_tails L A t, le-ltb (A + L) t l) (sym (plus_zero _))
]

pub layer_survivals : (us : List Loss) (L A N : ℕ)
    → partial_sums us (Layer (Some L) A) N ≡ sum_below L (λ i. survival us (A + i) N)
layer_survivals us L A N =
    outcomes_same us _ _ N (λ ys. layer_tails L A (sum ys)) ∙ outcomes_below us L (λ i. above (A + i)) N

pub mean_parts : (A t : ℕ) → whole (t - A) +ℚ whole (min (t - 0) A) ≡ whole t
mean_parts A t = sym (whole_plus _ _) ∙ ap whole (omega arith)

pub mean_split : (us : List Loss) (A N : ℕ)
    → partial_sums us (Layer None A) N +ℚ partial_sums us (Layer (Some A) 0) N ≡ partial_sums us Mean N
mean_split us A N = sym (outcomes_plus us _ _ N) ∙ outcomes_same us _ _ N (λ ys. mean_parts A (sum ys))
