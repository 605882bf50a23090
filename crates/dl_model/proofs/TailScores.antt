-- The tail score by the excess.
use Rattle.dl_model.proofs.Common.{◌≡◌, ℕ, sym, subst, ◌∙◌, List, None, Fraction, ◌+ℚ◌, ◌-ℚ◌, ◌*ℚ◌, ◌/ℚ◌, ◌<ℚ◌, whole, times_one, one_times, times_cancel, div_times, sub_plus, plus_cancel, plus_comm, lt_gap, le_of_lt, Loss, One, Layer, Tail, score, partial_sums, times_right_comm, ap₂, refl}
use Rattle.dl_model.proofs.Outcomes.{outcomes_same, outcomes_plus, outcomes_times}

pub rest_pos : (p q : Fraction) → p <ℚ q → whole 0 <ℚ q -ℚ p
rest_pos p q h =
    let g = lt_gap p q h in
    subst (λ t. whole 0 <ℚ t) (plus_cancel g.0 (q -ℚ p) p
    (plus_comm g.0 p ∙ g.2 ∙ sym (sub_plus q p (le_of_lt p q h)))) g.1

pub div_is_times : (x y : Fraction) → whole 0 <ℚ y → x /ℚ y ≡ whole 1 /ℚ y *ℚ x
div_is_times x y h = times_cancel _ _ y h
    (rw (div_times x y h, times_right_comm, div_times (whole 1) y h) (sym (one_times x)))

pub tail_excess : (us : List Loss) (p : Fraction) (q N : ℕ) → p <ℚ whole 1 → partial_sums us (Tail p q) N
    ≡ whole q *ℚ partial_sums us One N +ℚ whole 1 /ℚ (whole 1 -ℚ p) *ℚ partial_sums us (Layer None q) N
tail_excess us p q N h =
    let k = whole 1 /ℚ (whole 1 -ℚ p) in
    outcomes_same us _ (λ ys. whole q *ℚ score One ys +ℚ k *ℚ score (Layer None q) ys) N
    (λ ys. ap₂ (λ s t. s +ℚ t) (sym (times_one (whole q))) (div_is_times _ _ (rest_pos p (whole 1) h)))
    ∙ rw (
      outcomes_plus us (λ ys. whole q *ℚ score One ys) (λ ys. k *ℚ score (Layer None q) ys) N,
      outcomes_times us (whole q) (score One) N,
      outcomes_times us k (score (Layer None q)) N,
    ) refl
