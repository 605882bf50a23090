-- The probability of no claim of a gamma count of any shape: 1 over the sum of its weights.
use Rattle.dl_model.proofs.Common.{◌≡◌, inl, inr, ℕ, zero, sym, subst, subst₂, Fraction, ◌*ℚ◌, ◌+ℚ◌, ◌≤ℚ◌, whole, sum_to, Series, AtMost, AtLeast, times, gamma, ring, times_one, one_times, le_refl, le_trans, le_of_eq, le_of_lt, lt_or_le, lt_not_le, times_le_both, sum_to_le}
use Rattle.dl_model.proofs.ValueLaws.{sum_rises_to}
use Rattle.dl_model.proofs.Declared.{at_least_times, at_most_times}
use Rattle.dl_model.proofs.Alike.{least_from, most_from}
use Rattle.dl_model.proofs.Gamma.{gamma_zero}
use Rattle.dl_model.proofs.AnyShape.{gamma_le, shapes_level}

-- ---- squares and 1

square_below : (a : Fraction) → a *ℚ a ≤ℚ whole 1 → a ≤ℚ whole 1
square_below a h = elim (lt_or_le (whole 1) a) [
  | inr l ↦ l
  | inl l ↦ absurd (lt_not_le (whole 1) a l (le_trans _ _ _ (subst (λ t. t ≤ℚ a *ℚ a) (times_one a)
      (times_le_both _ _ _ _ (le_refl a) (le_of_lt _ _ l))) h))
]

square_above : (a : Fraction) → whole 1 ≤ℚ a *ℚ a → whole 1 ≤ℚ a
square_above a h = elim (lt_or_le a (whole 1)) [
  | inr l ↦ l
  | inl l ↦ absurd (lt_not_le a (whole 1) l (le_trans _ _ _ h (subst (λ t. a *ℚ a ≤ℚ t) (times_one a)
      (times_le_both _ _ _ _ (le_refl a) (le_of_lt _ _ l)))))
]

squares : (a s : Fraction) → a *ℚ s *ℚ (a *ℚ s) ≡ a *ℚ a *ℚ (s *ℚ s)
squares a s = simp ring

-- ---- the probability of no claim

abbrev one : Series
one N = whole 1

one_rises : (N : ℕ) → whole 1 ≤ℚ whole 1
one_rises N = le_refl _

abbrev sums : Fraction → Fraction → Series
sums x r N = sum_to N (gamma r x)

pub none_least : (r t x l m : Fraction) → AtLeast one (sums x r) l → AtLeast one (sums x t) m
    → AtLeast one (sums x (r +ℚ t)) (l *ℚ m)
none_least r t x l m a b = least_from (times one one) (times (sums x r) (sums x t)) one (sums x (r +ℚ t)) (l *ℚ m)
    (λ N. (N, le_of_eq _ _ (one_times _))) (shapes_level r t x).0
    (at_least_times one (sums x r) one (sums x t) l m one_rises one_rises a b)

pub none_most : (r t x h k : Fraction) → AtMost one (sums x r) h → AtMost one (sums x t) k
    → AtMost one (sums x (r +ℚ t)) (h *ℚ k)
none_most r t x h k a b = most_from (times one one) (times (sums x r) (sums x t)) one (sums x (r +ℚ t)) (h *ℚ k)
    (λ N. (N, le_of_eq _ _ (sym (one_times _)))) (shapes_level r t x).1
    (at_most_times one (sums x r) one (sums x t) h k (sum_rises_to (gamma r x)) (sum_rises_to (gamma t x)) a b)

pub none_above : (r x l : Fraction) → r ≤ℚ whole 1 → AtLeast one (sums x (whole 1)) l → AtLeast one (sums x r) l
none_above r x l h a N u b = le_trans _ _ _
    (times_le_both _ _ _ _ (le_refl l) (sum_to_le N _ _ (λ n c. gamma_le r (whole 1) x h n))) (a N u b)

pub none_below : (r x : Fraction) → AtMost one (sums x r) (whole 1)
unfolding sum_to
none_below r x N u b = subst₂ (λ s t. s ≤ℚ t) (gamma_zero r x) (sym (one_times u)) (b zero)

-- ---- roots

pub root_least : (t x l a : Fraction) → AtLeast one (sums x (t +ℚ t)) l → a *ℚ a ≤ℚ l → AtLeast one (sums x t) a
root_least t x l a low p N u b =
    let s = sums x t N in
    let wide = (shapes_level t t x).1 N in
    le_trans _ _ _ (square_below (a *ℚ s) (subst (λ z. z ≤ℚ whole 1) (sym (squares a s))
    (le_trans _ _ _ (times_le_both _ _ _ _ p wide.1) (low wide.0 (whole 1) (λ n. le_refl _))))) (b zero)

pub root_most : (t x h b : Fraction) → AtMost one (sums x (t +ℚ t)) h → h ≤ℚ b *ℚ b → AtMost one (sums x t) b
root_most t x h b high p N u bound =
    let all : (M : ℕ) → sums x (t +ℚ t) M ≤ℚ u *ℚ u = λ M.
    let wide = (shapes_level t t x).0 M in
    le_trans _ _ _ wide.1 (times_le_both _ _ _ _ (bound wide.0) (bound wide.0)) in
    square_above (b *ℚ u) (subst (λ z. whole 1 ≤ℚ z) (sym (squares b u))
    (le_trans _ _ _ (high N (u *ℚ u) all) (times_le_both _ _ _ _ p (le_refl (u *ℚ u)))))
