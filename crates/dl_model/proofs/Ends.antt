-- Sums of values over one series, the distribution and what is above it, and the layer without a limit.
use Rattle.dl_model.proofs.Common.{◌≡◌, ℕ, suc, zero, ◌<◌, ◌≤◌, arith, sym, subst, List, Some, None, fun_ext, Fraction, whole, ◌+ℚ◌, ◌≤ℚ◌, sum_to, sum_below, le_refl, le_trans, zero_le, zero_times, one_times, plus_le_both, le_plus, Series, IsBound, Rises, AtMost, AtLeast, Holds, plus, Loss, AreDeclarable, One, Cdf, Layer, Mean, score, partial_sums, above, survival, zero_plus, subst₂, ap, ◌∙◌, plus_assoc, plus_comm}
use Rattle.dl_model.proofs.ValueLaws.{at_most_plus, at_least_plus, holds_wider, at_least_rest, at_most_rest, at_least_minus, at_most_minus}
use Rattle.dl_model.proofs.Outcomes.{outcomes_rise}
use Rattle.dl_model.proofs.Scores.{cdf_rest, mean_split}

-- ---- sums over one R

pub below_rises : (n : ℕ) (P : ℕ → Series) → ((i : ℕ) → Rises (P i)) → Rises (λ N. sum_below n (λ i. P i N))
unfolding sum_below
below_rises zero P r N = le_refl _
below_rises (suc n) P r N = plus_le_both _ _ _ _ (below_rises n P r N) (r n N)

pub below_least : (n : ℕ) (P : ℕ → Series) (R : Series) (l : ℕ → Fraction) → ((i : ℕ) → Rises (P i))
    → ((i : ℕ) → i < n → AtLeast (P i) R (l i)) → AtLeast (λ N. sum_below n (λ i. P i N)) R (sum_below n l)
unfolding sum_below
below_least zero P R l r a = λ n u b. subst (λ t. t ≤ℚ u) (sym (zero_times (R n))) (zero_le u)
below_least (suc n) P R l r a =
    at_least_plus _ _ R _ _ (below_rises n P r) (r n) (below_least n P R l r (λ i c. a i (omega arith))) (a n (omega arith))

pub below_most : (n : ℕ) (P : ℕ → Series) (R : Series) (h : ℕ → Fraction) → ((i : ℕ) → i < n → AtMost (P i) R (h i))
    → AtMost (λ N. sum_below n (λ i. P i N)) R (sum_below n h)
unfolding sum_below
below_most zero P R h a = λ n u b. zero_le _
below_most (suc n) P R h a = at_most_plus _ _ R _ _ (below_most n P R h (λ i c. a i (omega arith))) (a n (omega arith))

pub below_holds : (n : ℕ) (P : ℕ → Series) (R : Series) (l h : ℕ → Fraction) → ((i : ℕ) → Rises (P i))
    → ((i : ℕ) → i < n → Holds (P i) R (l i) (h i))
    → Holds (λ N. sum_below n (λ i. P i N)) R (sum_below n l) (sum_below n h)
below_holds n P R l h r a = (below_least n P R l r (λ i c. (a i c).0), below_most n P R h (λ i c. (a i c).1))

-- the first item apart
pub below_first : (n : ℕ) (f : ℕ → Fraction) → sum_below (suc n) f ≡ f zero +ℚ sum_below n (λ i. f (suc i))
unfolding sum_below
below_first zero f = plus_comm _ _
below_first (suc n) f = ap (λ t. t +ℚ f (suc n)) (below_first n f) ∙ plus_assoc _ _ _

-- the sums from 0 to n
pub to_below : (n : ℕ) (f : ℕ → Fraction) → sum_below (suc n) f ≡ sum_to n f
unfolding sum_to sum_below
to_below zero f = zero_plus _
to_below (suc n) f = ap (λ t. t +ℚ f (suc n)) (to_below n f)

pub to_rises : (n : ℕ) (P : ℕ → Series) → ((i : ℕ) → Rises (P i)) → Rises (λ N. sum_to n (λ i. P i N))
to_rises n P r = subst Rises (fun_ext (λ N. to_below n (λ i. P i N))) (below_rises (suc n) P r)

pub to_holds : (n : ℕ) (P : ℕ → Series) (R : Series) (l h : ℕ → Fraction) → ((i : ℕ) → Rises (P i))
    → ((i : ℕ) → i ≤ n → Holds (P i) R (l i) (h i)) → Holds (λ N. sum_to n (λ i. P i N)) R (sum_to n l) (sum_to n h)
to_holds n P R l h r a = subst (λ Q. Holds Q R (sum_to n l) (sum_to n h)) (fun_ext (λ N. to_below n (λ i. P i N)))
    (subst₂ (Holds (λ N. sum_below (suc n) (λ i. P i N)) R) (to_below n l) (to_below n h)
    (below_holds (suc n) P R l h r (λ i b. a i (omega arith))))

-- ---- the cdf

-- what a series is part of is at least it
pub part_most_one : (Q Q' R : Series) → ((n : ℕ) → Q n +ℚ Q' n ≡ R n) → AtMost Q R (whole 1)
part_most_one Q Q' R e n u b = rw one_times (le_trans _ _ _ (subst (λ t. Q n ≤ℚ t) (e n) (le_plus _ _)) (b n))

pub cdf_most_one : (us : List Loss) (x : ℕ) → AtMost (partial_sums us (Cdf x)) (partial_sums us One) (whole 1)
cdf_most_one us x = part_most_one _ _ _ (cdf_rest us x)

-- ---- complements

pub above_ends : (us : List Loss) (x : ℕ) (l h l' h' v : Fraction) → AreDeclarable us → IsBound (partial_sums us One) v
    → l +ℚ h' ≡ whole 1 → h +ℚ l' ≡ whole 1
    → Holds (partial_sums us (Cdf x)) (partial_sums us One) l h → Holds (survival us x) (partial_sums us One) l' h'
above_ends us x l h l' h' v w b e f a =
    let F = partial_sums us (Cdf x) in
    let R = partial_sums us One in (
      at_least_rest F (survival us x) R h l' v (cdf_rest us x) b f a.1,
      at_most_rest F (survival us x) R l h' (outcomes_rise us w (score (Cdf x))) (outcomes_rise us w (above x))
          (cdf_rest us x) e a.0,
    )

-- ---- the layer without a limit, from the mean

pub excess_ends : (us : List Loss) (A : ℕ) (l h m n l' h' v : Fraction)
    → AreDeclarable us → IsBound (partial_sums us One) v → Holds (partial_sums us Mean) (partial_sums us One) m n
    → Holds (partial_sums us (Layer (Some A) 0)) (partial_sums us One) l h
    → l' +ℚ h ≤ℚ m → n ≤ℚ h' +ℚ l → Holds (partial_sums us (Layer None A)) (partial_sums us One) l' h'
excess_ends us A l h m n l' h' v w b a c e f =
    let L = partial_sums us (Layer None A) in
    let B = partial_sums us (Layer (Some A) 0) in
    let R = partial_sums us One in
    let both : Holds (plus L B) R (l' +ℚ h) (h' +ℚ l) =
    holds_wider (plus L B) R m (l' +ℚ h) n (h' +ℚ l) e f
    (subst (λ Q. Holds Q R m n) (sym (fun_ext (mean_split us A))) a) in (
      at_least_minus L B R l' h v (outcomes_rise us w (score One)) b both.0 c.1,
      at_most_minus L B R h' l (outcomes_rise us w (score (Layer None A)))
          (outcomes_rise us w (score (Layer (Some A) 0))) both.1 c.0,
    )
