-- A price is the weighted sum of its tail means.
use Rattle.dl_model.proofs.Common.{◌≡◌, ℕ, sym, ap, subst, ◌∙◌, All, All-head, All-tail, List, [], ◌∷◌, fun_ext, Fraction, whole, ◌+ℚ◌, ◌*ℚ◌, ◌≤ℚ◌, sum_over, zero_times, zero_le, Series, AtMost, AtLeast, Loss, AreDeclarable, One, Tail, Price, PricedTerm, score, partial_sums}
use Rattle.dl_model.proofs.TotalLaws.{scaled_least, scaled_most, at_most_plus, at_least_plus, scaled_rises, outcomes_none, outcomes_plus, outcomes_times, outcomes_rise}
pub use Rattle.dl_model.proofs.TailEnds.{tail_start, tail_bracket}

-- ---- the price

price_more : (us : List Loss) (t : PricedTerm) (terms : List PricedTerm) (N : ℕ) → partial_sums us (Price (t ∷ terms)) N
    ≡ t.weight *ℚ partial_sums us (Tail t.p t.quantile) N +ℚ partial_sums us (Price terms) N
unfolding sum_over
price_more us t terms N = outcomes_plus us (λ ys. t.weight *ℚ score (Tail t.p t.quantile) ys) (score (Price terms)) N
    ∙ ap (λ s. s +ℚ partial_sums us (Price terms) N) (outcomes_times us t.weight (score (Tail t.p t.quantile)) N)

pub price_sums : (us : List Loss) (terms : List PricedTerm) (N : ℕ) → partial_sums us (Price terms) N
    ≡ sum_over terms (λ t. t.weight *ℚ partial_sums us (Tail t.p t.quantile) N)
unfolding sum_over
price_sums us [] N = outcomes_none us N
price_sums us (t ∷ terms) N = price_more us t terms N
    ∙ ap (λ s. t.weight *ℚ partial_sums us (Tail t.p t.quantile) N +ℚ s) (price_sums us terms N)

module _ (us : List Loss) (w : AreDeclarable us) where
  abbrev O : Series
  O = partial_sums us One

  abbrev T : PricedTerm → Series
  T t = partial_sums us (Tail t.p t.quantile)

  pub price_least : (terms : List PricedTerm) (l : PricedTerm → Fraction) → All (λ t. AtLeast (T t) O (l t)) terms
      → AtLeast (partial_sums us (Price terms)) O (sum_over terms (λ t. t.weight *ℚ l t))
  unfolding sum_over
  price_least [] l a = λ n u b. rw zero_times (zero_le u)
  price_least (t ∷ terms) l a = subst (λ Q. AtLeast Q O (t.weight *ℚ l t +ℚ sum_over terms (λ t. t.weight *ℚ l t)))
      (sym (fun_ext (price_more us t terms)))
      (at_least_plus _ _ O _ _ (scaled_rises t.weight (T t) (outcomes_rise us w _)) (outcomes_rise us w _)
      (scaled_least t.weight (T t) O (l t) (All-head (λ t. AtLeast (T t) O (l t)) t terms a))
      (price_least terms l (All-tail (λ t. AtLeast (T t) O (l t)) t terms a)))

  pub price_most : (terms : List PricedTerm) (h : PricedTerm → Fraction) → All (λ t. AtMost (T t) O (h t)) terms
      → AtMost (partial_sums us (Price terms)) O (sum_over terms (λ t. t.weight *ℚ h t))
  unfolding sum_over
  price_most [] h a = λ n u b. subst (λ t. t ≤ℚ whole 0 *ℚ u) (sym (outcomes_none us n)) (zero_le _)
  price_most (t ∷ terms) h a = subst (λ Q. AtMost Q O (t.weight *ℚ h t +ℚ sum_over terms (λ t. t.weight *ℚ h t)))
      (sym (fun_ext (price_more us t terms)))
      (at_most_plus _ _ O _ _ (scaled_most t.weight (T t) O (h t) (All-head (λ t. AtMost (T t) O (h t)) t terms a))
      (price_most terms h (All-tail (λ t. AtMost (T t) O (h t)) t terms a)))
