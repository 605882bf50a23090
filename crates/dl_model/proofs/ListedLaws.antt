-- One unit without an aggregate clause, and what encloses its probability where its counts and amounts are listed.
use Rattle.dl_model.proofs.Common.{ℕ, ◌≡◌, ◌<◌, List, ap, ap₂, subst₂, fun_ext, ◌∙◌, [], ◌∷◌, Fraction, ◌+ℚ◌, ◌≤ℚ◌, sum_to, one_times, zero_times, zero_plus, Holds, power, cell, IsSeverity, Item, weight_sum, greatest, probability_at, equally_likely, One, Point, partial_sums, refl, loss, IsDeclarable, sym, listed_aggregate, amounts, le_refl_n}
use Rattle.dl_model.proofs.TotalLaws.{total_alone, total_alone_all, unit_loss, unit_plain, finite_holds, power_one, probability-past, probabilities_all}

pub listed_severity : (amounts : List Item) → 0 < weight_sum amounts
    → IsSeverity (probability_at amounts) (greatest amounts)
listed_severity amounts pos = record {
  add_up = probabilities_all amounts (greatest amounts) pos (le_refl_n _);
  past = λ j h. probability-past amounts j pos h;
}

pub listed_holds : (counts amounts : List Item) (x : ℕ) (l h : Fraction) → 0 < weight_sum counts
    → 0 < weight_sum amounts
    → l ≤ℚ cell (probability_at counts) (probability_at amounts) x (greatest counts)
    → cell (probability_at counts) (probability_at amounts) x (greatest counts) ≤ℚ h
    → Holds (partial_sums (loss (listed_aggregate counts amounts) ∷ []) (Point x))
    (partial_sums (loss (listed_aggregate counts amounts) ∷ []) One) l h
listed_holds counts amounts x l h p q low high =
    let u = listed_aggregate counts amounts in
    let is : IsDeclarable u = record { severity = listed_severity amounts q; clause = λ s. le_refl_n s } in
    let are = unit_loss u is in
    subst₂ (λ Q R. Holds Q R l h)
    (sym (fun_ext (λ N. total_alone (loss u) are x N ∙ unit_plain u is (λ s. refl) x N)))
    (sym (fun_ext (total_alone_all (loss u) are)))
    (finite_holds u.count u.severity (greatest counts) (probabilities_all counts (greatest counts) p (le_refl_n _))
    (λ n b. probability-past counts n p b) x l h low high)

pub one_claim : (f : ℕ → Fraction) (x : ℕ) → cell (probability_at (equally_likely (1 ∷ []))) f x
    (greatest (equally_likely (1 ∷ []))) ≡ f x
unfolding sum_to
one_claim f x =
    ap₂ (λ s t. s +ℚ t) (zero_times (power f 0 x)) (one_times (power f 1 x) ∙ ap (λ g. g x) (power_one f)) ∙ zero_plus _
