-- The probabilities of a plan's items, and their mean.
use Rattle.dl_model.proofs.Common.{ℕ, ◌≡◌, ◌*◌, ◌<◌, ◌≤◌, List, sym, ap, subst, ◌∙◌, fun_ext, whole, ◌over◌, ◌*ℚ◌, sum_to, sum_to_same, Item, Sev, weight_at, weight_sum, greatest, probability_of, pairs_of, mean_amount, total_pos, IsSeverity, probability_at, weighted_sum, IsWeighted, over_times, mean-shares, total, sum_to_over}
use Rattle.dl_model.proofs.TotalLaws.{weights_times}
use Rattle.dl_model.proofs.ListedLaws.{listed_severity}

-- the model's probabilities are shares of the total
pub probability_is : (items : List Item) (total : ℕ) → weight_sum items ≡ total → (x : ℕ)
    → probability_at items x ≡ weight_at items x over total
probability_is items total e x = ap (λ t. weight_at items x over t) e

-- they add up to 1 up to the greatest number, and there is none above
pub shares_severity : (items : List Item) (total : ℕ) → IsWeighted items total
    → IsSeverity (λ x. weight_at items x over total) (greatest items)
shares_severity items total w = subst (λ f. IsSeverity f (greatest items)) (fun_ext (probability_is items total w.sum))
    (listed_severity items (subst (λ n. 0 < n) (sym w.sum) (total_pos items total w)))

-- ---- the mean

-- each number times its probability, summed
pub shares_mean : (items : List Item) (t far : ℕ) → 0 < t → greatest items ≤ far
    → sum_to far (λ n. whole n *ℚ weight_at items n over t) ≡ weighted_sum items over t
shares_mean items t far pos h = sum_to_same far _ _ (λ n b. over_times n (weight_at items n) t pos)
    ∙ sum_to_over far t (λ n. n * weight_at items n) pos ∙ ap (λ w. w over t) (weights_times (λ n. n) items far h)

-- up to any number from the greatest amount on
pub severity_mean : (sev : Sev) (far : ℕ) → greatest sev.items ≤ far
    → sum_to far (λ j. whole j *ℚ probability_of sev j) ≡ mean_amount (pairs_of sev)
severity_mean sev far near =
    let pos = total_pos sev.items sev.total sev.weighted in
    shares_mean sev.items sev.total far pos near ∙ sym (mean-shares sev.items sev.total pos)
