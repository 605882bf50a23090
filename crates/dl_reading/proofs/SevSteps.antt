-- Each step of a severity that is not refused gives one.
use Rattle.dl_reading.proofs.Common.{ℕ, ◌≡◌, ◌∙◌, ◌<◌, ◌≤◌, ◌^◌, List, map, length, nat_lt, refl, sym, ap, subst, arith, inl, inr, All, length-map, whole, ◌over◌, Item, Sev, IsFineTo40Bits, weight_sum, weight_at, Pairs, pairs_of, conditioned, probability, HasDistribution, Weights, sum_of, IsWeighing, with_amounts, eq-zero-or-pos, items_of, with_amount, firsts, seconds, weighed-back, All-filter, weight_sum_pos, items_over, none_over, probability-conditioned, weight_over-le}
use Rattle.dl_plan.proofs.Means.{severity_total as total_pos}
use Rattle.dl_severity.proofs.Mapped.{weight_sum-items, probability-weighed, mapped_sum, mapped_means}
use Rattle.dl_reading.proofs.Shared.{over_common, weighing}
use Rattle.dl_reading.proofs.Tables.{gathered}

-- amounts with probabilities that are fine and sum to 1
pub sev_of : (ps : Pairs) → IsFineTo40Bits (seconds ps) → sum_of (seconds ps) ≡ whole 1 → (sev : Sev) × HasDistribution sev ps
sev_of ps fine one =
    let weights : Weights = over_common (seconds ps) in
    let is : IsWeighing (seconds ps) weights = weighing (seconds ps) fine one in
    let items : List Item = items_of (firsts ps) weights.weights in
    let lengths : length (firsts ps) ≡ length weights.weights =
    length-map ps (λ pair. pair.0) ∙ sym (sym (length-map weights.weights (λ v. v over weights.total))
    ∙ ap length is.shares ∙ length-map ps (λ pair. pair.1)) in
    let total : weight_sum items ≡ weights.total = weight_sum-items (firsts ps) weights.weights lengths ∙ is.sum in
    let made = gathered items (subst (λ n. 0 < n) (sym total) is.some)
    (subst (λ n. n ≤ 2 ^ 40) (sym total) is.within) in (
      made.0,
      λ x. made.1 x ∙ ap (λ n. weight_at items x over n) total ∙ sym (probability-weighed (firsts ps) weights x is.some)
          ∙ ap (λ qs. probability qs x) (weighed-back ps (firsts ps) weights refl is.shares),
    )

-- amounts mapped
pub mapped_sev : (f : ℕ → ℕ) (sev : Sev) → (made : Sev) × HasDistribution made (with_amounts f (pairs_of sev))
mapped_sev f sev =
    let items : List Item = map (with_amount f) sev.items in
    let total : weight_sum items ≡ sev.total = mapped_sum sev f items refl in
    let made = gathered items (subst (λ n. 0 < n) (sym total) (total_pos sev))
    (subst (λ n. n ≤ 2 ^ 40) (sym total) sev.weighted.within) in
    (made.0, λ x. made.1 x ∙ mapped_means sev f items x refl)

-- the part above an amount that one exceeds
pub exceeding_sev : (a : ℕ) (sev : Sev) → (All (λ (i : Item). i.amount ≤ a) sev.items → ⊥)
    → (made : Sev) × HasDistribution made (conditioned a (pairs_of sev))
exceeding_sev a sev reached =
    let items : List Item = items_over a sev.items in
    let some : 0 < length items = elim (eq-zero-or-pos (length items)) [
      | inl none ↦ absurd (reached (none_over a sev.items none))
      | inr pos ↦ pos
    ] in
    let pos : 0 < weight_sum items = weight_sum_pos items some
    (All-filter (λ (i : Item). nat_lt a i.amount) (λ (i : Item). 0 < i.weight) sev.items sev.weighted.positive) in
    let made = gathered items pos (omega (arith, weight_over-le a sev.items, sev.weighted.sum, sev.weighted.within)) in
    (made.0, λ x. made.1 x ∙ sym (probability-conditioned a sev.items sev.total x (total_pos sev) pos))
