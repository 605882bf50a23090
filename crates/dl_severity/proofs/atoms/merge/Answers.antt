-- The weights sum to the total.
use Rattle.dl_severity.proofs.Common.{ℕ, ◌≡◌, ◌∙◌, List, length, sum, ap, ap₂, sym, arith, ◌over◌, Item, Sev, weight_sum, weight_at, probability_of, items_of}
use Rattle.dl_severity.proofs.Mapped.{weight_sum-items, probability-weighed, if_ok}
use Rattle.dl_severity.proofs.atoms.merge.Goals as goal

items_sum : (items : List Item) (xs ws slice : List ℕ) (total : ℕ) → items ≡ items_of xs slice → slice ≡ ws
    → length xs ≡ length ws → sum ws ≡ total → weight_sum items ≡ total
items_sum items xs ws slice total made same lengths e = ap weight_sum (made ∙ ap (items_of xs) same)
    ∙ weight_sum-items xs ws lengths ∙ e

pub gathered-requires-clause-some : goal.gathered-requires-clause-some
gathered-requires-clause-some c =
    let total = items_sum _ c.args.amounts.now c.args.weights.now.weights _ c.args.weights.now.total
    c.in_ok-items_of.ensures c.as_slice.ensures c.requires.lengths c.requires.sum in
    omega (arith, total, c.requires.some)

pub gathered-requires-clause-within : goal.gathered-requires-clause-within
gathered-requires-clause-within c =
    let total = items_sum _ c.args.amounts.now c.args.weights.now.weights _ c.args.weights.now.total
    c.in_ok-items_of.ensures c.as_slice.ensures c.requires.lengths c.requires.sum in
    omega (arith, total, c.requires.within)

pub returns : goal.returns
returns c =
    let total = items_sum _ c.args.amounts.now c.args.weights.now.weights _ c.args.weights.now.total
    c.in_ok-items_of.ensures c.as_slice.ensures c.requires.lengths c.requires.sum in
    if_ok c.gathered.result (λ (sev : Sev). (x : ℕ) → probability_of sev x
    ≡ weight_at c.in_ok-items_of.field-0.items x over weight_sum c.in_ok-items_of.field-0.items) _
    (λ sev means y. means y
    ∙ ap₂ (λ n d. n over d) (ap (λ xs. weight_at xs y)
    (c.in_ok-items_of.ensures ∙ ap (items_of c.args.amounts.now) c.as_slice.ensures)) total
    ∙ sym (probability-weighed c.args.amounts.now c.args.weights.now y c.requires.some))
    c.gathered.ensures
