-- A sort changes no sum.
use Rattle.dl_severity.proofs.Common.{ℕ, ◌≡◌, ◌∙◌, ◌==◌, ◌<◌, ◌≤◌, List, cond, ap, ap₂, sym, subst, ◌^◌, ◌over◌, Item, weight_sum, weight_at, IsPermutation, sum_by-IsPermutation}
use Rattle.dl_severity.proofs.Gathering.{some_items}
use Rattle.dl_severity.proofs.gather.gathered.Goals as goal

same_sum : (xs ys zs : List Item) → IsPermutation xs ys → weight_sum zs ≡ weight_sum ys → weight_sum zs ≡ weight_sum xs
same_sum xs ys zs moved e = e ∙ sum_by-IsPermutation (λ (i : Item). i.weight) xs ys moved

same_weights : (xs ys zs : List Item) → IsPermutation xs ys → ((x : ℕ) → weight_at zs x ≡ weight_at ys x) → (x : ℕ)
    → weight_at zs x ≡ weight_at xs x
same_weights xs ys zs moved e x = e x ∙ sum_by-IsPermutation (λ (i : Item). cond (i.amount == x) i.weight 0) xs ys moved

pub from_rising-requires-clause-some : goal.from_rising-requires-clause-some
from_rising-requires-clause-some c =
    let sum =
    same_sum c.args.items.items c.sorted-sorted.result.items c.in_ok-rising.rising.items c.sorted-sorted.ensures.same
    (c.in_ok-rising.ensures.sum ∙ ap weight_sum c.deref.ensures.value) in
    some_items c.in_ok-rising.rising.items (subst (λ n. 0 < n) (sym sum) c.requires.some)

pub from_rising-requires-clause-within : goal.from_rising-requires-clause-within
from_rising-requires-clause-within c =
    let sum =
    same_sum c.args.items.items c.sorted-sorted.result.items c.in_ok-rising.rising.items c.sorted-sorted.ensures.same
    (c.in_ok-rising.ensures.sum ∙ ap weight_sum c.deref.ensures.value) in
    subst (λ n. n ≤ 2 ^ 40) (sym sum) c.requires.within

pub returns : goal.returns
returns c = λ x.
    let sum =
    same_sum c.args.items.items c.sorted-sorted.result.items c.in_ok-rising.rising.items c.sorted-sorted.ensures.same
    (c.in_ok-rising.ensures.sum ∙ ap weight_sum c.deref.ensures.value) in
    let weight =
    same_weights c.args.items.items c.sorted-sorted.result.items c.in_ok-rising.rising.items
    c.sorted-sorted.ensures.same (λ y. c.in_ok-rising.ensures.weights y
    ∙ ap (λ xs. weight_at xs y) c.deref.ensures.value) x in
    c.from_rising.ensures x ∙ ap₂ (λ n d. n over d) weight sum
