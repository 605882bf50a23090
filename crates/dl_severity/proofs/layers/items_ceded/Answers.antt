-- One item more is mapped.
use Rattle.dl_severity.proofs.Common.{ℕ, ◌≡◌, ◌∙◌, ◌+◌, ◌<◌, List, length, get_or, ap, sym, subst, arith, inl, inr, get_or_default, cases_lt, Fraction, whole, Item, IsWhole, Clause, kept, whole_den, map, take_all, with_amount}
use Rattle.dl_severity.proofs.Mapped.{ceded_more}
use Rattle.dl_severity.proofs.layers.items_ceded.Goals as goal

whole_more : (clause : Clause) (items : List Item) (i amount : ℕ) (d : Item) → i < length items
    → ((k : ℕ) (e : Item) → k < i → IsWhole (kept clause (get_or items k e).amount))
    → kept clause (get_or items i d).amount ≡ whole amount
    → (k : ℕ) (e : Item) → k < i + 1 → IsWhole (kept clause (get_or items k e).amount)
whole_more clause items i amount d h so_far value k e below = elim (cases_lt k i) [
  | inl less ↦ so_far k e less
  | inr more ↦
      let same : k ≡ i = omega (arith, below, more) in
      subst (λ n. IsWhole (kept clause (get_or items n e).amount)) (sym same)
      (subst (λ (j : Item). IsWhole (kept clause j.amount)) (get_or_default items i d e h)
      (ap (λ (x : Fraction). x.den) value ∙ whole_den amount))
]

pub items-preserved : goal.items-preserved
items-preserved c = record {
  made = ceded_more c.args.cede.now c.args.items.now c.items.made.items _ c.items.item-index c.in-Some.amount _
      c.items-test.true c.items.invariant.made c.in_ok-push_item.ensures c.in-Some.ensures.value;
  whole = whole_more c.args.cede.now c.args.items.now c.items.item-index c.in-Some.amount _ c.items-test.true
      c.items.invariant.whole c.in-Some.ensures.value;
}

pub returns-in_default-clause-step : goal.returns-in_default-clause-step
returns-in_default-clause-step c =
    let none : Item = record { amount = 0; weight = 0 } in
    let items = c.args.items.now in
    let i = c.items.item-index in
    let here = get_or items i none in
    (i, here, c.items-test.true, sym (get_or_default items i none here c.items-test.true), c.in_default.ensures.value)

pub returns-clause-step : goal.returns-clause-step
returns-clause-step c =
    c.items.invariant.made ∙ ap (map (with_amount (λ x. (kept c.args.cede.now x).num)))
    (take_all c.items.item-index c.args.items.now c.items-test.false)
