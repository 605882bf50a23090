-- A product that is refused has a large denominator.
use Rattle.dl_severity.proofs.Common.{◌∙◌, ◌++◌, ◌*◌, ◌<◌, ◌≤◌, arith, List, length, map, get_or, ap, sym, mul-le-mul, subst, take_all, get_or_default, ◌over◌, Item, mixed_probability, mul-pos, severity_total, IsTooFine}
use Rattle.dl_severity.proofs.Mixed.{coarse_product, product_is, shares-more}
use Rattle.dl_severity.proofs.atoms.push_probs.Goals as goal

pub returns-in_default : goal.returns-in_default
returns-in_default c =
    let none : Item = record { amount = 0; weight = 0 } in
    let atom = c.args.atom.now in
    let i = c.items.item-index in
    let here = get_or atom.items i none in
    let below = subst (λ (xs : List Item). i < length xs) c.as_slice-item-items.ensures c.items-test.true in
    let product = ap (λ (xs : List Item). (c.args.weight * (get_or xs i none).weight) over (c.args.total * atom.total))
    c.as_slice-item-items.ensures
    ∙ product_is c.args.weight here.weight c.args.total atom.total c.requires.some (severity_total atom) in (
      i,
      here,
      below,
      sym (get_or_default atom.items i none here below),
      coarse_product c.args.weight c.args.total atom i none below c.requires.some c.requires.part
          (subst IsTooFine product c.in_default.ensures),
    )

pub items-preserved : goal.items-preserved
items-preserved c =
    let d : Item = record { amount = 0; weight = 0 } in
    let below = subst (λ (xs : List Item). c.items.item-index < length xs) c.as_slice-item-items.ensures
    c.items-test.true in
    let value = c.in-Ok.ensures.0
    ∙ product_is c.args.weight (get_or c.as_slice-item-items.result.now c.items.item-index d).weight c.args.total
    c.args.atom.now.total c.requires.some (severity_total c.args.atom.now)
    ∙ ap (λ (xs : List Item). mixed_probability (c.args.weight over c.args.total) c.args.atom.now.total
    (get_or xs c.items.item-index d)) c.as_slice-item-items.ensures in
    shares-more (c.args.weight over c.args.total) c.args.atom.now.total c.items.item-index c.args.atom.now.items d
    c.args.probs.now.items c.items.probs.items _ c.in-Ok.prob below c.items.invariant
    c.in_ok-push_item.ensures value

pub make-requires : goal.make-requires
make-requires c = mul-pos c.requires.some (severity_total c.args.atom.now)

pub overflow_mul-den : goal.overflow_mul-den
overflow_mul-den c = omega (arith, mul-le-mul c.requires.within c.args.atom.now.weighted.within)

pub returns : goal.returns
returns c = c.items.invariant ∙ ap (λ (xs : List Item). c.args.probs.now.items ++ map
    (mixed_probability (c.args.weight over c.args.total) c.args.atom.now.total) xs)
    (take_all c.items.item-index c.args.atom.now.items
    (subst (λ (xs : List Item). length xs ≤ c.items.item-index) c.as_slice-item-items.ensures c.items-test.false))
