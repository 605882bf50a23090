-- A product that is refused, or whose denominator passes 2^30 with those before, leaves none.
use Rattle.dl_rules.proofs.Common.{◌∙◌, ◌<◌, sym, ap, subst, arith, Fraction, Item, lcm_pos}
use Rattle.dl_rules.proofs.FactorShares.{product_is_share, amount_coarse, amount_refused, amount_next}
use Rattle.dl_rules.proofs.factor.with_amounts.Goals as goal

abbrev none : Item
none = record { amount = 0; weight = 0 }

pub returns-in_default : goal.returns-in_default
returns-in_default c =
    amount_refused c.args.share c.args.sev.now c.requires.within c.as_slice-item-items.result.now
    c.as_slice-item-items.ensures c.num.result c.den.result c.items.item-index c.num.ensures.part c.den.ensures.part
    c.items-test.true none c.args.common c.items.multiple c.requires.positive c.items.invariant.positive
    c.items.invariant.so_far c.args.most c.requires.most c.in_default.ensures

pub returns-in-None : goal.returns-in-None
returns-in-None c =
    let product = c.in-Ok.ensures.0 ∙ product_is_share c.args.share c.args.sev.now c.requires.within
    c.as_slice-item-items.result.now c.as_slice-item-items.ensures c.num.result c.den.result c.items.item-index
    c.num.ensures.part c.den.ensures.part c.items-test.true none c.args.common c.items.multiple c.requires.positive
    c.items.invariant.positive c.items.invariant.so_far in
    amount_coarse c.args.share c.args.sev.now c.requires.within c.as_slice-item-items.result.now
    c.as_slice-item-items.ensures c.num.result c.den.result c.items.item-index c.num.ensures.part c.den.ensures.part
    c.items-test.true none c.args.common c.items.multiple c.requires.positive c.items.invariant.positive
    c.items.invariant.so_far c.args.most c.den-in-items.result
    (c.den-in-items.ensures.part ∙ ap (λ (x : Fraction). x.den) product) c.in-None.ensures

pub items-preserved : goal.items-preserved
items-preserved c =
    let product = c.in-Ok.ensures.0 ∙ product_is_share c.args.share c.args.sev.now c.requires.within
    c.as_slice-item-items.result.now c.as_slice-item-items.ensures c.num.result c.den.result c.items.item-index
    c.num.ensures.part c.den.ensures.part c.items-test.true none c.args.common c.items.multiple c.requires.positive
    c.items.invariant.positive c.items.invariant.so_far in
    record {
      so_far = c.in-Some.ensures.1 ∙ amount_next c.args.share c.args.sev.now c.requires.within
          c.as_slice-item-items.result.now c.as_slice-item-items.ensures c.num.result c.den.result c.items.item-index
          c.num.ensures.part c.den.ensures.part c.items-test.true none c.args.common c.items.multiple
          c.requires.positive c.items.invariant.positive c.items.invariant.so_far c.den-in-items.result
          (c.den-in-items.ensures.part ∙ ap (λ (x : Fraction). x.den) product);
      positive = subst (λ n. 0 < n) (sym c.in-Some.ensures.1)
          (lcm_pos c.items.multiple c.den-in-items.result c.items.invariant.positive c.den-in-items.ensures.positive);
      within = omega (arith, c.in-Some.ensures.0, c.in-Some.ensures.1);
    }
