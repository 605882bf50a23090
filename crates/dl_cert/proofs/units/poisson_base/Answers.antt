use Rattle.dl_cert.proofs.Common.{◌∙◌, ◌^◌, arith, ap, ap₂, Fraction, whole, ◌/ℚ◌, ◌over◌, over_self, halvings, given_part, amounts_positive, half_parts}
use Rattle.dl_cert.proofs.UnitBases.{poisson_is}
use Rattle.dl_cert.proofs.units.poisson_base.Goals as goal

pub invariant_of-result : goal.invariant_of-result
invariant_of-result c =
    let half = rw (← c.halved-part.ensures.value) at c.halvings.ensures.least.enough in
    record {
      positive = c.den.ensures.positive;
      within = omega (arith, c.num.ensures.part, c.den.ensures.part, half_parts c.halved-part.result half);
    }

pub invariant_of-result-2 : goal.invariant_of-result-2
invariant_of-result-2 c =
    let means = rw c.in-Some.is at c.in_ok-positive.ensures in
    let parts = (c.requires.valid.1.thinned (rw c.requires.count.1 tt)).0 in
    record {
      no_zero = amounts_positive c.in-Some.positive (means 0 ∙ (given_part c.args.unit.now.sev).no_zero);
      small = omega (
        arith,
        c.num.ensures.part,
        c.halved-part.ensures.num,
        ap (λ (x : Fraction). x.num) c.thinned-mean.ensures,
        parts.num,
      );
      first_small = c.exp_neg.ensures.small;
    }

pub returns : goal.returns
returns c =
    let means = rw c.in-Some.is at c.in_ok-positive.ensures in
    let halved = c.halved-part.ensures.value ∙ ap₂ (λ v h. v /ℚ whole (2 ^ h)) c.thinned-mean.ensures
    (c.halvings.ensures.value ∙ ap halvings c.thinned-mean.ensures) in
    let parts = ap₂ (λ n d. n over d) c.num.ensures.part c.den.ensures.part ∙ over_self c.halved-part.result in
    poisson_is c.requires.count.1 means parts halved c.exp_neg.ensures.low c.exp_neg.ensures.high
