-- A share that is refused, or whose denominator passes 2^30 with those before, is not fine.
use Rattle.dl_rules.proofs.Common.{◌≡◌, ◌∙◌, ◌<◌, refl, sym, ap, ap₂, subst, arith, Fraction, whole, ◌/ℚ◌, ◌≤ℚ◌, IsTooFine, most_weights, lcm, UnitOfPlan, unit_share, expected_count, lcm_pos, common_from_pos, common_multiple, times_amounts}
use Rattle.dl_rules.proofs.FactorShares.{share_within, coarse_part, lcm_reaches, numbers_more, claims_coarse, amounts_more, amounts_coarse}
use Rattle.dl_rules.proofs.factor.are_shares_fine.Goals as goal

pub units-init : goal.units-init
units-init c = record {
  claims = refl;
  some = omega arith;
  few = omega (arith, c.requires.bounds.equal);
  amounts = refl;
  some_amounts = omega arith;
  few_amounts = omega (arith, c.requires.bounds.equal);
}

pub returns-in_default : goal.returns-in_default
returns-in_default c =
    let u = c.unit-item.result in
    let v = c.args.expected in
    let share = unit_share v u in
    let within : share ≤ℚ whole 1 = share_within v (expected_count u.freq) c.requires.above
    (subst (λ (w : UnitOfPlan). expected_count w.freq ≤ℚ v) (sym c.unit-item.is)
    (c.requires.each c.units.unit-index u c.units-test.true)) in
    let far : most_weights < share.den =
    coarse_part share (subst (λ n. IsTooFine (n /ℚ v)) c.expected.ensures c.in_default.ensures) within in
    claims_coarse v c.args.units.now c.units.unit-index u c.units-test.true c.unit-item.is c.args.bounds.parts
    (subst (λ n. c.args.bounds.parts < lcm n share.den) c.units.invariant.claims
    (omega (arith, far, c.requires.bounds.parts, lcm_reaches c.units.claims share.den c.units.invariant.some share.positive)))

pub returns-in-None : goal.returns-in-None
returns-in-None c =
    let u = c.unit-item.result in
    let v = c.args.expected in
    let den : c.den.result ≡ (unit_share v u).den = c.den.ensures.part
    ∙ ap (λ (x : Fraction). x.den) (c.in-Ok.ensures.0 ∙ ap (λ n. n /ℚ v) c.expected.ensures) in
    claims_coarse v c.args.units.now c.units.unit-index u c.units-test.true c.unit-item.is c.args.bounds.parts
    (subst (λ n. c.args.bounds.parts < n) (ap₂ lcm c.units.invariant.claims den) (omega (arith, c.in-None.ensures)))

pub with_amounts-requires-clause-within : goal.with_amounts-requires-clause-within
with_amounts-requires-clause-within c =
    let u = c.unit-item.result in
    let v = c.args.expected in
    subst (λ x. x ≤ℚ whole 1) (sym (c.in-Ok.ensures.0 ∙ ap (λ n. n /ℚ v) c.expected.ensures))
    (share_within v (expected_count u.freq) c.requires.above
    (subst (λ (w : UnitOfPlan). expected_count w.freq ≤ℚ v) (sym c.unit-item.is)
    (c.requires.each c.units.unit-index u c.units-test.true)))

pub returns-in-None-with_amounts : goal.returns-in-None-with_amounts
returns-in-None-with_amounts c =
    let u = c.unit-item.result in
    let v = c.args.expected in
    let share = c.in-Ok.ensures.0 ∙ ap (λ n. n /ℚ v) c.expected.ensures in
    amounts_coarse v c.args.units.now c.units.unit-index u c.units-test.true c.unit-item.is c.args.bounds.parts
    (subst (λ n. c.args.bounds.parts < n) (ap₂ (λ m x. common_multiple m (times_amounts x u.sev)) c.units.invariant.amounts share)
    (omega (arith, c.in-None-with_amounts.ensures)))

pub units-preserved : goal.units-preserved
units-preserved c =
    let u = c.unit-item.result in
    let v = c.args.expected in
    let share = c.in-Ok.ensures.0 ∙ ap (λ n. n /ℚ v) c.expected.ensures in
    let den : c.den.result ≡ (unit_share v u).den = c.den.ensures.part ∙ ap (λ (x : Fraction). x.den) share in
    let next = c.in-Some.ensures in
    let last = c.in-Some-with_amounts.ensures in
    record {
      claims = next.1 ∙ ap₂ lcm c.units.invariant.claims den
          ∙ sym (numbers_more (unit_share v) 1 c.args.units.now c.units.unit-index u c.units-test.true c.unit-item.is);
      some = subst (λ n. 0 < n) (sym next.1)
          (lcm_pos c.units.claims c.den.result c.units.invariant.some c.den.ensures.positive);
      few = omega (arith, next.0, next.1);
      amounts = last.1 ∙ ap₂ (λ m x. common_multiple m (times_amounts x u.sev)) c.units.invariant.amounts share
          ∙ sym (amounts_more v c.args.units.now c.units.unit-index u c.units-test.true c.unit-item.is);
      some_amounts = subst (λ n. 0 < n) (sym last.1)
          (common_from_pos c.units.amounts (times_amounts c.in-Ok.share u.sev) c.units.invariant.some_amounts);
      few_amounts = omega (arith, last.0, last.1);
    }
