-- A whole shape divides the mean by its denominator alone, so the rate stays small.
use Rattle.dl_cert.proofs.Common.{◌≡◌, ◌*◌, ◌<◌, ◌≤◌, ◌∙◌, arith, sym, ap, ap₂, mul-pos, Fraction, ◌over◌, ◌/ℚ◌, over_div, over_self, given_part, amounts_positive, mul-le-mul_left, num_pos, over_num_le, given_value}
use Rattle.dl_cert.proofs.UnitBases.{geometric_is, gamma_of_plan}
use Rattle.dl_cert.proofs.units.geometric_base.Goals as goal

small_beta : (v r : Fraction) → 0 < r.num → r.den ≤ 1 → (v /ℚ r).num ≤ v.num
small_beta v r some low =
    let parts : v /ℚ r ≡ (v.num * r.den) over (v.den * r.num) =
    ap₂ (λ x y. x /ℚ y) (sym (over_self v)) (sym (over_self r))
    ∙ over_div v.num v.den r.num r.den v.positive r.positive some in
    omega (
      arith,
      ap (λ (x : Fraction). x.num) parts,
      over_num_le (v.num * r.den) (v.den * r.num) (mul-pos v.positive some),
      mul-le-mul_left v.num low,
    )

pub invariant_of-result : goal.invariant_of-result
invariant_of-result c =
    let means = rw c.in-Some.is at c.in_ok-positive.ensures in
    let parts = (c.requires.valid.1.thinned (rw c.requires.count.1 tt)).0 in
    let count = gamma_of_plan c.requires.valid.0 c.args.unit.now c.args.shape c.requires.count.0 c.requires.valid.1
    c.requires.count.1 in
    let beta = given_value _ _ c.unwrap-beta.result c.div.ensures c.unwrap-beta.ensures in
    record {
      no_zero = amounts_positive c.in-Some.positive (means 0 ∙ (given_part c.args.unit.now.sev).no_zero);
      small = omega (
        arith,
        c.geometric_start.ensures.num,
        ap (λ (x : Fraction). x.num) beta,
        small_beta c.thinned.result c.args.shape (num_pos c.args.shape count.shape.above)
            (omega (arith, c.den.ensures.part)),
        ap (λ (x : Fraction). x.num) c.thinned.ensures,
        parts.num,
      );
      first_small = c.geometric_start.ensures.small;
    }

pub returns : goal.returns
returns c =
    let means = rw c.in-Some.is at c.in_ok-positive.ensures in
    let first = c.geometric_start.ensures in
    let beta = given_value _ _ c.unwrap-beta.result c.div.ensures c.unwrap-beta.ensures
    ∙ ap (λ v. v /ℚ c.args.shape) c.thinned.ensures in
    geometric_is c.requires.count.1 means (rw beta at first.rate) (rw beta at first.low) (rw beta at first.high)
