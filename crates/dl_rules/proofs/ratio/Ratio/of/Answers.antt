-- The parts cut across are in lowest terms.
use Rattle.dl_rules.proofs.Common.{◌∙◌, ap₂, mul-pos, ◌over◌, lowest_self, num_pos, over_fits, given_ok, given_value}
use Rattle.dl_rules.proofs.Ratios.{quotient_lowest, quotient_value}
use Rattle.dl_rules.proofs.ratio.Ratio.of.Goals as goal

pub unwrap-up-requires : goal.unwrap-up-requires
unwrap-up-requires c =
    given_ok _ (c.num.result over c.num-2.result) c.make.ensures
    (over_fits c.num.result c.num-2.result (rw c.num-2.ensures.part (num_pos c.args.y c.requires)) c.num.ensures.fits
    c.num-2.ensures.fits)

pub unwrap-down-requires : goal.unwrap-down-requires
unwrap-down-requires c =
    given_ok _ (c.den.result over c.den-2.result) c.make-2.ensures
    (over_fits c.den.result c.den-2.result c.den-2.ensures.positive c.den.ensures.fits c.den-2.ensures.fits)

pub invariant_of-result : goal.invariant_of-result
invariant_of-result c =
    let tops = given_value _ (c.num.result over c.num-2.result) c.unwrap-up.result c.make.ensures c.unwrap-up.ensures
    ∙ ap₂ (λ n d. n over d) c.num.ensures.part c.num-2.ensures.part in
    let bottoms = given_value _ (c.den.result over c.den-2.result) c.unwrap-down.result c.make-2.ensures
    c.unwrap-down.ensures ∙ ap₂ (λ n d. n over d) c.den.ensures.part c.den-2.ensures.part in (
      quotient_lowest c.args.x c.args.y c.unwrap-up.result c.unwrap-down.result _ _ _ _
          (num_pos c.args.y c.requires) tops bottoms
          c.num-3.ensures.part c.num-4.ensures.part c.den-3.ensures.part c.den-4.ensures.part,
      (mul-pos c.den-3.ensures.positive c.den-4.ensures.positive, tt),
    )

pub returns : goal.returns
returns c =
    let tops = given_value _ (c.num.result over c.num-2.result) c.unwrap-up.result c.make.ensures c.unwrap-up.ensures
    ∙ ap₂ (λ n d. n over d) c.num.ensures.part c.num-2.ensures.part in
    let bottoms = given_value _ (c.den.result over c.den-2.result) c.unwrap-down.result c.make-2.ensures
    c.unwrap-down.ensures ∙ ap₂ (λ n d. n over d) c.den.ensures.part c.den-2.ensures.part in
    lowest_self _ _ _ _ ∙ quotient_value c.args.x c.args.y c.unwrap-up.result c.unwrap-down.result _ _ _ _
    (num_pos c.args.y c.requires) tops bottoms
    c.num-3.ensures.part c.num-4.ensures.part c.den-3.ensures.part c.den-4.ensures.part
