use Rattle.dl_shares.proofs.Common.{◌≡◌, ◌∙◌, ◌*◌, ◌/◌, ap, sym, subst, arith, div_ceil, Fraction, thinned_mean}
use Rattle.dl_shares.proofs.CommonJoint.{positive}
use Rattle.dl_shares.proofs.ClaimEnds.{claim_weight, scaled_fit, ends_apart, ends_hold, none_hold, none_down, none_up}
use Rattle.dl_shares.proofs.ClaimCounts.{counted}
use Rattle.dl_shares.proofs.claims.of_claims.Goals as goal

pub returns-then-num-eq0-clause-holds : goal.returns-then-num-eq0-clause-holds
returns-then-num-eq0-clause-holds g c Q R exact =
    none_hold g.row.B c.args.unit.now c.thinned-mean.result c.thinned-mean.ensures c.args.low c.args.high _ _ Q R exact
    c.requires.fits (sym c.num.ensures.part ∙ c.if-num-eq0.true) c.point.ensures.low c.point.ensures.high

pub nonzero_div-one : goal.nonzero_div-one
nonzero_div-one g c =
    let weight = claim_weight c.args.unit.now _ _ _ c.thinned-mean.ensures
    (λ e. c.if-num-eq0.false (c.num.ensures.part ∙ e)) c.share_above_zero.ensures c.numerator_over-positive.ensures in
    omega arith

pub div_ceil-requires : goal.div_ceil-requires
div_ceil-requires g c =
    let weight = claim_weight c.args.unit.now _ _ _ c.thinned-mean.ensures
    (λ e. c.if-num-eq0.false (c.num.ensures.part ∙ e)) c.share_above_zero.ensures c.numerator_over-positive.ensures in
    omega arith

pub scale-requires : goal.scale-requires
scale-requires g c =
    let weight = claim_weight c.args.unit.now _ _ _ c.thinned-mean.ensures
    (λ e. c.if-num-eq0.false (c.num.ensures.part ∙ e)) c.share_above_zero.ensures c.numerator_over-positive.ensures in
    let admitted = c.requires.claims.thinned in
    let num = admitted.num in
    let fits = scaled_fit c.args.high (positive c.args.unit.now) c.num-2.result c.den.result (omega arith) c.requires.fits
    (omega (arith, ap (λ (x : Fraction). x.num) c.thinned-mean.ensures)) c.den.ensures.positive in
    rw (c.div_ceil.ensures, weight.0) (omega arith, (c.den.ensures.positive, (fits.1.0, fits.1.1)))

pub returns-clause-holds : goal.returns-clause-holds
returns-clause-holds g c Q R exact =
    let weight = claim_weight c.args.unit.now _ _ _ c.thinned-mean.ensures
    (λ e. c.if-num-eq0.false (c.num.ensures.part ∙ e)) c.share_above_zero.ensures c.numerator_over-positive.ensures in
    ends_hold g.row.B c.args.unit.now c.thinned-mean.result c.thinned-mean.ensures c.args.low c.args.high
    c.scale.result.lo c.scale.result.hi Q R exact (λ e. c.if-num-eq0.false (c.num.ensures.part ∙ e)) (cc (weight.0))
    (cc (weight.0))

pub returns-clause-width : goal.returns-clause-width
returns-clause-width g c k near =
    let weight = claim_weight c.args.unit.now _ _ _ c.thinned-mean.ensures
    (λ e. c.if-num-eq0.false (c.num.ensures.part ∙ e)) c.share_above_zero.ensures c.numerator_over-positive.ensures in
    ends_apart g.row.B c.args.unit.now c.thinned-mean.result c.thinned-mean.ensures c.args.low c.args.high
    c.scale.result.lo c.scale.result.hi k (λ e. c.if-num-eq0.false (c.num.ensures.part ∙ e)) (cc (weight.0))
    (cc (weight.0)) near

pub returns-clause-low : goal.returns-clause-low
returns-clause-low g c =
    let weight = claim_weight c.args.unit.now _ _ _ c.thinned-mean.ensures
    (λ e. c.if-num-eq0.false (c.num.ensures.part ∙ e)) c.share_above_zero.ensures c.numerator_over-positive.ensures in
    let made : c.scale.result.lo ≡ c.args.low / positive c.args.unit.now * c.thinned-mean.result.num /
    c.thinned-mean.result.den = cc (weight.0) in
    subst (λ (h : Fraction). c.scale.result.lo ≡ c.args.low / positive c.args.unit.now * h.num / h.den)
    c.thinned-mean.ensures made

pub returns-clause-high : goal.returns-clause-high
returns-clause-high g c =
    let weight = claim_weight c.args.unit.now _ _ _ c.thinned-mean.ensures
    (λ e. c.if-num-eq0.false (c.num.ensures.part ∙ e)) c.share_above_zero.ensures c.numerator_over-positive.ensures in
    let made : c.scale.result.hi ≡ div_ceil (div_ceil c.args.high (positive c.args.unit.now) * c.thinned-mean.result.num)
    c.thinned-mean.result.den = cc (weight.0) in
    subst (λ (h : Fraction). c.scale.result.hi
    ≡ div_ceil (div_ceil c.args.high (positive c.args.unit.now) * h.num) h.den) c.thinned-mean.ensures made

pub returns-then-num-eq0-clause-low : goal.returns-then-num-eq0-clause-low
returns-then-num-eq0-clause-low g c =
    let h = thinned_mean c.args.unit.now in
    let none : h.num ≡ 0 = sym (ap (λ (x : Fraction). x.num) c.thinned-mean.ensures)
    ∙ (sym c.num.ensures.part ∙ c.if-num-eq0.true) in
    c.point.ensures.low ∙ none_down c.args.low (positive c.args.unit.now) h.num h.den none

pub returns-then-num-eq0-clause-high : goal.returns-then-num-eq0-clause-high
returns-then-num-eq0-clause-high g c =
    let h = thinned_mean c.args.unit.now in
    let none : h.num ≡ 0 = sym (ap (λ (x : Fraction). x.num) c.thinned-mean.ensures)
    ∙ (sym c.num.ensures.part ∙ c.if-num-eq0.true) in
    c.point.ensures.high ∙ none_up c.args.high (positive c.args.unit.now) h.num h.den none h.positive

pub thinned-mean-requires : goal.thinned-mean-requires
thinned-mean-requires g c = record {
  count = counted c.args.unit.now.freq c.requires.claims.count;
  expected = c.requires.claims.expected;
  admitted = c.requires.claims.thinned;
}
