-- The quotients by the bucket size and by the mean, times each other.
use Rattle.dl_rules.proofs.Common.{◌∙◌, sym, ap, ap₂, ◌*ℚ◌, ◌/ℚ◌, admitted}
use Rattle.dl_rules.proofs.Exposed.{quotients}
use Rattle.dl_rules.proofs.exposures.over_mean.Goals as goal

pub returns-in-Some : goal.returns-in-Some
returns-in-Some c = λ bounds weighed.
    let told = rw c.in-Some.is at weighed in
    c.times.ensures ∙ ap₂ admitted (sym told.0) (ap₂ (λ x y. x *ℚ y) c.of.ensures c.of-in-Some.ensures
    ∙ quotients c.args.amount c.args.bs c.args.share c.mean_in_layer-mean.result c.requires.unit.bucket.above
    c.mean_in_layer-mean.ensures.above
    ∙ ap (λ m. c.args.amount *ℚ c.args.share /ℚ (m *ℚ c.args.bs)) c.mean_in_layer-mean.ensures.mean)
