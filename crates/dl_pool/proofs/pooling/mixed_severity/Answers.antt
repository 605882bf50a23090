-- The weights are those of the units' parts of all claims, and the mixture by them is fine where theirs is.
use Rattle.dl_pool.proofs.Common.{◌∙◌, ◌≤◌, map, ap, sym, subst, lent, common_denominator, pairs_of}
use Rattle.dl_pool.proofs.Mixtures.{as_many, mixture_products, mixture_pooled}
use Rattle.dl_pool.proofs.pooling.mixed_severity.Goals as goal

pub mix-requires-clause-lengths : goal.mix-requires-clause-lengths
mix-requires-clause-lengths c =
    let weighing = rw c.in-Some.is at c.in_ok-weights.ensures.value in
    as_many c.args.all (lent c.args.units.now) c.in-Some.weights.total c.deref.result.now c.in-Some.weights.weights
    (ap (λ xs. map pairs_of xs) c.deref.ensures.value ∙ c.in_ok-sevs.ensures)
    weighing.shares

pub returns-in-Ok-clause-value : goal.returns-in-Ok-clause-value
returns-in-Ok-clause-value c x =
    let weighing = rw c.in-Some.is at c.in_ok-weights.ensures.value in
    c.in-Ok.ensures.step x
    ∙ mixture_pooled c.args.all (lent c.args.units.now) c.in-Some.weights.total c.deref.result.now
    c.in-Some.weights.weights (ap (λ xs. map pairs_of xs) c.deref.ensures.value ∙ c.in_ok-sevs.ensures)
    weighing.shares c.requires.all x

pub returns-clause-there : goal.returns-clause-there
returns-clause-there c fine products =
    let weighing = rw c.in-Some.is at c.in_ok-weights.ensures.value in
    let refused = rw c.in-Err-TooFine.field-0-is at c.in-Err-TooFine.ensures.step in
    absurd (refused (subst (λ xs. common_denominator xs ≤ c.args.most)
    (sym (mixture_products c.args.all (lent c.args.units.now) c.in-Some.weights.total c.deref.result.now
    c.in-Some.weights.weights (ap (λ xs. map pairs_of xs) c.deref.ensures.value ∙ c.in_ok-sevs.ensures)
    weighing.shares)) products))
