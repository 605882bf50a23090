use Rattle.dl_pool.proofs.Common.{◌∙◌, ◌≤◌, ap, subst, lent, common_denominator, sum_of, IsWeighing}
use Rattle.std.specs.Prelude.{IfOk, IfSome, IsSome}
use Rattle.dl_pool.proofs.Units.{shares_one}
use Rattle.dl_pool.proofs.pooling.unit_weights.Goals as goal

pub weights_of-requires : goal.weights_of-requires
weights_of-requires c =
    let parts = rw c.in-Some.is at c.in_ok-parts.ensures.value in record {
      most = c.requires.most;
      one = ap sum_of (c.deref.ensures.value ∙ parts)
          ∙ shares_one (lent c.args.units.now) c.args.all c.requires.all c.requires.some;
    }

pub returns-clause-value : goal.returns-clause-value
returns-clause-value c =
    let parts = rw c.in-Some.is at c.in_ok-parts.ensures.value in
    subst (λ t. IfOk c.weights_of.result (λ made. IfSome made (IsWeighing t))) (c.deref.ensures.value ∙ parts)
    c.weights_of.ensures.value

pub returns-clause-there : goal.returns-clause-there
returns-clause-there c =
    let parts = rw c.in-Some.is at c.in_ok-parts.ensures.value in
    subst (λ t. IfOk c.weights_of.result (λ made. common_denominator t ≤ c.args.most → IsSome made))
    (c.deref.ensures.value ∙ parts) c.weights_of.ensures.there
