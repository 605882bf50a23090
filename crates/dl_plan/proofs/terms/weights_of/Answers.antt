use Rattle.dl_plan.proofs.Common.{map, Term}
use Rattle.dl_exact.specs.Prelude.{Fraction}
use Rattle.dl_plan.proofs.Passed.{made_of_all, mapped_more}
use Rattle.dl_plan.proofs.terms.weights_of.Goals as goal

abbrev weight : Term → Fraction
weight term = term.weight

pub terms-preserved : goal.terms-preserved
terms-preserved c =
    mapped_more weight c.args.terms.now c.terms.weights.items _ c.terms.term-index c.term-item.result c.terms-test.true
    c.term-item.is c.terms.invariant c.in_ok-push.ensures.items

pub returns : goal.returns
returns c = made_of_all (map weight) c.args.terms.now _ c.terms.term-index c.terms-test.false c.terms.invariant
