-- The amounts with the weights of the products are the mixture.
use Rattle.dl_plan.specs.Prelude.{common_denominator}
use Rattle.dl_severity.proofs.Common.{Sev, ◌∙◌, ◌≤◌, arith, ◌++◌, map, get_or, ap, subst, sym, ◌over◌, amounts_of, probability, mixture_of, mixed_probability, sum_of, RefusesProducts}
use Rattle.dl_severity.proofs.Mixed.{amounts-more, probs-more, weighed-back, as_many, coarse_mixture, mixture_whole, mixture_one, mixture-alone, alone_fine, means-alone, firsts, seconds}
use Rattle.dl_severity.proofs.atoms.mix.Goals as goal

pub atoms-preserved : goal.atoms-preserved
atoms-preserved c =
    let atom = c.index-atoms-at.result in
    let t = c.args.weights.now.total in
    record {
      amounts = amounts-more t c.args.atoms.now c.args.weights.now.weights c.atoms.at 0 atom c.atoms-test.true
          c.requires.lengths c.index-atoms-at.is c.atoms.amounts.items _ c.atoms.invariant.amounts
          (c.in_ok-push_amounts.ensures ∙ ap (λ xs. c.atoms.amounts.items ++ amounts_of xs) c.as_slice.ensures);
      probs = probs-more t c.args.atoms.now c.args.weights.now.weights c.atoms.at 0 atom c.atoms-test.true
          c.requires.lengths c.index-atoms-at.is c.atoms.probs.items _ c.atoms.invariant.probs
          (c.in_default.ensures ∙ ap (λ ws. c.atoms.probs.items ++ map
          (mixed_probability (get_or ws c.atoms.at 0 over t) atom.total) atom.items) c.as_slice-parts.ensures);
    }

pub returns-in-Err-clause-step : goal.returns-in-Err-clause-step
returns-in-Err-clause-step c =
    coarse_mixture c.args.most c.args.atoms.now c.args.weights.now c.atoms.at 0
    c.index-atoms-at.result c.in-Err.fault c.requires.most c.atoms-test.true c.requires.lengths c.index-atoms-at.is
    (subst (λ ws. RefusesProducts (get_or ws c.atoms.at 0 over c.args.weights.now.total) c.index-atoms-at.result
    c.in-Err.fault) c.as_slice-parts.ensures c.in-Err.ensures)

pub over_common-requires-clause-one : goal.over_common-requires-clause-one
over_common-requires-clause-one c =
    let t = c.args.weights.now.total in
    let all = mixture_whole t c.args.atoms.now c.args.weights.now.weights c.atoms.at c.atoms-test.false
    c.requires.lengths in
    ap sum_of (c.deref-2.ensures.value ∙ c.atoms.invariant.probs ∙ ap seconds all)
    ∙ mixture_one t c.args.atoms.now c.args.weights.now.weights c.requires.some c.requires.lengths c.requires.sum

pub returns-clause-step : goal.returns-clause-step
returns-clause-step c = λ x.
    let t = c.args.weights.now.total in
    let all = mixture_whole t c.args.atoms.now c.args.weights.now.weights c.atoms.at c.atoms-test.false
    c.requires.lengths in
    let amounts = c.deref-3.ensures.value ∙ c.atoms.invariant.amounts ∙ ap firsts all in
    let probs = c.in_ok-whole.ensures.shares ∙ c.deref-2.ensures.value ∙ c.atoms.invariant.probs ∙ ap seconds all in
    c.in_ok-merge.ensures x
    ∙ ap (λ ps. probability ps x) (weighed-back (mixture_of t c.args.atoms.now c.args.weights.now.weights)
    c.deref-3.result.now c.in_ok-whole.whole amounts probs)

pub returns-in_default-common_denominator_of-clause-step : goal.returns-in_default-common_denominator_of-clause-step
returns-in_default-common_denominator_of-clause-step c = λ fine.
    let all = mixture_whole c.args.weights.now.total c.args.atoms.now c.args.weights.now.weights c.atoms.at
    c.atoms-test.false c.requires.lengths in
    c.in_default-common_denominator_of.ensures
    (subst (λ xs. common_denominator xs ≤ c.args.most) (sym (c.deref.ensures.value ∙ c.atoms.invariant.probs ∙ ap seconds all)) fine)

pub returns-clause-fine : goal.returns-clause-fine
returns-clause-fine c =
    let all = mixture_whole c.args.weights.now.total c.args.atoms.now c.args.weights.now.weights c.atoms.at
    c.atoms-test.false c.requires.lengths in
    subst (λ xs. common_denominator xs ≤ c.args.most) (c.deref.ensures.value ∙ c.atoms.invariant.probs ∙ ap seconds all) c.in-Some.ensures.0

pub over_common-requires-clause-common : goal.over_common-requires-clause-common
over_common-requires-clause-common c =
    c.in-Some.ensures.1 ∙ ap common_denominator (c.deref.ensures.value ∙ sym c.deref-2.ensures.value)

pub merge-requires-clause-lengths : goal.merge-requires-clause-lengths
merge-requires-clause-lengths c =
    as_many _ c.deref-3.result.now c.in_ok-whole.whole (c.deref-3.ensures.value ∙ c.atoms.invariant.amounts)
    (c.in_ok-whole.ensures.shares ∙ c.deref-2.ensures.value ∙ c.atoms.invariant.probs)

pub returns-then-atoms-most-clause-step : goal.returns-then-atoms-most-clause-step
returns-then-atoms-most-clause-step c = λ x.
    let atom = c.index-atoms-0-then-atoms-most.result in
    means-alone c.in_ok-copied.field-0 atom _ x c.in_ok-copied.ensures.items c.in_ok-copied.ensures.total
    (mixture-alone c.args.weights.now.total c.args.atoms.now c.args.weights.now.weights atom c.if-atoms-eq1.true
    c.requires.lengths c.requires.sum c.requires.some c.index-atoms-0-then-atoms-most.is)

pub returns-then-atoms-most-clause-fine : goal.returns-then-atoms-most-clause-fine
returns-then-atoms-most-clause-fine c =
    let atom = c.index-atoms-0.result in
    let alone = mixture-alone c.args.weights.now.total c.args.atoms.now c.args.weights.now.weights atom
    c.if-atoms-eq1.true c.requires.lengths c.requires.sum c.requires.some c.index-atoms-0.is in
    subst (λ ps. common_denominator (seconds ps) ≤ c.args.most) (sym alone)
    (omega (arith, alone_fine atom, ap (λ (sev : Sev). sev.total) c.index-atoms-0.is, c.if-atoms-most.true))
