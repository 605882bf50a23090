use Rattle.dl_budget.proofs.Common.{◌+◌, ◌*◌, ◌^◌, ◌≤◌, arith, ◌∙◌, ap, ap₂, subst, sym, div_ceil, Fraction, up, thinned_mean}
use Rattle.dl_budget.proofs.SharedUnits.{joint_fits, joint_small}
use Rattle.dl_budget.proofs.shared.shared_joint_budget.Goals as goal

pub returns-clause-value : goal.returns-clause-value
unfolding up
returns-clause-value c =
    ap (λ t. (c.args.cells * c.args.before + 2) * t + 2)
    (c.div_ceil-most.ensures ∙ ap₂ div_ceil c.num.ensures.part c.den.ensures.part
    ∙ ap (λ (x : Fraction). div_ceil x.num x.den) c.thinned-claims.ensures)

pub returns-clause-small : goal.returns-clause-small
returns-clause-small c narrow =
    let within = (c.requires.valid.1.thinned c.requires.unbounded).1 in
    subst (λ t. t ≤ 2 ^ 63) (sym (returns-clause-value c))
    (joint_small c.args.cells c.args.before (thinned_mean c.args.unit.now) c.requires.few narrow within)

pub overflow_mul-result-2 : goal.overflow_mul-result-2
overflow_mul-result-2 c =
    let fits = joint_fits c.args.cells c.args.before c.div_ceil-most.result c.requires.few c.requires.bounded (omega arith) in omega arith

pub overflow_add-result-2 : goal.overflow_add-result-2
overflow_add-result-2 c =
    let fits = joint_fits c.args.cells c.args.before c.div_ceil-most.result c.requires.few c.requires.bounded (omega arith) in omega arith
