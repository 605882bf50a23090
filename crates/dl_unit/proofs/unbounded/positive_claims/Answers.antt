use Rattle.dl_unit.proofs.Common.{sym, ◌∙◌, IfOk-weaker, claims_alone, no_amount_thinned}
use Rattle.dl_unit.proofs.Positive.{no_parts}
use Rattle.dl_unit.proofs.unbounded.positive_claims.Goals as goal

pub returns-then-num-eq0-clause-none : goal.returns-then-num-eq0-clause-none
returns-then-num-eq0-clause-none c e = sym c.thinned.ensures
    ∙ no_parts c.thinned.result (sym c.num.ensures.part ∙ c.if-num-eq0.true)

pub returns-clause-none : goal.returns-clause-none
returns-clause-none c =
    IfOk-weaker c.positive.result _ _ (λ made of_made e.
    no_amount_thinned (claims_alone c.args.freq.now c.args.sev.now)
    (rw e at of_made)) c.positive.ensures
