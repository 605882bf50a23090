use Rattle.dl_sources.proofs.Common.{IfOk-weaker}
use Rattle.dl_sources.proofs.Found.{reach_less}
use Rattle.dl_sources.proofs.drawn.drawn_for.Goals as goal

pub returns-in-Some-clause-reached : goal.returns-in-Some-clause-reached
returns-in-Some-clause-reached g c =
    IfOk-weaker c.factor_drawn.result _ _ (λ drawn reached. reached.each) c.factor_drawn.ensures.reached

pub returns-clause-drawn : goal.returns-clause-drawn
returns-clause-drawn g c =
    IfOk-weaker c.independent_drawn.result _ _ (λ drawn all. all.drawn) c.independent_drawn.ensures

pub returns-clause-reached : goal.returns-clause-reached
returns-clause-reached g c =
    IfOk-weaker c.independent_drawn.result _ _ (λ drawn all.
    let reached = reach_less c.args.reach c.requires.within all.reached in reached.each) c.independent_drawn.ensures
