use Rattle.dl_outcomes.proofs.Common.{sym, ◌∙◌}
use Rattle.dl_outcomes.proofs.MeanEnds.{ceded_holds, net_holds}
use Rattle.dl_outcomes.proofs.clause_mean.kept_mean.Goals as goal

pub returns-then-net-clause-holds : goal.returns-then-net-clause-holds
returns-then-net-clause-holds g c =
    net_holds c.args.grid.now c.args.cede.now c.args.claims c.ceded_mean-ceded.result c.ceded_mean-ceded.ensures.holds
    c.sub_floor0.result (sym c.net.ensures ∙ c.if-net.true) c.sub_floor0.ensures.low c.sub_floor0.ensures.high

pub returns-else-net-clause-holds : goal.returns-else-net-clause-holds
returns-else-net-clause-holds g c =
    ceded_holds c.args.grid.now c.args.cede.now c.args.claims c.ceded_mean-ceded.result c.ceded_mean-ceded.ensures.holds
    (sym c.net.ensures ∙ c.if-net.false)
