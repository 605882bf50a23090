-- One more text.
use Rattle.dl_arguments.proofs.Common.{sym, ◌∙◌, subst, asks_of, ExplainsAsks}
use Rattle.dl_arguments.proofs.AskLists.{lent, lent_ask, lent_misfit}
use Rattle.dl_arguments.proofs.asks.read_asks.Goals as goal

pub returns-in-None-clause-fault : goal.returns-in-None-clause-fault
returns-in-None-clause-fault c =
    let none = lent_misfit c.args.rules c.args.texts.now c.loop-index.index c.loop-index.asks.items c.loop-index.invariant _
    c.loop-index-test.true (sym c.in_ok-asked.ensures ∙ c.in-None.is) in
    subst (ExplainsAsks (asks_of c.args.rules (lent c.args.texts.now))) (sym c.ask_fault.ensures) none

pub loop-index-preserved : goal.loop-index-preserved
loop-index-preserved c =
    rw c.in_ok-push-in-Some.ensures.items (lent_ask c.args.rules c.args.texts.now c.loop-index.index c.loop-index.asks.items
    c.loop-index.invariant _ c.in-Some.asked c.loop-index-test.true (sym c.in_ok-asked.ensures ∙ c.in-Some.is))
