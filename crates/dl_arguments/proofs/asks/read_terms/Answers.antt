-- One more term in front of the rest.
use Rattle.dl_arguments.proofs.Common.{arith, rules, IfOk-weaker}
use Rattle.dl_arguments.proofs.TermLists.{last_read, next_read, none_read, too_many}
use Rattle.dl_arguments.proofs.asks.read_terms.Goals as goal

pub returns-in_default : goal.returns-in_default
returns-in_default c =
    IfOk-weaker c.with_last.result _ _ (λ all is.
    last_read c.loop-index.index c.loop-index.rest.now c.args.text.now c.loop-index.terms.items
    c.loop-index.invariant.so_far (omega arith) c.in_default.ensures _ is) c.with_last.ensures

pub returns-in_default-read_term : goal.returns-in_default-read_term
returns-in_default-read_term c =
    none_read c.loop-index.index c.loop-index.rest.now c.args.text.now c.loop-index.terms.items
    c.loop-index.invariant.so_far (omega arith) _ c.in-Some.ensures c.in_default-read_term.ensures

pub loop-index-preserved : goal.loop-index-preserved
loop-index-preserved c = record {
  text = search rules;
  so_far = next_read c.loop-index.index c.loop-index.rest.now c.args.text.now c.loop-index.terms.items
      c.loop-index.invariant.so_far (omega arith) _ c.in-Some.ensures c.in-Some-read_term.term
      c.in-Some-read_term.ensures _ c.in_ok-push.ensures.items;
}

pub returns : goal.returns
returns c =
    too_many c.loop-index.index c.loop-index.rest.now c.args.text.now c.loop-index.terms.items
    c.loop-index.invariant.so_far (omega arith)
