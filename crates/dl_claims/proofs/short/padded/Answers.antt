use Rattle.dl_claims.proofs.Common.{arith, get_or, get_or-eq_default}
use Rattle.dl_claims.proofs.EndLists.{one_more_item, one_longer, every_item}
use Rattle.dl_claims.proofs.short.padded.Goals as goal

pub loop-x-preserved : goal.loop-x-preserved
loop-x-preserved c = record {
  many = one_longer c.loop-x.list.items _ _ c.in_ok-push.ensures.items c.loop-x.invariant.many;
  each = one_more_item c.loop-x.list.items _ _ c.loop-x.x (λ k. get_or c.args.ends.now k 0) c.in_ok-push.ensures.items
      c.loop-x.invariant.many c.loop-x.invariant.each c.end_at.ensures.end;
}

pub returns-clause-each : goal.returns-clause-each
returns-clause-each c =
    every_item c.loop-x.list.items c.loop-x.x (λ k. get_or c.args.ends.now k 0) c.loop-x.invariant.many
    c.loop-x.invariant.each (λ k past. get_or-eq_default c.args.ends.now 0 {n = k} (omega arith))
