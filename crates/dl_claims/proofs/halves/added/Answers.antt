use Rattle.dl_claims.proofs.Common.{◌+◌, ◌∙◌, ap₂, arith, get_or, min, get_or-eq_default}
use Rattle.dl_claims.proofs.EndLists.{one_more_item, one_longer, every_item}
use Rattle.dl_claims.proofs.halves.added.Goals as goal

pub loop-x-preserved : goal.loop-x-preserved
loop-x-preserved c = record {
  many = one_longer c.loop-x.sums.items _ _ c.in_ok-push.ensures.items c.loop-x.invariant.many;
  each = one_more_item c.loop-x.sums.items _ _ c.loop-x.x
      (λ k. min c.args.one (get_or c.args.first.now k 0 + get_or c.args.second.now k 0)) c.in_ok-push.ensures.items
      c.loop-x.invariant.many c.loop-x.invariant.each
      (c.min.ensures ∙ ap₂ (λ a b. min c.args.one (a + b)) c.end_at.ensures.end c.end_at-in-loop-x.ensures.end);
}

pub returns-clause-each : goal.returns-clause-each
returns-clause-each c =
    every_item c.loop-x.sums.items c.loop-x.x
    (λ k. min c.args.one (get_or c.args.first.now k 0 + get_or c.args.second.now k 0)) c.loop-x.invariant.many
    c.loop-x.invariant.each (λ k past. omega (
      arith,
      get_or-eq_default c.args.first.now 0 {n = k} (omega arith),
      get_or-eq_default c.args.second.now 0 {n = k} (omega arith),
    ))
