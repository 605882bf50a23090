-- The weight of one count more.
use Rattle.dl_claims.proofs.Common.{◌+◌, ◌≤◌, arith, weight_at, weight_within, All-push, most_weights}
use Rattle.dl_claims.proofs.EndLists.{one_more_item, one_longer}
use Rattle.dl_claims.proofs.mixture.weights_from.Goals as goal

pub loop-i-preserved : goal.loop-i-preserved
loop-i-preserved c = record {
  many = one_longer c.loop-i.weights.items _ _ c.in_ok-push.ensures.items c.loop-i.invariant.many;
  each = one_more_item c.loop-i.weights.items _ _ c.loop-i.i (λ k. weight_at c.args.table.now (c.args.first + k))
      c.in_ok-push.ensures.items c.loop-i.invariant.many c.loop-i.invariant.each c.weight_of.ensures;
  fits = rw c.in_ok-push.ensures.items (All-push
      (λ weight. weight ≤ most_weights) c.loop-i.weights.items c.weight_of.result c.loop-i.invariant.fits (omega (
        arith,
        c.weight_of.ensures,
        weight_within c.args.table.now (c.args.first + c.loop-i.i),
        c.requires.fits,
      )));
}
