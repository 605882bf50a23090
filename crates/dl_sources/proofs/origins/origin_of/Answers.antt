use Rattle.dl_sources.proofs.Common.{[], arith, subst, IsWholeClaimsGrid}
use Rattle.dl_sources.proofs.Found.{pushed_whole}
use Rattle.dl_sources.proofs.ReadAs.{read_as}
use Rattle.dl_sources.proofs.origins.origin_of.Goals as goal

pub returns-then-is_from_total-clause-origin : goal.returns-then-is_from_total-clause-origin
returns-then-is_from_total-clause-origin g c = record {
  there = c.requires.grids.some;
  whole = subst (IsWholeClaimsGrid c.args.of.now.plan.now c.args.i)
      (read_as 0 [] c.as_slice-all.ensures.value c.index-all-0.is c.requires.grids.some)
      (c.is_from_total.ensures c.if-is_from_total.true);
}

pub returns-clause-origin : goal.returns-clause-origin
returns-clause-origin g c =
    pushed_whole c.args.grids.now.items c.in-Some-2.extra (omega (arith, c.len-number.ensures, c.args.grids.now.ok)) c.in_ok-push.ensures.items
    (rw c.in-Some-2.is at c.in_ok-extra.ensures)
