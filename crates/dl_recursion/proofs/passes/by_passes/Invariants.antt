use Rattle.dl_recursion.proofs.Common.{ℕ, ◌+◌, ◌*◌, ◌≤◌, Fraction, run_parts, FollowsInWhole, EncloseScaled}
use Rattle.dl_recursion.specs.Passes.{AreUpTo}
use Rattle.dl_recursion.proofs.passes.by_passes.Given as goal

abbrev pub invariant-shapes : goal.invariant-shapes
invariant-shapes l = record {
  cells : AreUpTo l.cells l.most l.x;
  shift : l.x.shift + 16 ≤ 4 + 16 * l.k;
  round : (r : ℕ → Fraction) → FollowsInWhole (run_parts l.run) 1 l.k l.q r
      → EncloseScaled r l.x.shift l.cells l.x.low.items l.x.high.items;
}
