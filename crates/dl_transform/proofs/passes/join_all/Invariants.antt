use Rattle.dl_transform.proofs.Common.{◌+◌, ◌*◌, Same}
use Rattle.dl_transform.proofs.Steps.{AreChanged}
use Rattle.dl_transform.proofs.passes.join_all.Given as goal

abbrev pub invariant-loop-i : goal.invariant-loop-i
invariant-loop-i l =
    AreChanged (2 * l.p) (λ u v t. Same l.p t (u + v))
    (λ u v t. Same l.p (t + l.w * v) (l.w * u)) l.fn.low l.fn.high l.low l.high l.i
