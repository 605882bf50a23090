use Rattle.dl_transform.proofs.Common.{◌+◌, ◌-◌, ◌*◌, Same}
use Rattle.dl_transform.proofs.Steps.{AreChanged}
use Rattle.dl_transform.proofs.passes.part_all.Given as goal

abbrev pub invariant-loop-i : goal.invariant-loop-i
invariant-loop-i l =
    AreChanged (4 * l.p) (λ u v t. Same l.p t (u + l.w * v))
    (λ u v t. Same l.p t (u + (l.p - l.w) * v)) l.fn.low l.fn.high l.low l.high l.i
