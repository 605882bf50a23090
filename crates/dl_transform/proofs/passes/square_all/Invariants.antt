use Rattle.dl_transform.proofs.Common.{◌*◌, ◌^◌, Same}
use Rattle.dl_transform.proofs.Steps.{IsChanged}
use Rattle.dl_transform.proofs.passes.square_all.Given as goal

abbrev pub invariant-loop-i : goal.invariant-loop-i
invariant-loop-i l =
    IsChanged (2 * l.p)
    (λ k t z. Same l.p (z * 2 ^ 64) (t * t))
    l.fn.x l.x l.i
