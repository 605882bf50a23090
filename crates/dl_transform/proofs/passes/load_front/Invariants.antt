use Rattle.dl_transform.proofs.Common.{◌*◌, get_or, Same}
use Rattle.dl_transform.proofs.Steps.{IsChanged}
use Rattle.dl_transform.proofs.passes.load_front.Given as goal

abbrev pub invariant-loop-i : goal.invariant-loop-i
invariant-loop-i l =
    IsChanged (4 * l.p)
    (λ k t z. Same l.p z (get_or l.a k 0))
    l.fn.x l.x l.i
