use Rattle.dl_transform.proofs.Common.{◌+◌, ◌*◌, get_or, Same}
use Rattle.dl_transform.proofs.Steps.{IsChanged}
use Rattle.dl_transform.proofs.passes.add_ends.Given as goal

abbrev pub invariant-loop-i : goal.invariant-loop-i
invariant-loop-i l =
    IsChanged (4 * l.p) (λ k t z. Same l.p z (2 * get_or l.x k 0 + get_or l.u k 0)) l.fn.sums l.sums l.i
