use Rattle.dl_halves.proofs.Common.{◌≡◌, ◌+◌, get_or}
use Rattle.dl_halves.proofs.Written.{Changed}
use Rattle.dl_halves.proofs.short.add_from.Given as goal

abbrev pub invariant-loop-t : goal.invariant-loop-t
invariant-loop-t l = Changed (λ t y. y ≡ get_or l.initial.out (l.start + t) 0 + get_or l.more t 0) l.initial.out
    l.out l.start l.t
