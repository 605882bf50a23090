use Rattle.dl_transform.proofs.Common.{◌^◌, ◌*◌, ◌≤◌, arith}
use Rattle.dl_transform.proofs.Residues.{same_trans}
use Rattle.dl_transform.proofs.Steps.{one_more}
use Rattle.dl_transform.proofs.Wholes.{two_room}
use Rattle.dl_transform.proofs.combined.combine_all.Goals as goal

pub loop-s-preserved : goal.loop-s-preserved
loop-s-preserved c =
    let right = c.args.setup.now.right in
    let room : 2 ^ 123 ≤ c.args.setup.now.first.p * c.args.setup.now.second.p =
    two_room _ _ right.first.table.modulus.large right.second.table.modulus.large in
    let first = rw c.scale-w1.ensures.value at c.scaled-r1.ensures.same in
    let second = rw c.scale-w2.ensures.value at c.scaled-r2.ensures.same in
    one_more _ _ _ _ _ _ c.loop-s.invariant (omega arith) c.combined.ensures.small
    (λ n b h k. c.combined.ensures.is n (omega (arith, b, room)) (same_trans first h) (same_trans second k))

pub bounds-x-s : goal.bounds-x-s
bounds-x-s c = omega (arith, c.requires.in_first)

pub bounds-y-s : goal.bounds-y-s
bounds-y-s c = omega (arith, c.requires.in_second)
