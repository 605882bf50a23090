use Rattle.dl_claims.proofs.Common.{◌≡◌, take, weight_at}
use Rattle.dl_claims.proofs.shares.weight_of.Given as goal

abbrev pub invariant-loop-item : goal.invariant-loop-item
invariant-loop-item l = l.weight ≡ weight_at (take l.item-index l.items) l.x
