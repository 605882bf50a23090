use Rattle.dl_claims.proofs.Common.{◌≡◌, take, greatest}
use Rattle.dl_claims.proofs.shares.greatest_of.Given as goal

abbrev pub invariant-loop-item : goal.invariant-loop-item
invariant-loop-item l = l.most ≡ greatest (take l.item-index l.items)
