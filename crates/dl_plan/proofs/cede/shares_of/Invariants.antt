-- The shares of the layers read so far.
use Rattle.dl_plan.proofs.Common.{◌≡◌, take, layer_shares}
use Rattle.dl_plan.proofs.cede.shares_of.Given as goal

abbrev pub invariant-layers : goal.invariant-layers
invariant-layers l = l.shares.items ≡ layer_shares (take l.layer-index l.layers)
