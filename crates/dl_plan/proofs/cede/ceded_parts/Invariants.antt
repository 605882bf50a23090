-- The parts are the sum over the layers read so far.
use Rattle.dl_plan.proofs.Common.{◌≡◌, ◌≤◌, ◌^◌, ◌*◌, take, layer_parts}
use Rattle.std.proofs.Common.{sum_by}
use Rattle.dl_plan.proofs.cede.ceded_parts.Given as goal

abbrev pub invariant-layers : goal.invariant-layers
invariant-layers l = record {
  so_far : l.parts ≡ sum_by (layer_parts l.fn.common l.fn.x) (take l.layer-index l.layers);
  small : l.parts ≤ l.layer-index * (l.fn.common * 2 ^ 40);
}
