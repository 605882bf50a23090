-- The greatest edge of the layers read so far.
use Rattle.dl_plan.proofs.Common.{◌≡◌, ◌<◌, ◌≤◌, ◌^◌, take, last_edge}
use Rattle.dl_plan.proofs.cede.last_edge.Given as goal

abbrev pub invariant-layers : goal.invariant-layers
invariant-layers l = record {
  so_far : l.last ≡ last_edge (take l.layer-index l.layers);
  positive : 1 ≤ l.last;
  small : l.last < 2 ^ 33;
}
