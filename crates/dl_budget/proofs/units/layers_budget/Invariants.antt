use Rattle.dl_budget.proofs.Common.{◌≡◌, ◌*◌, ◌^◌, ◌≤◌, take, sum_by, part_width}
use Rattle.dl_budget.proofs.units.layers_budget.Given as goal

abbrev pub invariant-loop-layer : goal.invariant-loop-layer
invariant-loop-layer l = record {
  value : l.sum ≡ sum_by (λ layer. part_width l.before layer.limit layer.attach) (take l.layer-index l.layers);
  small : l.sum ≤ l.layer-index * 2 ^ 51;
}
