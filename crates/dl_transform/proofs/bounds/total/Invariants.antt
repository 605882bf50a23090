use Rattle.dl_transform.proofs.Common.{◌≡◌, ◌*◌, ◌^◌, ◌≤◌, take, sum_by}
use Rattle.dl_transform.proofs.bounds.total.Given as goal

abbrev pub invariant-loop-x : goal.invariant-loop-x
invariant-loop-x l = record {
  is : l.total ≡ sum_by (λ x. x) (take l.x-index l.xs);
  small : l.total ≤ l.x-index * 2
      ^ 64;
}
