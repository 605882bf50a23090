-- One amount has all of the weight.
use Rattle.dl_plan.proofs.Weights.{one_weighted}
use Rattle.dl_plan.proofs.severity.Sev.alone.Goals as goal

pub invariant_of-result : goal.invariant_of-result
invariant_of-result c =
    rw (c.from_vec.ensures, c.in_ok-push.ensures.items, c.new-items.ensures.items)
    (record { weighted = one_weighted c.args.amount })
