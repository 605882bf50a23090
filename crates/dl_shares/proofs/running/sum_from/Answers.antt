use Rattle.dl_shares.proofs.Common.{◌≡◌, ◌∙◌, ◌-◌, arith, ap, low_at, sums_of}
use Rattle.dl_shares.proofs.ClaimSums.{one_less}
use Rattle.dl_shares.proofs.running.sum_from.Goals as goal

pub overflow_sub-lowered : goal.overflow_sub-lowered
overflow_sub-lowered g c =
    let less = one_less c.loop-step.step c.args.from (low_at c.args.total.now) (omega arith) in
    omega arith

pub loop-step-preserved : goal.loop-step-preserved
loop-step-preserved g c =
    let less = one_less c.loop-step.step c.args.from (low_at c.args.total.now) (omega arith) in
    omega arith

pub returns : goal.returns
returns g c =
    let there : c.args.from - c.loop-step.step ≡ c.args.to = omega arith in
    c.loop-step.invariant ∙ ap (sums_of (low_at c.args.total.now)) there
