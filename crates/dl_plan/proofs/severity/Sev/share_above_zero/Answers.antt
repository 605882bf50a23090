-- The share of the weights of positive amounts.
use Rattle.dl_plan.proofs.Common.{◌∙◌, ap, arith, whole, ◌over◌, ◌-ℚ◌, weight_at}
use Rattle.dl_plan.proofs.Fits.{over_fits, given_ok, given_value}
use Rattle.dl_plan.proofs.Means.{total_pos, positive_share, weight_at-le}
use Rattle.dl_plan.proofs.severity.Sev.share_above_zero.Goals as goal

pub overflow_sub-above : goal.overflow_sub-above
overflow_sub-above c = grind (arith, weight_at-le)

pub make-requires : goal.make-requires
make-requires c = grind (arith, total_pos c.args.self.now.items c.args.self.now.total c.args.self.now.weighted)

pub unwrap-requires : goal.unwrap-requires
unwrap-requires c =
    grind (arith, total_pos c.args.self.now.items c.args.self.now.total c.args.self.now.weighted, given_ok, over_fits)

pub returns : goal.returns
returns c =
    let sev = c.args.self.now in
    given_value _ _ c.unwrap.result c.make.ensures c.unwrap.ensures
    ∙ positive_share c.weight_of_zero.result sev.total (total_pos sev.items sev.total sev.weighted)
    ∙ ap (λ n. whole 1 -ℚ n over sev.total) (c.weight_of_zero.ensures ∙ ap (λ xs. weight_at xs 0) c.as_slice.ensures)
