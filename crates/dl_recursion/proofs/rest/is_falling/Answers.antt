use Rattle.dl_recursion.proofs.Common.{◌≤◌, ◌+◌, ◌*◌, arith, ap, max, mul-le-mul_right}
use Rattle.dl_recursion.proofs.Contributions.{falling_most}
use Rattle.dl_recursion.proofs.rest.is_falling.Goals as goal

pub overflow_add-result : goal.overflow_add-result
overflow_add-result c =
    let top = c.args.reach.amount in
    let more = ap (λ t. t * top) c.saturating_sub-more.ensures in
    record {
      fits = omega (arith, more, falling_most c.args.before c.args.after c.args.n top c.if-reach-n.false, c.requires.room.room.steps);
    }

pub overflow_mul-result-3 : goal.overflow_mul-result-3
overflow_mul-result-3 c =
    let top = c.args.reach.amount in
    let more = ap (λ t. t * top) c.saturating_sub-more.ensures in
    let most : c.args.before * c.args.n + c.saturating_sub-more.result * top ≤ max c.args.before c.args.after * c.args.n =
    omega (arith, more, falling_most c.args.before c.args.after c.args.n top c.if-reach-n.false) in
    record { fits = omega (arith, mul-le-mul_right c.args.reach.weight most, c.requires.room.room.weights) }
