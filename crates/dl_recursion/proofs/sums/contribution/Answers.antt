use Rattle.dl_recursion.proofs.Common.{◌-◌, ◌*◌, ◌^◌, ◌≤◌, arith, ap, mul-le-mul}
use Rattle.dl_recursion.proofs.Contributions.{factor_le}
use Rattle.dl_recursion.proofs.sums.contribution.Goals as goal

pub overflow_mul-result : goal.overflow_mul-result
overflow_mul-result c =
    let part = c.args.part in
    let factor : c.from.result ≤ 2 ^ 64 =
    omega (
      arith,
      c.from.ensures,
      ap (λ x. x * part.weight) c.amount_factor.ensures,
      factor_le c.args.before c.args.after c.args.s _ part.weight c.requires.within,
      c.requires.room.weights,
    ) in
    let end : c.from-2.result ≤ 2 ^ 62 = omega (arith, c.from-2.ensures, c.requires.small (c.args.s - part.amount)) in
    omega (arith, mul-le-mul factor end)
