use Rattle.dl_recursion.proofs.Common.{◌<◌, ◌^◌, ◌*◌, ◌-◌, ℕ, arith, mul-le-mul}
use Rattle.dl_recursion.proofs.Contributions.{few_steps}
use Rattle.dl_recursion.proofs.direct.is_within_words.Goals as goal

words_fit : (x y : ℕ) → x < 2 ^ 64 → y < 2 ^ 64 → x * y < 2 ^ 128
words_fit x y p q =
    omega (arith, mul-le-mul {n₁ = x} {m₁ = y} {n₂ = 2 ^ 64 - 1} {m₂ = 2 ^ 64 - 1} (omega (arith, p)) (omega (arith, q)))

pub overflow_mul-factors : goal.overflow_mul-factors
overflow_mul-factors c =
    let few = few_steps c.max.result c.from.result (omega (arith, c.max.ensures, c.args.steps.before_small, c.args.steps.after_small))
    (omega (arith, c.from.ensures)) in
    record { fits = words_fit c.from-factors.result _ (omega (arith, c.from-factors.ensures, few)) (omega (arith, c.if-weights-limit.true)) }
