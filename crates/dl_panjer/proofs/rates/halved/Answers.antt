use Rattle.dl_panjer.proofs.Common.{ℕ, ◌*◌, ◌^◌, ◌<◌, ◌≤◌, ◌%◌, ◌∙◌, arith, ap₂, mul-le-mul, zero-lt-suc, pow_pos, pow-le-pow_right, ◌over◌, one_shl}
use Rattle.dl_panjer.proofs.Recursions.{divided}
use Rattle.dl_panjer.proofs.rates.halved.Goals as goal

small_den : (den h : ℕ) → h ≤ 13 → den < 2 ^ 48 → den * (1 * 2 ^ h % 2 ^ 64) < 2 ^ 62
small_den den h few small =
    let least : den ≤ 2 ^ 48 = omega (arith, small) in
    let product : den * 2 ^ h ≤ 2 ^ 48 * 2 ^ 13 = mul-le-mul least (pow-le-pow_right (zero-lt-suc 1) few) in
    rw (one_shl h 64 (omega (arith, few))) (omega (arith, product))

pub fraction-requires-clause-small_den : goal.fraction-requires-clause-small_den
fraction-requires-clause-small_den c =
    small_den c.den.result c.args.halvings c.requires.halvings (omega (arith, c.den.ensures.part, c.requires.admitted.den))

pub returns-clause-value : goal.returns-clause-value
returns-clause-value c =
    c.fraction.ensures.value ∙ ap₂ (λ s t. s over t) c.num.ensures.part
    (ap₂ (λ s t. s * t) c.den.ensures.part (one_shl c.args.halvings 64 (omega (arith, c.requires.halvings))))
    ∙ divided c.args.mean (2 ^ c.args.halvings) (pow_pos c.args.halvings)
