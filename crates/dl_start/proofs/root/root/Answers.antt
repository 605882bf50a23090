use Rattle.dl_start.proofs.Common.{◌≡◌, ℕ, ◌+◌, ◌-◌, ◌*◌, ◌/◌, ◌^◌, ◌≤◌, arith, div-mul-le_self, lt-div-mul-add, mul-le-mul, le_of_mul-le-mul_right, ◌%◌, div_ceil_times, div_ceil}
use Rattle.dl_start.proofs.Products.{two_pos}
use Rattle.dl_start.proofs.Squares.{le_of_squares, root_holds, root_scales}
use Rattle.dl_start.proofs.Widths.{root_within}
use Rattle.dl_start.proofs.root.root.Goals as goal

-- a product in p + 1 parts, rounded down and up
down : (a b x y p o : ℕ) → a ≡ x → b ≡ y → p ≡ o
    → (a * b / (p + 1) * (o + 1) ≤ x * y) × (x * y ≤ a * b / (p + 1) * (o + 1) + o)
down a b x y p o e f g =
    rw (e, f, g) (
      div-mul-le_self (x * y) (o + 1),
      omega (arith, lt-div-mul-add {a = x * y} {b = o + 1} (omega arith)),
    )

up : (a b x y p o n : ℕ) → a ≡ x → b ≡ y → p ≡ o → n ≡ div_ceil (a * b) (p + 1)
    → (x * y ≤ n * (o + 1)) × (n * (o + 1) ≤ x * y + o)
up a b x y p o n e f g h =
    let both = div_ceil_times (x * y) (o + 1) (omega arith) in
    rw (h, e, f, g) (omega (arith, both.0, both.1), omega (arith, both.0, both.1))

pub invariant_of-result-clause-order : goal.invariant_of-result-clause-order
invariant_of-result-clause-order c =
    let x = c.args.x in
    let y = c.args.y in
    let o : ℕ = (x.exponent + y.exponent) % 2 in
    let low = down _ _ x.low y.low _ o c.from.ensures c.from-2.ensures c.from-parts.ensures in
    let high = up _ _ x.high y.high _ o c.div_ceil.result c.from-3.ensures c.from-4.ensures
    c.from-parts.ensures c.div_ceil.ensures in
    let products : x.low * y.low ≤ x.high * y.high = mul-le-mul x.order y.order in
    le_of_squares c.whole_root-low.result c.whole_root_above-high.result _ c.div_ceil.result
    c.whole_root-low.ensures.below
    (le_of_mul-le-mul_right {k = o + 1} (omega (arith, products, low.0, high.0)) (omega arith))
    c.whole_root_above-high.ensures.above

pub returns-clause-holds : goal.returns-clause-holds
returns-clause-holds c r t u x same H K =
    let e = c.args.x.exponent in
    let g = c.args.y.exponent in
    let o : ℕ = (e + g) % 2 in
    let f : ℕ = (e + g - o) / 2 in
    let few : o ≤ 1 = omega arith in
    let low = down _ _ c.args.x.low c.args.y.low _ o c.from.ensures c.from-2.ensures c.from-parts.ensures in
    let high = up _ _ c.args.x.high c.args.y.high _ o c.div_ceil.result c.from-3.ensures c.from-4.ensures
    c.from-parts.ensures c.div_ceil.ensures in
    root_holds (2 ^ e) (2 ^ g) (2 ^ f) (o + 1) (two_pos e) (two_pos g) (two_pos f)
    (root_scales e g f o few (omega (arith, few))) r t u x c.args.x.low c.args.x.high c.args.y.low c.args.y.high
    _ c.div_ceil.result c.whole_root-low.result c.whole_root_above-high.result same H K c.whole_root-low.ensures.below
    low.0 c.whole_root_above-high.ensures.above high.0

pub returns-clause-narrow : goal.returns-clause-narrow
returns-clause-narrow c before after next within exact =
    let o : ℕ = (c.args.x.exponent + c.args.y.exponent) % 2 in
    let low = down _ _ c.args.x.low c.args.y.low _ o c.from.ensures c.from-2.ensures c.from-parts.ensures in
    let high = up _ _ c.args.x.high c.args.y.high _ o c.div_ceil.result c.from-3.ensures c.from-4.ensures
    c.from-parts.ensures c.div_ceil.ensures in
    root_within before after c.args.x c.args.y _ o _ c.div_ceil.result next within exact (omega arith) low.1
    c.whole_root-low.ensures.above high.0 high.1 c.whole_root_above-high.ensures.least
    c.whole_root_above-high.ensures.above
