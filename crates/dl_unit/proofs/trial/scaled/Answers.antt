use Rattle.dl_unit.proofs.Common.{◌*◌, ◌/◌, ◌^◌, ◌≤◌, arith, ap₂, ◌∙◌, div_ceil, pow-le-pow_right, low_at, high_at, num_le_den, part_within, mul-le-mul, scale_of}
use Rattle.std.proofs.Math.Nat.{le_trans}
use Rattle.dl_unit.proofs.Pushed.{low_pushed, high_pushed}
use Rattle.dl_unit.proofs.trial.scaled.Goals as goal

pub scale-requires : goal.scale-requires
scale-requires g c =
    let scale = scale_of c.args.claim.now c.cells-cells.ensures.grid.some in
    let read : c.at.result.hi ≤ 2 ^ 56 = le_trans c.at.ensures.small
    (pow-le-pow_right {n = 2} (omega arith) {i = g.row.B} {j = 56} scale.1) in
    let within : c.num.result ≤ c.den.result = omega (
      arith,
      c.num.ensures.part,
      c.den.ensures.part,
      num_le_den c.args.q c.requires.probability.within,
    ) in
    let num : c.num.result ≤ 2 ^ 48 = omega (arith, c.num.ensures.part, c.requires.probability.admitted.num) in
    let fits : c.at.result.hi * c.num.result ≤ 2 ^ 56 * 2 ^ 48 = mul-le-mul read num in
    let part = part_within c.at.result.hi c.num.result c.den.result c.den.ensures.positive within in
    (omega arith, (c.den.ensures.positive, (omega (arith, fits), omega (arith, part, read))))

pub loop-x-preserved : goal.loop-x-preserved
loop-x-preserved g c =
    rw c.in_ok-push.ensures.items (record {
      cells = grind arith;
      low = low_pushed c.loop-x.list.items c.scale.result c.loop-x.x
          (λ y. low_at c.args.claim.now y * c.args.q.num / c.args.q.den)
          c.loop-x.invariant.cells c.loop-x.invariant.low
          (c.scale.ensures.low ∙ ap₂ (λ n d. n / d) (ap₂ (λ x y. x * y) c.at.ensures.low c.num.ensures.part)
          c.den.ensures.part);
      high = high_pushed c.loop-x.list.items c.scale.result c.loop-x.x
          (λ y. div_ceil (high_at c.args.claim.now y * c.args.q.num) c.args.q.den)
          c.loop-x.invariant.cells c.loop-x.invariant.high
          (c.scale.ensures.high ∙ ap₂ (λ n d. div_ceil n d)
          (ap₂ (λ x y. x * y) c.at.ensures.high c.num.ensures.part) c.den.ensures.part);
    })
