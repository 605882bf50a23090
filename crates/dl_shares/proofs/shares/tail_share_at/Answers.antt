use Rattle.dl_shares.proofs.Common.{◌≡◌, ◌+◌, ◌-◌, ◌*◌, ◌/◌, ◌^◌, ◌<◌, ◌≤◌, arith, length, ap₂, subst, sym, div_ceil, pow_pos, Fraction, whole, ◌over◌, ◌+ℚ◌, ◌-ℚ◌, ◌*ℚ◌, ◌/ℚ◌, times_comm, LiesIn, spread, One, partial_sums, low_sum, apart, high_mass, HoldsShare, are_units, quantity_bounded, rest_above, lies_between}
use Rattle.dl_shares.proofs.WeightedEnds.{room_of}
use Rattle.dl_model.proofs.ShareEnds.{share_ends}
use Rattle.dl_shares.proofs.ShareEnds.{cdf_holds, over_what_is_left, product_fits, scaled_fits, sum_small, share_wider}
use Rattle.dl_shares.proofs.Widths.{product_narrow, above_narrow, share_narrow}
use Rattle.dl_shares.proofs.Absent.{settles}
use Rattle.dl_shares.proofs.shares.tail_share_at.Goals as goal

pub mul-at-requires : goal.mul-at-requires
mul-at-requires g c =
    let fits = product_fits (2 ^ g.row.B) c.args.q c.above.result.hi c.share_at-share.result.hi
    (room_of c.args.total.now c.args.q c.cells.ensures.grid c.requires.settled.inside) (omega arith)
    c.share_at-share.ensures.most in
    (omega arith, omega (arith, fits.1))

pub add-requires : goal.add-requires
add-requires g c =
    let sum = sum_small c.args.total.now c.args.q c.sub_floor0-beyond.result.hi c.above.result.hi
    c.share_at-share.result.hi c.cells.ensures.grid c.requires.settled.inside (omega arith) c.share_at-share.ensures.most
    (omega arith) in
    (omega arith, omega arith)

pub scale-requires : goal.scale-requires
scale-requires g c =
    let left : 0 < c.den-2.result - c.num.result = omega (arith, rest_above c.args.p c.requires.below_one) in
    let sum = sum_small c.args.total.now c.args.q c.sub_floor0-beyond.result.hi c.above.result.hi
    c.share_at-share.result.hi c.cells.ensures.grid c.requires.settled.inside (omega arith) c.share_at-share.ensures.most
    (omega arith) in
    let fits = scaled_fits c.add.result.hi c.den.result _ left (omega arith) (omega arith) in
    (omega arith, (left, (omega (arith, fits.0), omega (arith, fits.1))))

pub returns-clause-small : goal.returns-clause-small
returns-clause-small g c =
    let left : 0 < c.den-2.result - c.num.result = omega (arith, rest_above c.args.p c.requires.below_one) in
    let sum = sum_small c.args.total.now c.args.q c.sub_floor0-beyond.result.hi c.above.result.hi
    c.share_at-share.result.hi c.cells.ensures.grid c.requires.settled.inside (omega arith) c.share_at-share.ensures.most
    (omega arith) in
    omega (arith, (scaled_fits c.add.result.hi c.den.result _ left (omega arith) (omega arith)).1)

pub returns-clause-holds : goal.returns-clause-holds
returns-clause-holds g c us i d h mean joint sums x is =
    let S = 2 ^ g.row.B in
    let p = c.args.p in
    let q = c.args.q in
    let w = are_units us d in
    let settled = c.requires.settled in
    let bound = quantity_bounded us One d tt in
    let below = c.args.below in
    let share = c.share_at-share.result in
    let value : (m b k v : Fraction) → LiesIn m c.args.mean → LiesIn b below → LiesIn k share → LiesIn v c.cdf.result
    → LiesIn ((m -ℚ b +ℚ k *ℚ (v -ℚ p)) /ℚ (whole 1 -ℚ p)) c.scale.result =
    λ m b k v inm inb ink inv. subst (λ t. LiesIn t c.scale.result)
    (over_what_is_left p (m -ℚ b +ℚ k *ℚ (v -ℚ p)) c.den.result (c.den-2.result - c.num.result)
    c.requires.below_one c.den.ensures.part
    (ap₂ (λ s t. s - t) c.den-2.ensures.part c.num.ensures.part))
    (c.scale.ensures.holds (m -ℚ b +ℚ k *ℚ (v -ℚ p)) (c.add.ensures.holds (m -ℚ b) (k *ℚ (v -ℚ p))
    (c.sub_floor0-beyond.ensures.holds m b inm inb)
    (subst (λ t. LiesIn t c.mul-at.result) (times_comm (v -ℚ p) k)
    (c.mul-at.ensures.holds (v -ℚ p) k (c.above.ensures.holds v inv) ink)))) in
    let held = share_ends us w i q p bound.0 c.requires.below_one bound.1 (c.args.mean.lo over S)
    (c.args.mean.hi over S) (below.lo over S) (below.hi over S) (c.cdf.result.lo over S) (c.cdf.result.hi over S)
    (share.lo over S) (share.hi over S) mean sums
    (cdf_holds c.args.total.now us q c.cdf.result.lo c.cdf.result.hi c.cells.ensures.grid settled.inside w h
    c.cdf.ensures.low c.cdf.ensures.high)
    (c.share_at-share.ensures.holds us i w h joint) in
    subst (λ n. HoldsShare (partial_sums us) i p n (c.scale.result.lo over S) (c.scale.result.hi over S))
    (sym (settles c.args.total.now p q settled.inside settled.bracket us x d h is))
    (share_wider (partial_sums us) i q p _ (c.scale.result.lo over S) _ (c.scale.result.hi over S) held
    (value _ _ _ _ (lies_between c.args.mean.lo c.args.mean (omega arith) c.args.mean.ordered)
    (lies_between below.hi below below.ordered (omega arith))
    (lies_between share.lo share (omega arith) share.ordered)
    (lies_between c.cdf.result.lo c.cdf.result (omega arith) c.cdf.result.ordered)).low
    (value _ _ _ _ (lies_between c.args.mean.hi c.args.mean c.args.mean.ordered (omega arith))
    (lies_between below.lo below (omega arith) below.ordered)
    (lies_between share.hi share share.ordered (omega arith))
    (lies_between c.cdf.result.hi c.cdf.result c.cdf.result.ordered (omega arith))).high)

pub returns-clause-width : goal.returns-clause-width
returns-clause-width g c m j t of_mean of_joint of_below of_total =
    let S = 2 ^ g.row.B in
    let q = c.args.q in
    let share = c.share_at-share.result in
    let above = c.above.result in
    let low : c.scale.result.lo ≡ ((c.args.mean.lo - c.args.below.hi) + above.lo * share.lo / S) * c.args.p.den /
    (c.args.p.den - c.args.p.num) = cc in
    let high : c.scale.result.hi ≡ div_ceil (((c.args.mean.hi - c.args.below.lo) +
    div_ceil (above.hi * share.hi) S) * c.args.p.den) (c.args.p.den - c.args.p.num) = cc in
    let narrow : above.hi - above.lo ≤ spread c.args.total.now + 1 =
    omega (
      arith,
      above_narrow S c.args.p.num c.args.p.den c.cdf.result.lo c.cdf.result.hi above.lo above.hi c.args.p.positive
          c.above.ensures.low c.above.ensures.high,
      apart c.args.total.now (q + 1),
      low_sum (q + 1) c.args.total.now,
      high_mass (q + 1) c.args.total.now,
    ) in
    share_narrow c.args.p (length c.args.total.now) (spread c.args.total.now) m j t q c.args.below.lo c.args.below.hi
    c.args.mean.lo c.args.mean.hi above.lo above.hi (above.lo * share.lo / S) (div_ceil (above.hi * share.hi) S)
    (share.hi - share.lo) c.scale.result.lo c.scale.result.hi c.requires.below_one c.requires.settled.inside of_below
    c.args.mean.ordered c.args.below.ordered narrow (c.share_at-share.ensures.width j t of_joint of_total)
    (product_narrow S q above.lo above.hi share.lo share.hi (pow_pos g.row.B) above.ordered share.ordered
    (omega arith)
    (omega (arith, c.share_at-share.ensures.most)))
    low high of_mean of_total
