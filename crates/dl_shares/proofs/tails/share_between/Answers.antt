use Rattle.dl_shares.proofs.Common.{ℕ, inl, inr, ◌≡◌, ◌+◌, ◌-◌, ◌*◌, ◌/◌, ◌^◌, ◌<◌, ◌≤◌, length, arith, sym, ap, subst, ◌∙◌, ap₂, LiesIn, whole, ◌-ℚ◌, ◌/ℚ◌, ◌≤ℚ◌, at_least_wider, cases_lt, pow_pos, div_ceil, cells_fit, low_at, high_at, AtLeast, One, Joint, declared, ◌over◌, max, over_le_over, rest_above, low_le_high, part_down, part_up, low_above, high_above}
use Rattle.dl_exact.proofs.Laws.{div_le_both, le_refl, le_trans}
use Rattle.dl_model.proofs.TailScores.{rest_pos}
use Rattle.dl_model.proofs.PlanShares.{share_between as share_ends}
use Rattle.dl_shares.proofs.ShareEnds.{over_what_is_left, share_wider}
use Rattle.dl_shares.proofs.TailEnds.{atom_high, atom_low, over_sum, quantile_between}
use Rattle.dl_shares.proofs.Absent.{cell_narrow}
use Rattle.dl_shares.proofs.JointMost.{plan_within}
use Rattle.dl_shares.proofs.TailBrackets.{above_apart, above_order, none_above, between_few, last_near}
use Rattle.dl_shares.proofs.TailJoints.{sums_near}
use Rattle.dl_shares.proofs.TailParts.{down_most, down_none, part_narrow, whole_near}
use Rattle.dl_shares.proofs.TailWidths.{sum_width, part_wide, one_sum, two_sums, scaled_narrow, whole_fits}
use Rattle.dl_shares.proofs.tails.share_between.Goals as goal

pub scale-requires : goal.scale-requires
scale-requires g c =
    let left : 0 < c.den-2.result - c.num.result = omega (arith, rest_above c.args.p c.requires.below_one) in
    let most : c.max.result ≤ 2 ^ 97 + 2 ^ 72 =
    omega (
      arith,
      cells_fit c.args.total.now c.args.last.x c.cells.ensures.grid (omega arith),
      cells_fit c.args.total.now c.args.first.x c.cells.ensures.grid (omega arith),
    ) in
    let fits = whole_fits c.max.result c.den.result _ left most (omega arith) in
    (omega arith, (left, (omega (arith, fits.0), omega (arith, fits.1))))

pub returns-clause-small : goal.returns-clause-small
returns-clause-small g c = omega (arith, c.scale.result.in_range)

pub returns-clause-width : goal.returns-clause-width
returns-clause-width g c plan i m j t valid points first last of_mean of_total =
    let S = 2 ^ g.row.B in
    let s = pow_pos g.row.B in
    let grid = c.args.total.now in
    let is = c.cells.ensures.grid in
    let K = length grid in
    let p = c.args.p in
    let lo = c.args.first.x in
    let hi = c.args.last.x in
    let inside : lo < K = omega arith in
    let jl = c.args.first.at.lo in
    let jh = c.args.first.at.hi in
    let u = part_up jh (high_above grid p lo) (low_at grid lo) in
    let v = part_down c.args.last.at.lo (low_above grid p hi) (high_at grid hi) in
    -- no joint mean is above its total times the probability there
    let few : (x l : ℕ) → x < K → AtLeast (declared plan (Joint i x)) (declared plan One) (l over S)
    → l ≤ x * high_at grid x =
    λ x l inside low. (plan_within plan valid).1 i x l (high_at grid x) S s low (points x inside).1 in
    let wide : u ≤ part_down jl (low_above grid p lo) (high_at grid lo) + j + (2 * (K * t) + K) + 2 =
    part_wide K t lo _ u (jh - jl) (high_above grid p lo - low_above grid p lo) (high_at grid lo - low_at grid lo) j
    inside (part_narrow jl jh (low_above grid p lo) (high_above grid p lo) (low_at grid lo) (high_at grid lo) lo
    c.args.first.at.ordered (above_order grid p lo is) (low_le_high grid lo) (few lo jl inside first.at.0))
    first.at_narrow (omega (arith, above_apart grid p lo)) (omega (arith, cell_narrow grid lo)) in
    let sum : (c.args.mean.hi - c.args.first.up_to.lo) + u
    ≤ ((c.args.mean.lo - c.args.last.up_to.hi) + v) + sum_width m K j t =
    elim (cases_lt lo hi) [
      | inl apart ↦ two_sums m K j t hi c.args.mean.lo c.args.mean.hi c.args.first.up_to.lo c.args.first.up_to.hi
          c.args.last.up_to.lo c.args.last.up_to.hi c.args.last.at.lo c.args.last.at.hi u v _
          (high_at grid hi - low_above grid p hi) c.requires.inside of_mean c.args.mean.ordered first.up_to_narrow
          last.up_to_narrow last.at_narrow (sums_near plan valid i S K s (high_at grid) (λ x inside. (points x inside).1) lo hi _ _ _
          apart c.requires.inside first.up_to.1 last.at.1 last.up_to.0)
          (omega (arith, between_few grid p lo hi c.requires.bracket apart))
          (whole_near c.args.last.at.lo (low_above grid p hi) (high_at grid hi) hi
          (few hi c.args.last.at.lo c.requires.inside last.at.0))
          (omega (arith, last_near grid p lo hi c.requires.bracket apart))
          (subst (λ d. u ≤ d + j + (2 * (K * t) + K) + 2)
          (ap (λ a. part_down jl a (high_at grid lo)) (none_above grid p lo hi c.requires.bracket apart)
          ∙ down_none jl (high_at grid lo) lo (few lo jl inside first.at.0)) wide)
      | inr rest ↦
          let same : lo ≡ hi = omega (arith, rest) in
          let alike = c.requires.same same in
          one_sum m K j t c.args.mean.lo c.args.mean.hi c.args.first.up_to.lo c.args.last.up_to.hi u v of_mean
          c.args.mean.ordered (omega (arith, last.up_to_narrow, ap (λ f. f.up_to.lo) alike))
          (subst (λ d. u ≤ d + j + (2 * (K * t) + K) + 2)
          (ap (λ f. part_down f.at.lo (low_above grid p lo) (high_at grid lo)) alike
          ∙ ap (λ x. part_down c.args.last.at.lo (low_above grid p x) (high_at grid x)) same) wide)
    ] in
    let low : c.scale.result.lo ≡ c.mean_in_tail-low.result.lo * p.den / (p.den - p.num) = cc in
    let high : c.scale.result.hi
    ≡ div_ceil (max c.mean_in_tail-high.result.hi c.mean_in_tail-low.result.lo * p.den) (p.den - p.num) = cc in
    scaled_narrow p m K j t c.mean_in_tail-low.result.lo c.mean_in_tail-high.result.hi c.scale.result.lo
    c.scale.result.hi c.requires.below_one (rw (c.mean_in_tail-high.ensures.high, c.mean_in_tail-low.ensures.low) sum) low high

pub returns-clause-holds : goal.returns-clause-holds
returns-clause-holds g c plan i j valid points mean first last q quantile =
    let S = 2 ^ g.row.B in
    let s = pow_pos g.row.B in
    let grid = c.args.total.now in
    let p = c.args.p in
    let lo = c.args.first.x in
    let hi = c.args.last.x in
    let low = c.mean_in_tail-low.result.lo in
    let high = c.mean_in_tail-high.result.hi in
    let u = part_up c.args.first.at.hi (high_above grid p lo) (low_at grid lo) in
    let v = part_down c.args.last.at.lo (low_above grid p hi) (high_at grid hi) in
    let scaled : (n : ℕ) → low ≤ n → n ≤ c.max.result → LiesIn (n over S /ℚ (whole 1 -ℚ p)) c.scale.result =
    λ n from to. subst (λ t. LiesIn t c.scale.result) (over_what_is_left p (n over S) c.den.result
    (c.den-2.result - c.num.result) c.requires.below_one c.den.ensures.part
    (ap₂ (λ s t. s - t) c.den-2.ensures.part c.num.ensures.part))
    (c.scale.ensures.holds (n over S)
    record { low = over_le_over low n S s from; high = over_le_over n c.max.result S s to }) in
    let lowest = scaled low (omega arith) (omega arith) in
    let highest = scaled c.max.result (omega arith) (omega arith) in
    let raised : high over S ≤ℚ c.max.result over S = over_le_over high c.max.result S s (omega arith) in
    let around = quantile_between plan valid grid points p lo hi q c.requires.bracket quantile in
    let held = share_ends plan valid i p c.requires.below_one lo q hi around.0 around.1 _ _ _ _ (v over S) (u over S)
    mean first.up_to.0 last.up_to.1
    (atom_high plan valid grid points p i lo (omega arith) c.args.first.at.hi first.at.1)
    (atom_low plan valid grid points p i hi c.requires.inside c.args.last.at.lo last.at.0)
    (at_least_wider _ _ _ _ last.at.0 (over_le_over v c.args.last.at.lo S s (down_most _ _ _))) in
    share_wider (declared plan) i q p _ (c.scale.result.lo over S) _ (c.scale.result.hi over S) held
    (subst (λ t. c.scale.result.lo over S ≤ℚ t /ℚ (whole 1 -ℚ p))
    (ap (λ n. n over S) c.mean_in_tail-low.ensures.low ∙ sym (over_sum c.args.mean.lo c.args.last.up_to.hi v S s))
    lowest.low)
    (subst (λ t. t /ℚ (whole 1 -ℚ p) ≤ℚ c.scale.result.hi over S)
    (ap (λ n. n over S) c.mean_in_tail-high.ensures.high ∙ sym (over_sum c.args.mean.hi c.args.first.up_to.lo u S s))
    (le_trans _ _ _ (div_le_both (high over S) (c.max.result over S) _ _ (rest_pos p (whole 1) c.requires.below_one)
    raised (le_refl _))
    highest.high))
