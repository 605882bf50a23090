use Rattle.dl_claims.proofs.Common.{ℕ, ◌≡◌, ◌/◌, ◌^◌, ◌≤◌, length, arith, ap, ap₂, ◌∙◌, min, div_ceil, low_at, high_at, mixture_end, size_within, low_ends_long}
use Rattle.dl_claims.proofs.EndLists.{one_more_item}
use Rattle.dl_claims.proofs.BlockGrids.{as_made, mixed_lists, mixture_between, mixture_ends}
use Rattle.dl_claims.proofs.mixture.block.Goals as goal

pub loop-x-preserved : goal.loop-x-preserved
loop-x-preserved g c =
    let x : ℕ = c.loop-x.x in
    let weights = c.in_ok-weights.weights.items in
    let one = c.units_of_one-one.ensures in
    let given = ap (λ ws. mixture_end ws c.args.powers.now (λ t. low_at t x) / c.args.total) c.as_slice.ensures.value in
    let given' = ap (λ ws. div_ceil (mixture_end ws c.args.powers.now (λ t. high_at t x)) c.args.total)
    c.as_slice.ensures.value in
    record {
      lows = omega (arith, c.in_ok-push.ensures.len, c.loop-x.invariant.lows);
      highs = omega (arith, c.in_ok-push-2.ensures.len, c.loop-x.invariant.highs);
      low = one_more_item c.loop-x.lows.items c.push.new.self.items c.min.result x
          (λ k. min (2 ^ g.row.B) (mixture_end weights c.args.powers.now (λ t. low_at t k) / c.args.total))
          c.in_ok-push.ensures.items c.loop-x.invariant.lows c.loop-x.invariant.low
          (c.min.ensures ∙ ap₂ (λ s t. min s t) one (c.ends_at-low.ensures.low ∙ given));
      high = one_more_item c.loop-x.highs.items c.push-in-loop-x.new.self.items c.min-in-loop-x.result x
          (λ k. min (2 ^ g.row.B) (div_ceil (mixture_end weights c.args.powers.now (λ t. high_at t k)) c.args.total))
          c.in_ok-push-2.ensures.items c.loop-x.invariant.highs c.loop-x.invariant.high
          (c.min-in-loop-x.ensures ∙ ap₂ (λ s t. min s t) one (c.ends_at-low.ensures.high ∙ given'));
    }

pub from_ends-requires : goal.from_ends-requires
from_ends-requires g c =
    let weights = c.in_ok-weights.weights.items in
    let long : ℕ = c.longest-long.result in
    let lows : length c.loop-x.lows.items ≡ long = omega (arith, c.loop-x.invariant.lows) in
    let highs : length c.loop-x.highs.items ≡ long = omega (arith, c.loop-x.invariant.highs) in
    let within : long ≤ c.args.cells = c.longest-long.ensures.least c.args.cells (omega (arith, c.requires.size.some))
    c.requires.few in
    let mixed = mixed_lists weights c.args.powers.now c.args.total c.loop-x.lows.items c.loop-x.highs.items long
    c.requires.positive c.in_ok-weights.ensures.many lows highs c.longest-long.ensures.within
    (λ x b. c.loop-x.invariant.low x (omega arith)) (λ x b. c.loop-x.invariant.high x (omega arith)) in (
      omega arith,
      mixture_ends c.args.powers.now weights c.loop-x.lows.items c.loop-x.highs.items c.args.table.now c.args.total
          c.args.first c.requires.positive c.requires.sum c.requires.one c.in_ok-weights.ensures.many
          c.in_ok-weights.ensures.each mixed c.args.cells long within
          (size_within c.requires.size c.longest-long.ensures.some within) lows highs
          c.requires.powers.0 c.requires.powers.1 c.requires.powers.2,
    )

pub returns-clause-few : goal.returns-clause-few
returns-clause-few g c =
    omega (
      arith,
      low_ends_long c.from_ends.result,
      ap length c.from_ends.ensures.low,
      c.longest-long.ensures.least c.args.cells (omega (arith, c.requires.size.some)) c.requires.few,
    )

pub returns-clause-between : goal.returns-clause-between
returns-clause-between g c f q of_f =
    let weights = c.in_ok-weights.weights.items in
    let lows : length c.loop-x.lows.items ≡ c.longest-long.result = omega (arith, c.loop-x.invariant.lows) in
    let highs : length c.loop-x.highs.items ≡ c.longest-long.result = omega (arith, c.loop-x.invariant.highs) in
    let mixed = mixed_lists weights c.args.powers.now c.args.total c.loop-x.lows.items c.loop-x.highs.items _
    c.requires.positive c.in_ok-weights.ensures.many lows highs c.longest-long.ensures.within
    (λ x b. c.loop-x.invariant.low x (omega arith)) (λ x b. c.loop-x.invariant.high x (omega arith)) in
    as_made c.from_ends.result c.loop-x.lows.items c.loop-x.highs.items c.args.cells _ c.from_ends.ensures.low
    c.from_ends.ensures.high
    (mixture_between c.args.powers.now weights c.loop-x.lows.items c.loop-x.highs.items c.args.table.now c.args.total
    c.args.first c.requires.positive c.requires.sum c.requires.one c.in_ok-weights.ensures.many
    c.in_ok-weights.ensures.each mixed c.args.cells f q of_f)
