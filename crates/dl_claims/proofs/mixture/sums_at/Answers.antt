use Rattle.dl_claims.proofs.Common.{ℕ, ◌<◌, ◌≤◌, ◌≡◌, ◌*◌, ◌^◌, List, [], length, get_or, arith, sym, ap, ◌∙◌, Iv, low_at, high_at, count_below, below_nothing}
use Rattle.dl_claims.proofs.EndLists.{mixture_end_is, mixture_end_more, product_small}
use Rattle.dl_claims.proofs.mixture.sums_at.Goals as goal

pub loop-i-init : goal.loop-i-init
loop-i-init g c = record {
  low = sym (below_nothing _);
  high = sym (below_nothing _);
  small_low = omega arith;
  small =
      omega arith;
}

pub loop-i-preserved : goal.loop-i-preserved
loop-i-preserved g c =
    let x = c.args.x in
    let inside : c.loop-i.i < length c.args.grids.now = omega arith in
    let grid = c.index-grids-i.result in
    let weight : c.from-weight.result ≡ get_or c.args.weights.now c.loop-i.i 0 = c.from-weight.ensures in
    let few : c.from-weight.result ≤ 2 ^ 40 =
    omega (arith, weight, c.requires.fits c.loop-i.i 0 (omega (arith, inside, c.requires.as_many))) in
    let low = c.end_at.ensures.end ∙ c.lows.ensures.each x in
    let high = c.end_at-in-loop-i.ensures.end ∙ c.highs.ensures.each x in
    let small_low = product_small c.from-weight.result c.end_at.result few (c.end_at.ensures.small c.lows.ensures.fits) in
    let small = product_small c.from-weight.result c.end_at-in-loop-i.result few
    (c.end_at-in-loop-i.ensures.small c.highs.ensures.fits) in
    record {
      low = mixture_end_more c.args.weights.now c.args.grids.now grid c.loop-i.i c.loop-i.low c.from-weight.result
          c.end_at.result (λ g. low_at g x) inside c.index-grids-i.is weight low c.loop-i.invariant.low;
      high = mixture_end_more c.args.weights.now c.args.grids.now grid c.loop-i.i c.loop-i.high c.from-weight.result
          c.end_at-in-loop-i.result (λ g. high_at g x) inside c.index-grids-i.is weight high c.loop-i.invariant.high;
      small_low = omega (arith, c.loop-i.invariant.small_low, small_low);
      small = omega (arith, c.loop-i.invariant.small, small);
    }

pub returns : goal.returns
returns g c =
    let x = c.args.x in
    let all : c.loop-i.i ≡ length c.args.grids.now = omega arith in
    let ends = λ (end : List (Iv g.row.B) → ℕ).
    ap (λ n. count_below n (λ i. get_or c.args.weights.now i 0 * end (get_or c.args.grids.now i []))) all
    ∙ sym (mixture_end_is c.args.weights.now c.args.grids.now end c.requires.as_many) in
    record {
      low = c.loop-i.invariant.low ∙ ends (λ g. low_at g x);
      high = c.loop-i.invariant.high ∙ ends (λ g. high_at g x);
    }
