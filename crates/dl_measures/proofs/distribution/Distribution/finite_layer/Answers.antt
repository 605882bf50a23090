use Rattle.dl_measures.proofs.Common.{◌+◌, ◌^◌, suc, arith, count_below, high_at, scale_of, ◌∙◌}
use Rattle.dl_measures.proofs.LayerEnds.{units_order, units_fit}
use Rattle.dl_measures.proofs.MarkLaws.{layer_of, lesser_rests}
use Rattle.dl_measures.proofs.distribution.Distribution.finite_layer.Goals as goal

pub returns-clause-low : goal.returns-clause-low
returns-clause-low g c =
    layer_of c.highs.ensures.sums c.args.attach _ c.args.limit _ (omega arith) c.layer.ensures
    ∙ lesser_rests (2 ^ g.row.B) c.args.limit (λ i. count_below (suc (c.args.attach + i)) (high_at c.args.self.now))

pub returns-clause-high : goal.returns-clause-high
returns-clause-high g c = layer_of c.lows.ensures.sums c.args.attach _ c.args.limit _ (omega arith) c.layer-2.ensures

pub invariant_of-result : goal.invariant_of-result
invariant_of-result g c =
    let low = layer_of c.highs.ensures.sums c.args.attach _ c.args.limit _ (omega arith) c.layer.ensures
    ∙ lesser_rests (2 ^ g.row.B) c.args.limit (λ i. count_below (suc (c.args.attach + i)) (high_at c.args.self.now)) in
    let high = layer_of c.lows.ensures.sums c.args.attach _ c.args.limit _ (omega arith) c.layer-2.ensures in
    let scale = scale_of _ c.lows.ensures.grid.some in
    record {
      ordered = rw (low, high) (units_order c.args.self.now c.args.limit c.args.attach);
      in_range = rw high (units_fit c.args.self.now c.args.limit c.args.attach c.lows.ensures.grid (omega arith));
      scale_above = scale.0;
      scale_below = scale.1;
    }
