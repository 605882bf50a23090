use Rattle.dl_totals.proofs.Common.{◌<◌, List, length, get_or, Option, Some, false, IsTrue, IsSome, IfSome, ◌↔◌, arith, ◌∙◌, Iv, IsSumOfPart, IsSumWithout, set, length-set}
use Rattle.dl_model.specs.Measures.{without}
use Rattle.dl_totals.proofs.TreeLaws.{more_done, rest_left}
use Rattle.dl_totals.proofs.shared.others_where_asked.Goals as goal

pub loop-i-preserved : goal.loop-i-preserved
loop-i-preserved g c =
    let here : c.loop-i.i < length c.args.units.now = omega (arith, c.loop-i-test.true, c.loop-i.auto.i-end) in
    let inside : c.loop-i.i < length c.loop-i.sums.items = omega (arith, here, c.loop-i.invariant.many) in
    record {
      inside = omega (arith, here);
      many = length-set (set c.loop-i.sums.items c.loop-i.i c.take-sum.new.self) c.loop-i.i c.in_ok-other.other
          ∙ length-set c.loop-i.sums.items c.loop-i.i c.take-sum.new.self ∙ c.loop-i.invariant.many;
      there = more_done c.loop-i.i c.loop-i.sums.items _ c.in_ok-other.other inside
          (λ p (t : Option (List (Iv g.row.B))). IsSome t ↔ IsTrue (get_or c.args.asked.now p false))
          c.loop-i.invariant.there
          c.in_ok-other.ensures.there;
      each = more_done c.loop-i.i c.loop-i.sums.items _ c.in_ok-other.other inside
          (λ p (t : Option (List (Iv g.row.B))). IfSome t (IsSumWithout c.args.cells c.args.units.now p))
          c.loop-i.invariant.each c.in_ok-other.ensures.sum;
      later = rest_left c.loop-i.i c.loop-i.sums.items _ c.in_ok-other.other inside
          (λ p (t : Option (List (Iv g.row.B))). IfSome t (λ h. IsSumOfPart c.args.cells c.args.units.now (λ us. without us p) (Some h)))
          (length c.args.units.now) c.loop-i.invariant.later;
    }
