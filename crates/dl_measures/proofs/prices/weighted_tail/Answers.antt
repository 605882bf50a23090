use Rattle.dl_measures.proofs.Common.{◌*◌, ◌^◌, ap₂, arith, length, subst, ◌∙◌, ◌over◌, ◌*ℚ◌, ◌≤ℚ◌, over_self, cells_fit, One, Tail, partial_sums, lies_between}
use Rattle.dl_measures.proofs.Parts.{part_of_one, part_least, part_most, part_narrow, part_small, tail_small}
use Rattle.dl_measures.proofs.prices.weighted_tail.Goals as goal

pub part-requires : goal.part-requires
part-requires g c =
    let part = part_of_one c.args.term.weight c.requires.part in (omega arith, (omega arith, omega arith))

pub returns-clause-least : goal.returns-clause-least
returns-clause-least g c us q d e mean =
    let tail = c.in_ok-tail.tail in
    let weight = ap₂ (λ n m. n over m) c.num.ensures.part c.den.ensures.part ∙ over_self c.args.term.weight in
    let low = c.part.ensures.holds (tail.lo over 2 ^ g.row.B) (lies_between tail.lo tail (omega arith) tail.ordered) in
    part_least (partial_sums us (Tail c.args.term.p q)) (partial_sums us One) c.args.term.weight
    (tail.lo over 2 ^ g.row.B) _ (c.in_ok-tail.ensures.least us q d e mean)
    (subst (λ w. c.part.result.lo over 2 ^ g.row.B ≤ℚ tail.lo over 2 ^ g.row.B *ℚ w) weight low.low)

pub returns-clause-holds : goal.returns-clause-holds
returns-clause-holds g c us q d e mean is =
    let tail = c.in_ok-tail.tail in
    let weight = ap₂ (λ n m. n over m) c.num.ensures.part c.den.ensures.part ∙ over_self c.args.term.weight in
    let high = c.part.ensures.holds (tail.hi over 2 ^ g.row.B)
    (lies_between tail.hi tail tail.ordered (omega arith)) in (
      returns-clause-least g c us q d e mean,
      part_most (partial_sums us (Tail c.args.term.p q)) (partial_sums us One) c.args.term.weight
          (tail.hi over 2 ^ g.row.B) _ (c.in_ok-tail.ensures.holds us q d e mean is).1
          (subst (λ w. tail.hi over 2 ^ g.row.B *ℚ w ≤ℚ c.part.result.hi over 2 ^ g.row.B) weight high.high),
    )

pub returns-clause-width : goal.returns-clause-width
returns-clause-width g c =
    part_narrow c.args.term.weight c.in_ok-tail.tail.lo c.in_ok-tail.tail.hi _ c.part.result.lo c.part.result.hi
    c.in_ok-tail.ensures.width (cc) (cc)

pub returns-clause-most : goal.returns-clause-most
returns-clause-most g c =
    part_small c.args.term.weight c.in_ok-tail.tail.hi _ c.part.result.hi
    (tail_small (length c.args.g.now * 2 ^ g.row.B) c.args.mean.hi c.args.term.p.den c.in_ok-tail.tail.hi
    (omega (arith, cells_fit c.args.g.now (length c.args.g.now) c.cells.ensures.grid (omega arith)))
    c.requires.mean c.requires.small c.in_ok-tail.ensures.most) (cc)
