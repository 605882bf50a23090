use Rattle.dl_measures.proofs.Common.{◌-◌, ◌*◌, ◌/◌, ◌<◌, ◌≤◌, ap, arith, count_below, length, end_at}
use Rattle.dl_measures.proofs.MarkLaws.{none_before, times_fits}
use Rattle.dl_measures.proofs.marks.Running.blocks_below.Goals as goal

pub loop-first-init : goal.loop-first-init
loop-first-init c = record { order = omega arith; within = omega arith; before = λ x h. absurd (omega arith) }

pub mark-requires-clause-inside : goal.mark-requires-clause-inside
mark-requires-clause-inside c = omega (arith, c.loop-first.invariant.within)

pub overflow_mul-mark : goal.overflow_mul-mark
overflow_mul-mark c =
    let middle = c.loop-first.last - (c.loop-first.last - c.loop-first.first) / 2 in
    let inside : middle * 64 ≤ length c.args.self.ends.now =
    omega (arith, c.loop-first.invariant.within, c.requires.running.marked.within) in
    omega (arith, times_fits c.requires.running.few (middle * 64) _ c.args.den inside c.mark.ensures.sum c.requires.den)

pub loop-first-preserved-then-mark-den : goal.loop-first-preserved-then-mark-den
loop-first-preserved-then-mark-den c =
    let middle = c.loop-first.last - (c.loop-first.last - c.loop-first.first) / 2 in
    let short : count_below (middle * 64) (end_at c.args.self.ends.now) * c.args.den < c.args.goal =
    omega (arith, ap (λ sum. sum * c.args.den) c.mark.ensures.sum) in
    record {
      order = omega arith;
      within = c.loop-first.invariant.within;
      before = λ x h. none_before (end_at c.args.self.ends.now) c.args.den c.args.goal (middle * 64) x short h;
    }

pub loop-first-preserved : goal.loop-first-preserved
loop-first-preserved c = record {
  order = omega arith;
  within = omega (arith, c.loop-first.invariant.within);
  before = c.loop-first.invariant.before;
}

pub returns-clause-within : goal.returns-clause-within
returns-clause-within c = omega (arith, c.loop-first.invariant.within)

pub returns-clause-before : goal.returns-clause-before
returns-clause-before c = c.loop-first.invariant.before
