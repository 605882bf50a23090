use Rattle.std.proofs.lemmas.List.Sums.{get_or-le-sum_by}
use Rattle.dl_recursion.proofs.Common.{length, sym, ◌∙◌, take_all, Part}
use Rattle.dl_recursion.proofs.Contributions.{room_part, is_within, next_none, next_added}
use Rattle.dl_recursion.proofs.Runs.{next_fits}
use Rattle.dl_recursion.proofs.sums.parts_contribution.Goals as goal

pub is_above-requires : goal.is_above-requires
is_above-requires g c = record { near = λ t. c.requires.near t _ _ c.loop-part-test.true }

pub loop-part-preserved-then-is_above : goal.loop-part-preserved-then-is_above
loop-part-preserved-then-is_above g c =
    let above = sym c.is_above.ensures ∙ c.if-is_above.true in
    record {
      low = next_none c.args.before c.args.after (length c.args.low.now) c.args.low.now c.args.parts.now c.loop-part.part-index
          _ c.loop-part-test.true c.loop-part.low_sum c.loop-part.invariant.low above;
      high = next_none c.args.before c.args.after (length c.args.low.now) c.args.high.now c.args.parts.now c.loop-part.part-index
          _ c.loop-part-test.true c.loop-part.high_sum c.loop-part.invariant.high above;
    }

pub loop-part-preserved : goal.loop-part-preserved
loop-part-preserved g c = record {
  low = next_added c.args.before c.args.after (length c.args.low.now) c.args.low.now c.args.parts.now c.loop-part.part-index
      _ c.loop-part-test.true c.loop-part.low_sum c.loop-part.invariant.low _ c.contribution-low_sum.ensures;
  high = next_added c.args.before c.args.after (length c.args.low.now) c.args.high.now c.args.parts.now c.loop-part.part-index
      _ c.loop-part-test.true c.loop-part.high_sum c.loop-part.invariant.high _ c.contribution-high_sum.ensures;
}

pub contribution-low_sum-requires-clause-room : goal.contribution-low_sum-requires-clause-room
contribution-low_sum-requires-clause-room g c =
    room_part c.requires.room
    (get_or-le-sum_by (λ (p : Part). p.weight) c.args.parts.now c.loop-part.part-index _ c.loop-part-test.true)

pub contribution-high_sum-requires-clause-room : goal.contribution-high_sum-requires-clause-room
contribution-high_sum-requires-clause-room g c =
    room_part c.requires.room
    (get_or-le-sum_by (λ (p : Part). p.weight) c.args.parts.now c.loop-part.part-index _ c.loop-part-test.true)

pub contribution-low_sum-requires-clause-amount : goal.contribution-low_sum-requires-clause-amount
contribution-low_sum-requires-clause-amount g c = c.requires.amounts _ _ c.loop-part-test.true

pub contribution-high_sum-requires-clause-amount : goal.contribution-high_sum-requires-clause-amount
contribution-high_sum-requires-clause-amount g c = c.requires.amounts _ _ c.loop-part-test.true

pub contribution-low_sum-requires-clause-within : goal.contribution-low_sum-requires-clause-within
contribution-low_sum-requires-clause-within g c = is_within _ _ (sym c.is_above.ensures ∙ c.if-is_above.false)

pub contribution-high_sum-requires-clause-within : goal.contribution-high_sum-requires-clause-within
contribution-high_sum-requires-clause-within g c = is_within _ _ (sym c.is_above.ensures ∙ c.if-is_above.false)

pub overflow_add-low_sum : goal.overflow_add-low_sum
overflow_add-low_sum g c = record {
  fits = next_fits c.args.before c.args.after (length c.args.low.now) c.args.low.now c.requires.ends.low_small c.args.parts.now
      c.loop-part.part-index _ c.loop-part-test.true c.requires.room.weights c.loop-part.low_sum _ c.loop-part.invariant.low c.contribution-low_sum.ensures;
}

pub overflow_add-high_sum : goal.overflow_add-high_sum
overflow_add-high_sum g c = record {
  fits = next_fits c.args.before c.args.after (length c.args.low.now) c.args.high.now c.requires.ends.high_small c.args.parts.now
      c.loop-part.part-index _ c.loop-part-test.true c.requires.room.weights c.loop-part.high_sum _ c.loop-part.invariant.high c.contribution-high_sum.ensures;
}

pub returns-clause-low : goal.returns-clause-low
returns-clause-low g c = rw (take_all _ _ c.loop-part-test.false) at c.loop-part.invariant.low

pub returns-clause-high : goal.returns-clause-high
returns-clause-high g c = rw c.requires.ends.alike (rw (take_all _ _ c.loop-part-test.false) at c.loop-part.invariant.high)
