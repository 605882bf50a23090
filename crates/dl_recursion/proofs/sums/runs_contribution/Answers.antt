use Rattle.std.proofs.Math.Nat.{lt_of_le_of_lt}
use Rattle.dl_recursion.proofs.Common.{◌<◌, length, get_or, arith, refl, AreWindow, Run, Windows, contribution, get_or_default, get_or-set_other, length-set}
use Rattle.dl_recursion.proofs.Contributions.{room_part}
use Rattle.dl_recursion.proofs.Runs.{runs_more, run_le, run_room}
use Rattle.dl_recursion.proofs.Windows.{placed}
use Rattle.dl_recursion.proofs.sums.runs_contribution.Goals as goal

pub loop-i-init : goal.loop-i-init
loop-i-init c = record {
  low = refl;
  high = refl;
  moved = λ k run d l. absurd (omega (arith, l));
  rest = λ k run d b l. c.requires.windows k run d l;
  each_run = c.requires.each_run;
}

pub next_window-requires-clause-last : goal.next_window-requires-clause-last
next_window-requires-clause-last c =
    (c.loop-i.invariant.rest c.loop-i.i _ _ (omega arith) (omega (arith, c.loop-i.invariant.each_run, c.loop-i-test.true))).low_window

pub next_window-requires-in-loop-i-clause-last : goal.next_window-requires-in-loop-i-clause-last
next_window-requires-in-loop-i-clause-last c =
    rw c.requires.ends.alike
    (c.loop-i.invariant.rest c.loop-i.i _ _ (omega arith) (omega (arith, c.loop-i.invariant.each_run, c.loop-i-test.true))).high_window

pub run_contribution-low_sum-requires-clause-room : goal.run_contribution-low_sum-requires-clause-room
run_contribution-low_sum-requires-clause-room c =
    room_part c.requires.room (run_le c.args.runs.now c.loop-i.i _ c.loop-i-test.true)

pub overflow_add-low_sum : goal.overflow_add-low_sum
overflow_add-low_sum c = record {
  fits = lt_of_le_of_lt (run_room c.args.before c.args.after (length c.args.low.now) c.args.low.now c.requires.ends.low_small c.args.runs.now
      c.loop-i.i _ c.loop-i-test.true c.requires.room.weights c.loop-i.low_sum _ c.loop-i.invariant.low
      c.run_contribution-low_sum.ensures) (omega arith);
}

pub run_contribution-high_sum-requires-clause-room : goal.run_contribution-high_sum-requires-clause-room
run_contribution-high_sum-requires-clause-room c =
    rw c.requires.ends.alike
    (room_part c.requires.room (run_le c.args.runs.now c.loop-i.i _ c.loop-i-test.true))

pub overflow_add-high_sum : goal.overflow_add-high_sum
overflow_add-high_sum c = record {
  fits = lt_of_le_of_lt (run_room c.args.before c.args.after (length c.args.low.now) c.args.high.now c.requires.ends.high_small c.args.runs.now
      c.loop-i.i _ c.loop-i-test.true c.requires.room.weights c.loop-i.high_sum _ c.loop-i.invariant.high
      (rw c.requires.ends.alike at c.run_contribution-high_sum.ensures)) (omega arith);
}

pub loop-i-preserved : goal.loop-i-preserved
loop-i-preserved c =
    let i = c.loop-i.invariant in
    let at = c.loop-i.i in
    let a = c.args.before in
    let b = c.args.after in
    let low = c.args.low.now in
    let high = c.args.high.now in
    let runs = c.args.runs.now in
    let d : Run = record { amount = 0; count = 0; weight = 0 } in
    let next : Windows = record { low = c.next_window.result; high = c.next_window-in-loop-i.result } in
    let within : at < length c.loop-i.windows = omega (arith, i.each_run, c.loop-i-test.true) in
    let here : AreWindow low high (length low) (get_or runs at d) next =
    record { low_window = c.next_window.ensures; high_window = rw (← c.requires.ends.alike) c.next_window-in-loop-i.ensures } in
    record {
      low = omega (
        arith,
        i.low,
        c.run_contribution-low_sum.ensures,
        runs_more (contribution a b low (length low)) runs at d c.loop-i-test.true,
      );
      high = omega (
        arith,
        i.high,
        rw c.requires.ends.alike at c.run_contribution-high_sum.ensures,
        runs_more (contribution a b high (length low)) runs at d c.loop-i-test.true,
      );
      moved = λ k run e l.
          placed (λ k w. AreWindow low high (length low) (get_or runs k run) w) c.loop-i.windows at next within
          (λ k e l. i.moved k run e l) (rw (get_or_default runs at run d c.loop-i-test.true) here) k e l;
      rest = λ k run e b l.
          rw (get_or-set_other c.loop-i.windows at k next e (λ q. omega (arith, b, q)))
          (i.rest k run e (omega (arith, b)) (omega (arith, rw length-set at l)));
      each_run = rw length-set i.each_run;
    }

pub returns-clause-windows : goal.returns-clause-windows
returns-clause-windows c k run d l =
    c.loop-i.invariant.moved k run d (omega (arith, l, c.loop-i.invariant.each_run, c.loop-i-test.false))
