use Rattle.std.proofs.lemmas.Grind.{common_steps}
use Rattle.dl_recursion.proofs.Common.{arith, Run}
use Rattle.dl_recursion.proofs.Runs.{runs_within, weights_more, weights_more_le}
use Rattle.dl_recursion.proofs.rest.reach_together.Goals as goal

-- what is read past the end of the runs
abbrev no_run : Run
no_run = record { amount = 0; count = 0; weight = 0 }

pub overflow_mul-weight : goal.overflow_mul-weight
overflow_mul-weight c =
    let fits = weights_more_le c.args.runs.now c.loop-run.run-index no_run c.loop-run-test.true in
    omega (arith, c.requires.room, fits)

pub overflow_add-weight : goal.overflow_add-weight
overflow_add-weight c =
    let fits = weights_more_le c.args.runs.now c.loop-run.run-index no_run c.loop-run-test.true in
    omega (arith, c.requires.room, c.loop-run.invariant.weight, fits)

pub loop-run-preserved : goal.loop-run-preserved
loop-run-preserved c =
    let i = c.loop-run.invariant in
    let more = weights_more c.args.runs.now c.loop-run.run-index no_run c.loop-run-test.true in
    record {
      amount = runs_within c.max-amount.result c.args.runs.now c.loop-run.run-index no_run c.loop-run-test.true
          (λ k e l. grind (arith, common_steps, i.amount k e l, c.max-amount.ensures))
          (grind (arith, common_steps, c.max-amount.ensures));
      weight = omega (arith, i.weight, more);
    }
