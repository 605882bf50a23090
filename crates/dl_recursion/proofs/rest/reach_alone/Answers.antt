use Rattle.dl_recursion.proofs.Common.{◌≤◌, arith, sum_by_more, Part}
use Rattle.std.proofs.lemmas.Grind.{common_steps}
use Rattle.std.proofs.lemmas.List.Elements.{All-more}
use Rattle.dl_recursion.proofs.rest.reach_alone.Goals as goal

pub loop-part-preserved : goal.loop-part-preserved
loop-part-preserved c =
    let i = c.loop-part.invariant in
    let n = c.loop-part.part-index in
    let parts = c.args.parts.now in
    let p : Part = record { amount = 0; weight = 0 } in
    record {
      amount = All-more (λ (p : Part). p.amount ≤ c.max-amount.result) parts n p c.loop-part-test.true
          (λ k d q. grind (arith, common_steps, i.amount k d q, c.max-amount.ensures))
          (grind (arith, common_steps, c.max-amount.ensures));
      weight = omega (arith, i.weight, sum_by_more (λ (p : Part). p.weight) parts n p c.loop-part-test.true);
    }
