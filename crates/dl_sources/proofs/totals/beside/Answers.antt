use Rattle.dl_sources.proofs.Common.{ℕ, arith, rules, false, IsTrue, Bool, None, IsSome, get_or, pushed_length, each_pushed}
use Rattle.dl_sources.proofs.totals.beside.Goals as goal

pub at-requires : goal.at-requires
at-requires c = omega (arith, c.loop-i-test.true, c.requires.as_many)

pub loop-i-preserved : goal.loop-i-preserved
loop-i-preserved c =
    let i = c.loop-i.invariant in record {
      as_many = pushed_length _ _ _ _ i.as_many c.in_ok-push.ensures.items;
      all = each_pushed (λ (k : ℕ) (b : Bool). IsTrue c.args.all → IsSome (get_or c.args.budgets.now.of_units.items k None)
          → IsTrue b) _ _ _ _ false i.as_many i.all c.in_ok-push.ensures.items (λ all some. search rules);
    }
