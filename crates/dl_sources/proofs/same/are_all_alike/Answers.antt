use Rattle.dl_sources.proofs.Common.{arith}
use Rattle.dl_sources.proofs.AlikeLaws.{first_like, next_like}
use Rattle.dl_sources.proofs.same.are_all_alike.Goals as goal

pub loop-i-init : goal.loop-i-init
loop-i-init c = record {
  some = omega arith;
  alike = λ k d u within. first_like c.args.units.now k d u c.requires.some within;
}

pub loop-i-preserved : goal.loop-i-preserved
loop-i-preserved c = record {
  some = omega arith;
  alike = λ k d u within. next_like c.args.units.now c.loop-i.i k d u c.index-units-0.result c.index-units-i.result
      c.loop-i.invariant.alike c.index-units-0.is c.index-units-i.is c.loop-i-test.true
      (c.are_alike.ensures.0 c.if-not-are_alike.false) within;
}

pub returns-clause-alike : goal.returns-clause-alike
returns-clause-alike c told u k d inside = c.loop-i.invariant.alike k d u (omega (arith, inside))
