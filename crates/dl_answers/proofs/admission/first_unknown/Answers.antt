-- An ask names a unit where its number is that of one.
use Rattle.dl_answers.proofs.Common.{arith, inl, inr, subst, get_or, cases_lt, NamesUnit}
use Rattle.dl_answers.proofs.Named.{names_there}
use Rattle.dl_answers.proofs.admission.first_unknown.Goals as goal

pub loop-i-preserved : goal.loop-i-preserved
loop-i-preserved c k d below = elim (cases_lt k c.loop-i.i) [
  | inl earlier ↦ c.loop-i.invariant k d earlier
  | inr later ↦
      subst (λ n. NamesUnit c.args.units.now (get_or c.args.asks.now n d).ask) (omega (arith, below, later))
      ((names_there c.args.units.now c.args.asks.now c.args.named.now c.loop-i.i d c.requires.named
      c.loop-i-test.true).0 (c.is_unit.ensures.0 c.if-not-is_unit.false))
]
