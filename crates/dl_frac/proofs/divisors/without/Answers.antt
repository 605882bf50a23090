-- One cut more, and the end where one of the numbers has the factor no more.
use Rattle.dl_frac.proofs.Common.{arith, refl}
use Rattle.std.proofs.lemmas.Nat.Gcd.{dvd_refl, mod-eq-zero_of_dvd}
use Rattle.dl_frac.proofs.Tens.{cut_more, cut_falls}
use Rattle.dl_frac.proofs.divisors.without.Goals as goal

pub cuts-init : goal.cuts-init
cuts-init g c = record {
  num = dvd_refl c.args.num;
  den = dvd_refl c.args.den;
  same = refl;
  above = c.requires.positive;
}

pub cuts-preserved : goal.cuts-preserved
cuts-preserved g c = cut_more g.row.P c.requires.factor c.cuts.invariant c.if-left-eq0.true c.cuts-test.true

pub cuts-smaller : goal.cuts-smaller
cuts-smaller g c = cut_falls g.row.P c.requires.factor c.cuts.invariant c.if-left-eq0.true c.cuts-test.true

pub returns-else-left-eq0-clause-apart : goal.returns-else-left-eq0-clause-apart
returns-else-left-eq0-clause-apart g c = λ a b. absurd (omega (arith, mod-eq-zero_of_dvd g.row.P a, c.if-left-eq0.false))

pub returns-after-cuts-clause-apart : goal.returns-after-cuts-clause-apart
returns-after-cuts-clause-apart g c = λ a b. absurd (omega (arith, mod-eq-zero_of_dvd g.row.P b, c.cuts-test.false))
