use Rattle.dl_cert.proofs.Common.{◌∙◌, subst, sym, arith, whole, le_refl, whole_num, whole_den, IsProbability, IsBaseOf}
use Rattle.dl_cert.proofs.UnitBases.{fixed_is, bernoulli_is, binomial_is}
use Rattle.dl_cert.proofs.units.base_of.Goals as goal

sure : IsProbability (whole 1)
sure = record {
  within = le_refl (whole 1);
  admitted = record { num = omega (arith, whole_num 1); den = omega (arith, whole_den 1) };
}

pub trial-requires : goal.trial-requires
trial-requires c = subst IsProbability (sym c.whole.ensures) sure

pub returns-in-Fixed : goal.returns-in-Fixed
returns-in-Fixed c =
    let h = c.trial.ensures in
    subst (IsBaseOf c.args.unit.now) (sym h.1) (fixed_is c.in-Fixed.is (h.2 ∙ c.whole.ensures))

pub returns-in-Bernoulli : goal.returns-in-Bernoulli
returns-in-Bernoulli c =
    let h = c.trial-in-Bernoulli.ensures in
    subst (IsBaseOf c.args.unit.now) (sym h.1) (bernoulli_is c.in-Bernoulli.is h.2)

pub returns-in-Binomial : goal.returns-in-Binomial
returns-in-Binomial c =
    let h = c.trial-in-Binomial.ensures in
    subst (IsBaseOf c.args.unit.now) (sym h.1) (binomial_is c.in-Binomial.is h.2)
