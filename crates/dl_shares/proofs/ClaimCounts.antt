-- Units whose claims have no greatest number.
use Rattle.dl_shares.proofs.Common.{ℕ, UnitOfPlan, Freq, Fixed, Table, Bernoulli, Binomial, Poisson, Gamma, HasClaims, IsPoissonOrGamma}
use Rattle.dl_plan.specs.Prelude.{IsClaimCount, IsUnbounded, IsValidUnit}

pub counted : (freq : Freq) → IsPoissonOrGamma freq → IsClaimCount freq
counted (Fixed m) h = absurd h
counted (Table counts total) h = absurd h
counted (Bernoulli q) h = absurd h
counted (Binomial trials q) h = absurd h
counted (Poisson mean) h = tt
counted (Gamma shape mean) h = h

told : (freq : Freq) → IsUnbounded freq → IsClaimCount freq → IsPoissonOrGamma freq
told (Fixed m) h count = absurd h
told (Table counts total) h count = absurd h
told (Bernoulli q) h count = absurd h
told (Binomial trials q) h count = absurd h
told (Poisson mean) h count = tt
told (Gamma shape mean) h count = count

pub has_claims : (cells : ℕ) (u : UnitOfPlan) → IsValidUnit cells u → IsUnbounded u.freq → HasClaims u
has_claims cells u valid unbounded = record {
  count = told u.freq unbounded valid.count;
  expected = valid.expected;
  thinned = (valid.thinned unbounded).0;
}
