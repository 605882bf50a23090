-- Units that can share a factor, and those that can have extra claims; what units that share one keep together.
use Rattle.dl_plan.proofs.Common.{IfSome, subst, Option, None, Some, true, ap, refl, ◌≡◌, ◌∙◌, Plan, Freq, Fixed, Table, Bernoulli, Binomial, Poisson, Gamma, CanShare, HasCommonFactor, IsGamma, IsPoisson, can_share, is_poisson, IsUnbounded, SharesFactor}
use Rattle.std.specs.Prelude.{Bool, false, ◌&&◌, is_none}
use Rattle.dl_exact.specs.Fraction.{Fraction}
use Rattle.dl_plan.specs.declared.plan.Unit.{Unit as UnitOfPlan}

pub poisson_unbounded : (freq : Freq) → IsPoisson freq → IsUnbounded freq
poisson_unbounded (Fixed m) h = absurd h
poisson_unbounded (Table counts total) h = absurd h
poisson_unbounded (Bernoulli q) h = absurd h
poisson_unbounded (Binomial trials q) h = absurd h
poisson_unbounded (Poisson mean) h = tt
poisson_unbounded (Gamma shape mean) h = absurd h

pub gamma_unbounded : (freq : Freq) → IsGamma freq → IsUnbounded freq
gamma_unbounded (Fixed m) h = absurd h
gamma_unbounded (Table counts total) h = absurd h
gamma_unbounded (Bernoulli q) h = absurd h
gamma_unbounded (Binomial trials q) h = absurd h
gamma_unbounded (Poisson mean) h = absurd h
gamma_unbounded (Gamma shape mean) h = tt

poisson_true : (freq : Freq) → IsPoisson freq → is_poisson freq ≡ true
poisson_true (Fixed m) h = absurd h
poisson_true (Table counts total) h = absurd h
poisson_true (Bernoulli q) h = absurd h
poisson_true (Binomial trials q) h = absurd h
poisson_true (Poisson mean) h = refl
poisson_true (Gamma shape mean) h = absurd h

true_poisson : (freq : Freq) → is_poisson freq ≡ true → IsPoisson freq
true_poisson (Fixed m) e = absurd (cc)
true_poisson (Table counts total) e = absurd (cc)
true_poisson (Bernoulli q) e = absurd (cc)
true_poisson (Binomial trials q) e = absurd (cc)
true_poisson (Poisson mean) e = tt
true_poisson (Gamma shape mean) e = absurd (cc)

true_none : {A : Type 0} (o : Option A) → is_none o ≡ true → o ≡ None
true_none None e = refl
true_none (Some x) e = absurd (cc)

true_both : (a b : Bool) → (a && b) ≡ true → (a ≡ true) × (b ≡ true)
true_both true b e = (refl, e)
true_both false b e = absurd (cc)

pub true_shares : (u : UnitOfPlan) → can_share u ≡ true → CanShare u
true_shares u e =
    let both = true_both (is_poisson u.freq) (is_none u.cede && is_none u.zero) e in
    let rest = true_both (is_none u.cede) (is_none u.zero) both.1 in record {
      count = true_poisson u.freq both.0;
      clause = true_none u.cede rest.0;
      zero = true_none u.zero rest.1;
    }

pub shares_true : (u : UnitOfPlan) → CanShare u → can_share u ≡ true
shares_true u h =
    ap (λ b. b && (is_none u.cede && is_none u.zero)) (poisson_true u.freq h.count)
    ∙ ap (λ o. is_none o && is_none u.zero) h.clause ∙ ap is_none h.zero

pub has_factor : (plan : Plan) (r : Fraction) → SharesFactor plan r → HasCommonFactor r plan.units
has_factor plan r h = subst (λ common. IfSome common (λ shape. HasCommonFactor shape plan.units)) h.shape h.valid.common
