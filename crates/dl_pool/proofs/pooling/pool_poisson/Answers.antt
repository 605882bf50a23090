-- The one unit is within the bounds of a valid one, and it is there where the sums of the units keep them.
use Rattle.dl_pool.proofs.Common.{◌≡◌, ◌∙◌, ap, sym, subst, refl, arith, length-map, None, [], whole, ◌-ℚ◌, ◌*ℚ◌, ◌≤ℚ◌, get_or-map, Bor, Poisson, UnitOfPlan, HasPartsOf48Bits, probability_of, expected_of, lent, most_expected}
use Rattle.dl_pool.proofs.Alone.{mixed_valid, pooled_thinned, whole_list}
use Rattle.dl_pool.proofs.Named.{first_name}
use Rattle.dl_pool.proofs.Units.{lent_inside}
use Rattle.dl_pool.proofs.pooling.pool_poisson.Goals as goal

pub returns-clause-valid : goal.returns-clause-valid
returns-clause-valid c cells each =
    let units = c.args.units.now in
    let severity = rw c.in-Some-2.is at c.in_ok-sev.ensures.value in
    mixed_valid cells (lent units) (Poisson c.in-Some.mean) _ each (record {
      name = λ default. first_name (lent units) (lent units) c.index-units-0.result.now default _ refl
          (lent_inside units 0 (omega (arith, c.requires.some)))
          (c.in_ok-name.ensures ∙ c.as_slice.ensures ∙ ap (λ (u : UnitOfPlan). u.name)
          (sym (get_or-map (λ (b : Bor UnitOfPlan). b.now) units 0 c.index-units-0.result c.index-units-0.result.now
          (omega (arith, c.requires.some)))));
      count = refl;
      severity = severity;
      clause = refl;
      zero = refl;
    }) tt tt (c.if-not-are_admitted.ensures.claims refl) (c.if-not-are_admitted.ensures.above refl)
    (c.if-not-are_admitted.ensures.few refl) tt

pub returns-then-not-are_admitted-clause-there : goal.returns-then-not-are_admitted-clause-there
returns-then-not-are_admitted-clause-there c sum =
    let units = lent c.args.units.now in
    let sev = c.in-Some-2.sev in
    let mean : c.in-Some.mean ≡ expected_of units = c.in-Some.ensures.value in
    let made : UnitOfPlan = record { name = []; sev = sev; freq = Poisson c.in-Some.mean; cede = None; zero = None } in
    let above = ap (λ t. t *ℚ (whole 1 -ℚ probability_of sev 0)) mean
    ∙ pooled_thinned units sum.some made (rw c.in-Some-2.is at c.in_ok-sev.ensures.value) in
    c.if-not-are_admitted.ensures.there
    (subst HasPartsOf48Bits (sym mean) (whole_list HasPartsOf48Bits expected_of units
    (omega (arith, c.requires.some, length-map c.args.units.now (λ (b : Bor UnitOfPlan). b.now))) sum.expected))
    (subst HasPartsOf48Bits (sym above) sum.thinned)
    (subst (λ t. t ≤ℚ whole most_expected) (sym above) sum.few)
