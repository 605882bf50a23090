-- All units are pooled, and nothing is refused. The one unit is that of the definition, so its plan is valid and declares
-- the same.
use Rattle.dl_pool.proofs.Common.{◌≡◌, ◌≤◌, ◌∙◌, ap, ap₂, sym, subst, subst₂, refl, length, length-map, map, take, flat_map, Bor, Gamma, UnitOfPlan, whole, ◌<ℚ◌, HasPartsOf48Bits, IsFineTo40Bits, expected_of, unit_share, shared_probabilities, lent, pooled_severity, poisson_units, has_factor}
use Rattle.dl_pool.proofs.Alone.{pooled_valid, same_declared}
use Rattle.dl_pool.proofs.Named.{first_name, all_lent, each_expected, all_expected}
use Rattle.dl_pool.proofs.Units.{none_there}
use Rattle.dl_pool.proofs.pooling.pool.Goals as goal

pub expected-requires-clause-each : goal.expected-requires-clause-each
expected-requires-clause-each c =
    each_expected c.args.plan.now c.requires.0 c.requires.1 c.as_slice-all.result.now c.as_slice-units.result.now
    (ap lent c.as_slice-all.ensures.value ∙ c.in_ok-shared.ensures.units) c.as_slice-units.ensures

pub unwrap-mean-requires : goal.unwrap-mean-requires
unwrap-mean-requires c =
    let plan = c.args.plan.now in
    let are = all_lent plan c.requires.0 c.requires.1 c.as_slice-all.result.now c.as_slice-units.result.now
    (ap lent c.as_slice-all.ensures.value ∙ c.in_ok-shared.ensures.units) c.as_slice-units.ensures in
    let many : length c.as_slice-all.result.now ≡ length plan.units =
    sym (length-map c.as_slice-all.result.now (λ (b : Bor UnitOfPlan). b.now)) ∙ ap length are in
    c.expected.ensures.there (λ k some few. subst (λ us. HasPartsOf48Bits (expected_of (take k us))) (sym are)
    ((has_factor plan c.requires.0 c.requires.1).expected k some (subst (λ n. k ≤ n) many few)))

pub mixed_severity-requires-clause-each : goal.mixed_severity-requires-clause-each
mixed_severity-requires-clause-each c =
    each_expected c.args.plan.now c.requires.0 c.requires.1 c.as_slice-all.result.now c.as_slice-units.result.now
    (ap lent c.as_slice-all.ensures.value ∙ c.in_ok-shared.ensures.units) c.as_slice-units.ensures

pub mixed_severity-requires-clause-some : goal.mixed_severity-requires-clause-some
mixed_severity-requires-clause-some c =
    let plan = c.args.plan.now in
    let are = all_lent plan c.requires.0 c.requires.1 c.as_slice-all.result.now c.as_slice-units.result.now
    (ap lent c.as_slice-all.ensures.value ∙ c.in_ok-shared.ensures.units) c.as_slice-units.ensures in
    let mean = all_expected plan.units c.as_slice-all.result.now _ c.unwrap-mean.result are c.unwrap-mean.ensures
    c.expected.ensures.value in
    subst (λ t. whole 0 <ℚ t) (sym mean) (has_factor plan c.requires.0 c.requires.1).some

pub unreachable-requires-in_default-2 : goal.unreachable-requires-in_default-2
unreachable-requires-in_default-2 c =
    let plan = c.args.plan.now in
    let are = all_lent plan c.requires.0 c.requires.1 c.as_slice-all.result.now c.as_slice-units.result.now
    (ap lent c.as_slice-all.ensures.value ∙ c.in_ok-shared.ensures.units) c.as_slice-units.ensures in
    let mean = all_expected plan.units c.as_slice-all.result.now _ c.unwrap-mean.result are c.unwrap-mean.ensures
    c.expected.ensures.value in
    let factor = has_factor plan c.requires.0 c.requires.1 in
    none_there _ c.in_default-2.is (c.in_ok-sev.ensures.there
    (subst₂ (λ v us. IsFineTo40Bits (map (unit_share v) us)) (sym mean) (sym are) factor.shares)
    (subst₂ (λ v us. IsFineTo40Bits (flat_map (shared_probabilities v) us)) (sym mean) (sym are) factor.products))

pub returns-clause-pooled : goal.returns-clause-pooled
returns-clause-pooled c r shares =
    let plan = c.args.plan.now in
    let are = all_lent plan c.requires.0 c.requires.1 c.as_slice-all.result.now c.as_slice-units.result.now
    (ap lent c.as_slice-all.ensures.value ∙ c.in_ok-shared.ensures.units) c.as_slice-units.ensures in
    let mean = all_expected plan.units c.as_slice-all.result.now _ c.unwrap-mean.result are c.unwrap-mean.ensures
    c.expected.ensures.value in
    let units = c.as_slice-units.ensures in
    let severity = rw c.in-Some-2.is at c.in_ok-sev.ensures.value in
    let shape : c.in-Some.shape ≡ r = cc in
    record {
      name = λ default. first_name plan.units c.as_slice-units.result.now c.index-units-0.result default _
          units shares.valid.some (c.in_ok-name.ensures ∙ c.as_slice.ensures);
      count = ap₂ Gamma shape mean;
      severity = λ x. severity x ∙ ap (λ us. pooled_severity (poisson_units us) x) are;
      clause = refl;
      zero = refl;
    }

pub returns-clause-valid : goal.returns-clause-valid
returns-clause-valid c = pooled_valid c.args.plan.now c.requires.0 _ c.requires.1
    (returns-clause-pooled c c.requires.0 c.requires.1)

pub returns-clause-same : goal.returns-clause-same
returns-clause-same c quantity total N = same_declared c.args.plan.now c.requires.0 c.requires.1 _
    (returns-clause-pooled c c.requires.0 c.requires.1) quantity total N
