-- The one unit in the place of units that share a factor: what its grid and its mean hold, and how wide they are.
use Rattle.dl_sources.proofs.Common.{ℕ, suc, ◌≡◌, ◌+◌, ◌*◌, ◌^◌, ◌<◌, ◌≤◌, List, [], ◌∷◌, length, get_or, arith, refl, sym, ap, subst, subst₂, ◌∙◌, mul-le-mul, pow_pos, Option, None, Some, Fraction, whole, ◌over◌, Iv, spread, low_at, high_at, Holds, One, Point, Mean, partial_sums, total, GridEncloses, mapped, aggregate_of, compound_of, loss, unit_declared, Plan, IsValid, IsValidUnit, claims_budget, total_budget, IsClaimsGrid, IsTotalOf, IsMeanOf, Loss, fun_ext, IsSome, UnitOfPlan, thinned_mean, expected_count, raised, thinned_of, probability_of, SharesFactor, ◌+ℚ◌, ◌*ℚ◌, ◌-ℚ◌, up, Quantity, CountsTotal, after_zero, declared, no_clause, encloses_same, total_mean, total_point, unit_declared_loss, HoldsClaims, count_budget, joint_by, mean_by, total_by, get_or_default, unit_budget, budget_after_zero, none_budget, after_clause, horizon, Gamma, has_factor, poisson_unbounded, pooled_thinned, pooled_valid, raised_thinned, raised_valid, same_declared, raised_budget, shape_budget, shared_joint_budget, thinned_at, shape_rises, thinned_here, common_exact, budget_bound}
use Rattle.dl_model.proofs.Outcomes.{total_alone, total_alone_all}
use Rattle.dl_pool.specs.Pooled.{IsPooled, IsRaised, alone}
use Rattle.dl_sources.proofs.SumLaws.{plain_encloses}

some_shape : (common : Option Fraction) → IsSome common → (r : Fraction) × (common ≡ Some r)
some_shape (Some r) is = (r, refl)
some_shape None is = absurd cc

-- a valid plan with some factor shares one
pub some_factor : {plan : Plan} → IsValid plan → IsSome plan.common → (r : Fraction) × SharesFactor plan r
some_factor {plan} valid is = let s = some_shape plan.common is in (s.0, record { shape = s.1; valid = valid })

gamma_claims : (S cells : ℕ) (r : Fraction) (u : UnitOfPlan) (v thinned : Fraction) → u.freq ≡ Gamma r v → thinned_mean u ≡ thinned
    → claims_budget S cells u ≡ shape_budget S cells r thinned
unfolding count_budget
gamma_claims S cells r u v thinned count is =
    ap (count_budget S cells (length u.sev.items) (thinned_mean u)) count ∙ ap (shape_budget S cells r) is

joint_narrow : (K n D E claims most : ℕ) → n ≤ K → D ≤ E → claims ≡ most → (n * D + 2) * claims + 2 ≤ (K * E + 2) * most + 2
joint_narrow K n D E claims most few less same =
    let sums : n * D + 2 ≤ K * E + 2 = omega (arith, mul-le-mul few less) in
    let under : claims ≤ most = omega (arith, same) in
    omega (arith, mul-le-mul sums under)

module _ {plan : Plan} {r : Fraction} (shares : SharesFactor plan r) (u : UnitOfPlan) where
  pub raised_unit_valid : IsRaised r plan.units u → IsValidUnit plan.cells u
  raised_unit_valid is = (raised_valid plan r u shares is).units 0 u (omega arith)

  raised_narrow : (S cells : ℕ) → IsRaised r plan.units u
      → claims_budget S cells u ≡ raised_budget S cells r plan.units
  raised_narrow S cells is =
      gamma_claims S cells (r +ℚ whole 1) u _ (raised r (thinned_of plan.units)) is.count
      (ap (λ f. expected_count f *ℚ (whole 1 -ℚ probability_of u.sev 0)) is.count
      ∙ raised_thinned plan.units (has_factor plan r shares).some u is.severity r (has_factor plan r shares).shape.above)

  plain_budget : (S : ℕ) → IsRaised r plan.units u → unit_budget S plan.cells u ≡ claims_budget S plan.cells u
  unfolding horizon
  plain_budget S is =
      ap (λ z. budget_after_zero z plan.cells (none_budget S u.freq) (after_clause u.cede (claims_budget S (horizon u.cede plan.cells) u))) is.zero
      ∙ ap (λ o. after_clause o (claims_budget S (horizon o plan.cells) u)) is.clause

  -- over the grid of the raised unit the claims of each unit give its joint means
  pub raised_claims : {B : ℕ} → IsRaised r plan.units u → {reach : ℕ} → reach ≤ plan.cells → {g : List (Iv B)}
      → length g ≡ reach → GridEncloses g (compound_of u.freq u.sev) → spread g ≤ claims_budget (2 ^ B) reach u
      → unit_budget (2 ^ B) plan.cells u < budget_bound → (i : ℕ) → i < length plan.units → IsClaimsGrid plan i g
  raised_claims {B} is {reach = reach} within {g = g} cells encloses narrow small i inside =
      let v = get_or plan.units i u in
      let here : v ≡ get_or plan.units i v = get_or_default plan.units i u v inside in
      let most : spread g ≤ raised_budget (2 ^ B) plan.cells r plan.units = omega (
        arith,
        narrow,
        raised_narrow (2 ^ B) reach is,
        shape_rises (2 ^ B) reach plan.cells (r +ℚ whole 1) (raised r (thinned_of plan.units)) (pow_pos B) within,
      ) in record {
        unit = v;
        is = here;
        unbounded = poisson_unbounded v.freq ((has_factor plan r shares).can_share i u inside).count;
        bounded = omega (arith, most, raised_narrow (2 ^ B) plan.cells is, plain_budget (2 ^ B) is, small);
        within = omega (arith, cells, within);
        gives = λ x near. common_exact g plan i x u v near r shares inside (sym here) is encloses;
        narrow = subst (λ b. shared_joint_budget (length g) (spread g) (thinned_mean v) ≤ b)
            (ap (λ o. joint_by o (2 ^ B) plan i) (sym shares.shape))
            (joint_narrow plan.cells (length g) (spread g) (raised_budget (2 ^ B) plan.cells r plan.units)
            (up (thinned_mean v)) (up (thinned_at plan.units i)) (omega (arith, cells, within)) most
            (ap up (thinned_here plan.units i v inside here)));
      }

  module _ (is : IsPooled r plan.units u) where
    pub pooled_unit_valid : IsValidUnit plan.cells u
    pooled_unit_valid = (pooled_valid plan r u shares is).units 0 u (omega arith)

    declares : (quantity : Quantity) → CountsTotal quantity → declared (alone plan u) quantity ≡ declared plan quantity
    declares quantity total = fun_ext (λ N. same_declared plan r shares u is quantity total N)

    -- as the one loss of its plan
    one_loss : loss (aggregate_of u) ∷ [] ≡ after_zero u.zero (aggregate_of u) ∷ []
    one_loss = ap (λ o. after_zero o (aggregate_of u) ∷ []) (sym is.zero)

    alone_encloses : {B : ℕ} (g : List (Iv B)) → GridEncloses g (compound_of u.freq u.sev)
        → GridEncloses g (total (loss (aggregate_of u) ∷ []))
    alone_encloses {B} g encloses =
        let of_loss = (unit_declared_loss (aggregate_of u) (unit_declared plan.cells u pooled_unit_valid)).loss in
        encloses_same (2 ^ B) (length g) (low_at g) (high_at g) (mapped (aggregate_of u))
        (total (loss (aggregate_of u) ∷ []))
        (λ x N. sym (total_alone (loss (aggregate_of u)) of_loss x N))
        (λ N. sym (total_alone_all (loss (aggregate_of u)) of_loss N))
        (plain_encloses g pooled_unit_valid is.clause encloses)

    pooled_narrow : (S : ℕ) → claims_budget S plan.cells u ≡ total_budget S plan
    pooled_narrow S =
        gamma_claims S plan.cells r u _ (thinned_of plan.units) is.count
        (ap (λ f. expected_count f *ℚ (whole 1 -ℚ probability_of u.sev 0)) is.count
        ∙ pooled_thinned plan.units (has_factor plan r shares).some u is.severity)
        ∙ ap (λ o. total_by o S plan.cells plan.units) (sym shares.shape)

    pub pooled_total : {B : ℕ} {g : List (Iv B)} → length g ≡ plan.cells
        → GridEncloses g (compound_of u.freq u.sev) → spread g ≤ claims_budget (2 ^ B) plan.cells u → IsTotalOf plan g
    pooled_total {B} {g = g} cells encloses narrow = record {
      cells = cells;
      encloses = λ x inside. subst₂ (λ Q O. Holds Q O (low_at g x over 2 ^ B) (high_at g x over 2 ^ B))
          (declares (Point x) (total_point x)) (declares One (λ ys. refl))
          (subst (λ us. GridEncloses g (total us)) one_loss (alone_encloses g encloses) x inside);
      narrow = subst (λ b. spread g ≤ b) (pooled_narrow (2 ^ B)) narrow;
    }

    pub pooled_is_mean : {B : ℕ} {mean : Iv B} → HoldsClaims u mean → mean.hi ≤ mean.lo + 1 → IsMeanOf plan mean
    pooled_is_mean {B} {mean = mean} holds narrow = record {
      holds = subst₂ (λ Q O. Holds Q O (mean.lo over 2 ^ B) (mean.hi over 2 ^ B)) (declares Mean total_mean)
          (declares One (λ ys. refl)) (subst (λ us. HoldsOf us) one_loss
          (subst (λ a. HoldsOf (loss a ∷ [])) (sym (no_clause u is.clause)) holds));
      narrow = subst (λ b. mean.hi ≤ mean.lo + b) (ap (λ o. mean_by o (2 ^ B) plan.cells plan.units) (sym shares.shape)) narrow;
    }
      where
        HoldsOf : List Loss → Type 0
        HoldsOf us = Holds (partial_sums us Mean) (partial_sums us One) (mean.lo over 2 ^ B) (mean.hi over 2 ^ B)
