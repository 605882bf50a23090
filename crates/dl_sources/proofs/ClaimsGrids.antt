-- Grids over which the claims of a unit give its joint means.
use Rattle.dl_sources.proofs.Common.{IsTrue, leb_tells, ℕ, ◌≡◌, ◌^◌, ◌<◌, ◌≤◌, List, [], ◌∷◌, All-cons, All-nil, AreDeclarable, are_units, units_declared, IsUnitGrid, IsValidUnit, length, get_or, arith, sym, ap, subst, ◌∙◌, get_or-map, length-map, inl, inr, None, Iv, low_at, high_at, spread, Holds, One, Joint, partial_sums, total, GridEncloses, loss_of, aggregates_of, plan_units, Plan, IsValid, UnitOfPlan, read_unit, thinned_mean, joint_budget, Declares, IsTotalOf, leb, budget_bound, CanRaise, CanShare, IsUnbounded, gamma_unbounded, poisson_unbounded, shared_joint_budget, claims_mean, IsExtra, gamma_exact, poisson_exact, IsWholeClaimsGrid}
use Rattle.dl_grid.specs.Convolution.{IsConvolution}
use Rattle.dl_totals.proofs.Added.{alone, two_sums}
use Rattle.dl_sources.proofs.Losses.{is_independent, total_alone}
use Rattle.dl_sources.proofs.ReadAs.{unit_there}

-- a unit that was read in the units of a plan
module _ (plan : Plan) (i : ℕ) {units : List UnitOfPlan} {u : UnitOfPlan} (same : units ≡ plan.units)
    (read : u ≡ get_or units i u) (inside : i < length plan.units) {B : ℕ} (g : List (Iv B)) (cells : length g ≡ plan.cells)
    (bounded : spread g < budget_bound)
    (fits : shared_joint_budget plan.cells (spread g) (thinned_mean u) ≤ joint_budget (2 ^ B) plan i)
    (valid : IsValid plan) (none : plan.common ≡ None) where
  is : u ≡ get_or plan.units i u
  is = read_unit units plan.units i u same read

  loss_here : get_or (aggregates_of plan) i (loss_of u) ≡ loss_of u
  loss_here = get_or-map loss_of plan.units i u (loss_of u) inside ∙ ap loss_of (sym is)

  here : i < length (aggregates_of plan)
  here = omega (arith, inside, length-map plan.units loss_of)

  claims_grid : IsUnbounded u.freq
      → ((x : ℕ) → x < length g
      → Holds (partial_sums (aggregates_of plan) (Joint i x)) (partial_sums (aggregates_of plan) One)
      (claims_mean u (2 ^ B) x (low_at g)) (claims_mean u (2 ^ B) x (high_at g)))
      → IsWholeClaimsGrid plan i g
  claims_grid unbounded gives = record {
    grid = record {
      unit = u;
      is = is;
      unbounded = unbounded;
      bounded = bounded;
      within = omega (arith, cells);
      gives = λ x within. subst (λ whole. Declares whole (Joint i x) (claims_mean u (2 ^ B) x (low_at g))
          (claims_mean u (2 ^ B) x (high_at g))) (is_independent plan none) (gives x within);
      narrow = subst (λ n. shared_joint_budget n (spread g) (thinned_mean u) ≤ joint_budget (2 ^ B) plan i) (sym cells) fits;
    };
    cells = cells;
  }

  -- the grid of the total, of a Poisson unit
  pub of_total : CanShare u → IsTotalOf plan g → IsWholeClaimsGrid plan i g
  of_total shares t =
      claims_grid (poisson_unbounded u.freq shares.count) (λ x within. poisson_exact (aggregates_of plan) i x
      (plan_units plan valid) g u shares here loss_here (total_alone none t).encloses within)

  -- that with its extra claims, of a gamma unit
  pub with_extra : (extra : UnitOfPlan) → CanRaise u → IsExtra u extra → IsValidUnit plan.cells extra
      → {one t : List (Iv B)} → IsUnitGrid plan.cells extra one → IsTotalOf plan t → IsConvolution plan.cells one t g
      → IsWholeClaimsGrid plan i g
  with_extra extra raises is_extra extra_valid {one = one} {t = t} of_one whole sum =
      let declarable : AreDeclarable (loss_of extra ∷ []) =
      are_units (loss_of extra ∷ []) (units_declared plan.cells (extra ∷ [])
      (All-cons (IsValidUnit plan.cells) extra [] extra_valid (All-nil (IsValidUnit plan.cells)))) in
      let encloses : GridEncloses g (total (loss_of extra ∷ aggregates_of plan)) =
      two_sums one t g plan.cells (loss_of extra ∷ []) (aggregates_of plan) declarable (plan_units plan valid)
      (omega (arith, of_one.cells)) (omega (arith, whole.cells)) cells sum
      (alone one (loss_of extra) declarable.0 of_one.encloses) (total_alone none whole).encloses in
      claims_grid (gamma_unbounded u.freq raises.count) (λ x within. gamma_exact u extra raises
      (unit_there i same read inside valid).count is_extra g (aggregates_of plan) i x (plan_units plan valid) here loss_here
      encloses within)

-- a test that holds
pub told_le : (a b : ℕ) → IsTrue (leb a b) → a ≤ b
told_le a b holds = elim (leb_tells a b) [
  | inl within ↦ within.1
  | inr past ↦ let fails = past.0 in absurd cc
]
