-- What is drawn of units under a common factor.
use Rattle.dl_sources.proofs.Common.{ℕ, ◌≡◌, ◌<◌, List, [], ◌∷◌, length, get_or, map, arith, refl, ap, ◌∙◌, Any, Bool, false, IsTrue, Option, None, Some, IsSome, Iv, Plan, Gives, IsClaimsGrid, IsOriginOf, IsTotalOf, get_or-map, any_here, UnitBudgets, Drawn, Nowhere, AreFactorGrids, ReachNamed, factor_origin}

pub one_grid : {B : ℕ} {plan : Plan} {n : ℕ} {grids : List (List (Iv B))} {t : List (Iv B)} → IsTotalOf plan t
    → grids ≡ t ∷ [] → AreFactorGrids plan false n grids
one_grid total same = rw same (record {
  some = omega arith;
  total = total;
  there = λ is. absurd (cc);
  each = λ is i inside. absurd (cc);
  reach = λ is. absurd (cc);
})

pub two_grids : {B : ℕ} {plan : Plan} {named : Bool} {n : ℕ} {grids : List (List (Iv B))} {t g : List (Iv B)} → IsTotalOf plan t
    → ((i : ℕ) → i < length plan.units → IsClaimsGrid plan i g) → length g ≡ n → grids ≡ t ∷ g ∷ []
    → AreFactorGrids plan named n grids
two_grids total each reach same = rw same (record {
  some = omega arith;
  total = total;
  there = λ is. omega arith;
  each = λ is. each;
  reach = λ is. reach;
})

module _ {B : ℕ} {plan : Plan} {named : Bool} {n : ℕ} (budgets : List (Option UnitBudgets)) (drawn : Drawn B)
    (grids : AreFactorGrids plan named n drawn.grids.items) (some : Any (λ of. IsSome of) budgets → IsTrue named)
    (same : drawn.origins.items ≡ map (factor_origin {B = B}) budgets) (many : length budgets ≡ length plan.units) where
  here : (i : ℕ) → i < length plan.units → get_or drawn.origins.items i Nowhere ≡ factor_origin (get_or budgets i None)
  here i inside = ap (λ t. get_or t i Nowhere) same
      ∙ get_or-map (factor_origin {B = B}) budgets i None Nowhere (omega (arith, inside, many))

  is_named : (i : ℕ) → i < length plan.units → IsSome (get_or budgets i None) → IsTrue named
  is_named i inside is = some (any_here (λ (of : Option UnitBudgets). IsSome of) budgets i None (omega (arith, inside, many)) is)

  origin_by : (i : ℕ) → i < length plan.units → (of : Option UnitBudgets) → (IsSome of → IsTrue named)
      → IsOriginOf plan drawn i (factor_origin of)
  origin_by i inside None is = tt
  origin_by i inside (Some b) is = record { there = grids.there (is refl); grid = grids.each (is refl) i inside }

  gives_by : (of : Option UnitBudgets) → IsSome of → IsTrue named → Gives drawn n (factor_origin of)
  gives_by None some is = absurd (cc)
  gives_by (Some b) some is = omega (arith, grids.reach is)

  pub factor_drawn : (i : ℕ) → i < length plan.units → IsOriginOf plan drawn i (get_or drawn.origins.items i Nowhere)
  factor_drawn i inside = rw (here i inside) (origin_by i inside (get_or budgets i None) (is_named i inside))

  pub factor_reached : ReachNamed plan budgets n drawn
  factor_reached = record {
    each = λ i inside is. rw (here i inside) (gives_by (get_or budgets i None) is (is_named i inside is));
  }
