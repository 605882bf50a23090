-- The total of a plan where one Poisson unit stands for several: the order in which units are added up is of no account.
use Rattle.dl_sources.proofs.Common.{ℕ, ◌≡◌, ◌^◌, List, [], ◌∷◌, ◌++◌, length, map, arith, refl, sym, ap, subst, ◌∙◌, All, Loss, AreDeclarable, total, GridEncloses, Fraction, ◌*ℚ◌, Iv, low_at, high_at, loss_of, encloses_same, AreUnitGrids, IsValid, IsValidUnit, UnitOfPlan, Plan, None, Some, Option, IfSome, IsTotalOf, ◌≤◌, spread, total_budget, All-append, All-cons, All-nil, are_units, units_declared, plan_units, length-map, fun_ext, filter, times_left_comm, convolve, IsPoissonSum, IsLoss, convolve_comm, convolve_assoc, total_more, total_more_all, map-append, All-filter, can_share, same_cells_enclosed, poisson_among, EncloseEach, rest_of, IsPooledFor}
use Rattle.std.proofs.Common.{Bool, true, false, not, cond}
use Rattle.dl_sources.proofs.Losses.{is_independent}
use Rattle.dl_sources.proofs.SumLaws.{each_encloses}

-- ---- the order is of no account

-- what is built up loss by loss, in any order
module _ {X : Type 0} (f : List Loss → X) (op : Loss → X → X)
    (more : (u : Loss) (us : List Loss) → IsLoss u → f (u ∷ us) ≡ op u (f us))
    (swap : (u v : Loss) (x : X) → op u (op v x) ≡ op v (op u x)) where
  moved : (A : List Loss) (u : Loss) (D : List Loss) → AreDeclarable A → IsLoss u → f (A ++ u ∷ D) ≡ op u (f (A ++ D))
  moved [] u D w h = more u D h
  moved (a ∷ A) u D w h =
      more a (A ++ u ∷ D) w.0 ∙ ap (op a) (moved A u D w.1 h) ∙ swap a u _ ∙ ap (op u) (sym (more a (A ++ D) w.0))

  module _ (p : UnitOfPlan → Bool) where
    abbrev kept : List UnitOfPlan → List Loss
    kept us = map loss_of (filter (λ u. not (p u)) us)

    abbrev picked : List UnitOfPlan → List Loss
    picked us = map loss_of (filter p us)

    kept_declarable : (us : List UnitOfPlan) → AreDeclarable (map loss_of us) → AreDeclarable (kept us)
    kept_declarable [] w = tt
    kept_declarable (u ∷ us) w = step (not (p u)) (kept_declarable us w.1)
      where
        step : (b : Bool) → AreDeclarable (kept us)
            → AreDeclarable (map loss_of (cond b (u ∷ filter (λ u. not (p u)) us) (filter (λ u. not (p u)) us)))
        step true rest = (w.0, rest)
        step false rest = rest

    parted : (us : List UnitOfPlan) → AreDeclarable (map loss_of us) → f (kept us ++ picked us) ≡ f (map loss_of us)
    parted [] w = refl
    parted (u ∷ us) w = step (p u) (parted us w.1)
      where
        step : (b : Bool) → f (kept us ++ picked us) ≡ f (map loss_of us)
            → f (map loss_of (cond (not b) (u ∷ filter (λ u. not (p u)) us) (filter (λ u. not (p u)) us))
            ++ map loss_of (cond b (u ∷ filter p us) (filter p us))) ≡ f (loss_of u ∷ map loss_of us)
        step true rest =
            moved (kept us) (loss_of u) (picked us) (kept_declarable us w.1) w.0 ∙ ap (op (loss_of u)) rest
            ∙ sym (more (loss_of u) (map loss_of us) w.0)
        step false rest =
            more (loss_of u) (kept us ++ picked us) w.0 ∙ ap (op (loss_of u)) rest
            ∙ sym (more (loss_of u) (map loss_of us) w.0)

convolve_swap : (f g h : ℕ → Fraction) → convolve f (convolve g h) ≡ convolve g (convolve f h)
convolve_swap f g h = sym (convolve_assoc f g h) ∙ ap (λ t. convolve t h) (convolve_comm f g) ∙ convolve_assoc g f h

pub parted_encloses : {B : ℕ} (g : List (Iv B)) (p : UnitOfPlan → Bool) (us : List UnitOfPlan)
    → AreDeclarable (map loss_of us)
    → GridEncloses g (total (map loss_of (filter (λ u. not (p u)) us) ++ map loss_of (filter p us)))
    → GridEncloses g (total (map loss_of us))
parted_encloses {B} g p us w =
    encloses_same (2 ^ B) (length g) (low_at g) (high_at g) _ _
    (λ y N. ap (λ t. t y) (parted (λ ls. λ x. (total ls).cells x N) (λ u t. convolve (λ x. u.family.cells x N) t)
    (λ u ls h. fun_ext (λ x. total_more u ls h x N)) (λ u v t. convolve_swap _ _ t) p us w))
    (λ N. parted (λ ls. (total ls).all N) (λ u t. u.family.all N *ℚ t) (λ u ls h. total_more_all u ls h N)
    (λ u v t. times_left_comm _ _ t) p us w)

-- ---- one unit for those that can be pooled

module _ {plan : Plan} (valid : IsValid plan) (units : List UnitOfPlan) (same : units ≡ filter can_share plan.units) where
  pub shared_valid : All (IsValidUnit plan.cells) units
  shared_valid = subst (All (IsValidUnit plan.cells)) (sym same)
      (All-filter can_share (IsValidUnit plan.cells) plan.units valid.units)

  pub is_pooled_for : (made : Option UnitOfPlan) → IfSome made (IsPoissonSum units)
      → IfSome made (λ unit. (cells : ℕ) → All (IsValidUnit cells) units → IsValidUnit cells unit)
      → IfSome made (IsPooledFor plan)
  is_pooled_for None sum each = tt
  is_pooled_for (Some made) sum each = record {
    sum = subst (λ us. IsPoissonSum us made) same sum;
    valid = each plan.cells shared_valid;
  }

-- ---- the total

rest_valid : {plan : Plan} → IsValid plan → All (IsValidUnit plan.cells) (rest_of plan.units)
rest_valid {plan = plan} valid = All-filter (λ u. not (can_share u)) (IsValidUnit plan.cells) plan.units valid.units

-- the sum of these encloses the total
pub is_total_among : {B : ℕ} {plan : Plan} {g : List (Iv B)} (made : UnitOfPlan)
    → IsValid plan → plan.common ≡ None → IsPooledFor plan made
    → length g ≡ plan.cells
    → GridEncloses g (total (map loss_of (rest_of plan.units ++ made ∷ [])))
    → spread g ≤ total_budget (2 ^ B) plan → IsTotalOf plan g
is_total_among {B} {plan = plan} {g = g} made valid none pooled cells enclosed narrow =
    subst (λ whole. IsTotalOf whole g) (is_independent plan none) (record {
      cells = cells;
      encloses = parted_encloses g can_share plan.units (plan_units plan valid) beside;
      narrow = subst (λ whole. spread g ≤ total_budget (2 ^ B) whole) (sym (is_independent plan none)) narrow;
    })
  where
    rest : List UnitOfPlan
    rest = rest_of plan.units

    beside : GridEncloses g (total (map loss_of rest ++ map loss_of (filter can_share plan.units)))
    beside = same_cells_enclosed (2 ^ B) (length g) (low_at g) (high_at g) _ _
        (poisson_among (filter can_share plan.units) made pooled.sum (map loss_of rest)
        (are_units _ (units_declared plan.cells rest (rest_valid valid))))
        (subst (λ ls. GridEncloses g (total ls)) (map-append loss_of rest (made ∷ [])) enclosed)

-- the same of the grids of these units
pub is_total_together : {B : ℕ} {plan : Plan} {grids : List (List (Iv B))} {g : List (Iv B)} (made : UnitOfPlan)
    → IsValid plan → plan.common ≡ None → IsPooledFor plan made
    → AreUnitGrids plan.cells (rest_of plan.units ++ made ∷ []) grids
    → length g ≡ plan.cells
    → ((us : List Loss) → AreDeclarable us → EncloseEach grids us → GridEncloses g (total us))
    → spread g ≤ total_budget (2 ^ B) plan → IsTotalOf plan g
is_total_together {B} {plan = plan} {grids = grids} {g = g} made valid none pooled each cells encloses narrow =
    is_total_among made valid none pooled cells enclosed narrow
  where
    all : List UnitOfPlan
    all = rest_of plan.units ++ made ∷ []

    all_valid : All (IsValidUnit plan.cells) all
    all_valid = All-append (IsValidUnit plan.cells) (rest_of plan.units) (made ∷ []) (rest_valid valid)
        (All-cons (IsValidUnit plan.cells) made [] pooled.valid (All-nil (IsValidUnit plan.cells)))

    enclosed : GridEncloses g (total (map loss_of all))
    enclosed = encloses (map loss_of all) (are_units _ (units_declared plan.cells all all_valid)) (record {
      as_many = each.as_many ∙ sym (length-map all loss_of);
      each = λ i inside. each_encloses plan.cells all grids i (omega (arith, inside, each.as_many)) each;
    })
