-- The grid of a total, from those of its units.
use Rattle.dl_sources.proofs.Common.{ℕ, zero, suc, ◌≡◌, ◌^◌, ◌<◌, ◌≤◌, List, [], ◌∷◌, length, get_or, map, arith, refl, sym, ap, subst, subst₂, ◌∙◌, Option, None, All, pow_pos, length-map, get_or_default, Iv, spread, low_at, high_at, convolution_spread, cv_rises, mapped, GridEncloses, unit_of, outcome_after, aggregate_of, aggregates_of, compound_of, unit_declared, plan_units, Plan, IsValidUnit, IsValid, unit_budget, unit_budgets, IsTotal, AreSumsWithout, AreUnitGrids, IsTotalOf, AreOthersOf, loss_of, IfSome_then, Bool, fold, remove, get_or-map, sum_budget, sum_spread, encloses_same, UnitOfPlan, budgets_length, budget_here, IsSumWithout, independent, unit_plain, EncloseEach, AreOthers}
use Rattle.dl_sources.proofs.Losses.{is_independent}

-- ---- what the grids enclose

unit_there : (us : List UnitOfPlan) (i : ℕ) (u : UnitOfPlan) → i < length us
    → unit_of (map loss_of us) i ≡ (loss_of (get_or us i u)).family
unit_there [] i u inside = absurd (omega (arith, inside))
unit_there (v ∷ us) zero u inside = refl
unit_there (v ∷ us) (suc i) u inside = unit_there us i u (omega (arith, inside))

pub plain_encloses : {B : ℕ} (g : List (Iv B)) {cells : ℕ} {u : UnitOfPlan} → IsValidUnit cells u → u.cede ≡ None
    → GridEncloses g (compound_of u.freq u.sev) → GridEncloses g (mapped (aggregate_of u))
plain_encloses {B} g {cells = cells} {u = u} valid none encloses =
    encloses_same (2 ^ B) (length g) (low_at g) (high_at g) (compound_of u.freq u.sev) (mapped (aggregate_of u))
    (λ y N. sym (unit_plain (aggregate_of u) (unit_declared cells u valid).unit
    (λ s. ap (λ c. outcome_after c s) none) y N)) (λ N. refl) encloses

pub each_encloses : {B : ℕ} (cells : ℕ) (us : List UnitOfPlan) (grids : List (List (Iv B))) (i : ℕ) → i < length us
    → AreUnitGrids cells us grids
    → GridEncloses (get_or grids i []) (unit_of (map loss_of us) i)
each_encloses cells [] grids i inside each = absurd (omega (arith, inside))
each_encloses cells (u ∷ us) grids i inside each =
    subst (λ F. GridEncloses (get_or grids i []) F) (sym (unit_there (u ∷ us) i u inside))
    (each.each i u inside).encloses

pub each_cells : {B : ℕ} (cells : ℕ) (us : List UnitOfPlan) (grids : List (List (Iv B))) (g : List (Iv B)) (i : ℕ)
    → g ≡ get_or grids i [] → i < length us → AreUnitGrids cells us grids
    → length g ≡ cells
each_cells cells [] grids g i is inside each = absurd (omega (arith, inside))
each_cells cells (u ∷ us) grids g i is inside each = ap (λ t. length t) is ∙ (each.each i u inside).cells

enclose_each : {B : ℕ} (plan : Plan) {grids : List (List (Iv B))} → AreUnitGrids plan.cells plan.units grids
    → EncloseEach grids (aggregates_of plan)
enclose_each plan {grids = grids} each = record {
  as_many = each.as_many ∙ sym (length-map plan.units loss_of);
  each = λ i inside. each_encloses plan.cells plan.units grids i (omega (arith, inside, each.as_many)) each;
}

-- ---- how wide they are

map_remove : {A R : Type 0} (f : A → R) (xs : List A) (i : ℕ) → map f (remove xs i) ≡ remove (map f xs) i
map_remove f [] zero = refl
map_remove f [] (suc i) = refl
map_remove f (x ∷ xs) zero = refl
map_remove f (x ∷ xs) (suc i) = ap (λ t. f x ∷ t) (map_remove f xs i)

remove_none : (i : ℕ) → remove {X = ℕ} [] i ≡ []
remove_none zero = refl
remove_none (suc i) = refl

-- as many numbers, none of them more
record AreNoMore (xs ys : List ℕ) : Type 0 where
  as_many : length xs ≡ length ys
  each : (i : ℕ) → i < length xs → get_or xs i 0 ≤ get_or ys i 0

later_no_more : (x y : ℕ) (xs ys : List ℕ) → AreNoMore (x ∷ xs) (y ∷ ys) → AreNoMore xs ys
later_no_more x y xs ys h = record {
  as_many = omega (arith, h.as_many);
  each = λ i inside.
      h.each (suc i) (omega (arith, inside));
}

one_no_more : (x y : ℕ) (xs ys : List ℕ) → x ≤ y → AreNoMore xs ys → AreNoMore (x ∷ xs) (y ∷ ys)
one_no_more x y xs ys first h = record { as_many = omega (arith, h.as_many); each = each }
  where
    each : (i : ℕ) → i < suc (length xs) → get_or (x ∷ xs) i 0 ≤ get_or (y ∷ ys) i 0
    each zero inside = first
    each (suc i) inside = h.each i (omega (arith, inside))

removed_no_more : (i : ℕ) (xs ys : List ℕ) → AreNoMore xs ys → AreNoMore (remove xs i) (remove ys i)
removed_no_more i [] [] h = subst₂ AreNoMore (sym (remove_none i)) (sym (remove_none i)) h
removed_no_more i [] (y ∷ ys) h = absurd (omega (arith, h.as_many))
removed_no_more i (x ∷ xs) [] h = absurd (omega (arith, h.as_many))
removed_no_more zero (x ∷ xs) (y ∷ ys) h = later_no_more x y xs ys h
removed_no_more (suc i) (x ∷ xs) (y ∷ ys) h = one_no_more x y (remove xs i) (remove ys i) (h.each 0 (omega arith))
    (removed_no_more i xs ys (later_no_more x y xs ys h))

folds_rise : (S k x y : ℕ) (xs ys : List ℕ) → 0 < S → x ≤ y → AreNoMore xs ys
    → fold (convolution_spread S k) x xs ≤ fold (convolution_spread S k) y ys
folds_rise S k x y [] [] pos start h = start
folds_rise S k x y [] (b ∷ ys) pos start h = absurd (omega (arith, h.as_many))
folds_rise S k x y (a ∷ xs) [] pos start h = absurd (omega (arith, h.as_many))
folds_rise S k x y (a ∷ xs) (b ∷ ys) pos start h =
    folds_rise S k (convolution_spread S k x a) (convolution_spread S k y b) xs ys pos
    (cv_rises S k k x y a b pos (omega arith) start (h.each 0 (omega arith))) (later_no_more a b xs ys h)

sums_rise : (S k : ℕ) (xs ys : List ℕ) → 0 < S → AreNoMore xs ys → sum_spread S k xs ≤ sum_budget S k ys
sums_rise S k [] [] pos h = omega arith
sums_rise S k [] (b ∷ ys) pos h = absurd (omega (arith, h.as_many))
sums_rise S k (a ∷ xs) [] pos h = absurd (omega (arith, h.as_many))
sums_rise S k (a ∷ xs) (b ∷ ys) pos h = folds_rise S k a b xs ys pos (h.each 0 (omega arith))
    (later_no_more a b xs ys h)

-- the grid of a unit stays within its budget
pub unit_narrow : {B : ℕ} (cells : ℕ) (us : List UnitOfPlan) (grids : List (List (Iv B))) (i : ℕ) → i < length us
    → AreUnitGrids cells us grids
    → spread (get_or grids i []) ≤ get_or (unit_budgets (2 ^ B) cells us) i 0
unit_narrow {B} cells [] grids i inside each = absurd (omega (arith, inside))
unit_narrow {B} cells (u ∷ us) grids i inside each =
    let v : UnitOfPlan = get_or (u ∷ us) i u in
    let same : unit_budget (2 ^ B) cells v ≡ get_or (unit_budgets (2 ^ B) cells (u ∷ us)) i 0 =
    budget_here (2 ^ B) cells (u ∷ us) i (unit_budget (2 ^ B) cells v) v inside
    (get_or_default (u ∷ us) i u v inside) refl in
    omega (arith, (each.each i u inside).narrow, same)

each_narrow : {B : ℕ} (plan : Plan) {grids : List (List (Iv B))} → AreUnitGrids plan.cells plan.units grids
    → AreNoMore (map spread grids) (unit_budgets (2 ^ B) plan.cells plan.units)
each_narrow {B} plan {grids = grids} each = record {
  as_many = length-map grids spread ∙ each.as_many ∙ sym (budgets_length (2 ^ B) plan.cells plan.units);
  each = λ i inside.
      let there : i < length grids = omega (arith, inside, length-map grids spread) in
      omega (
        arith,
        get_or-map spread grids i [] 0 there,
        unit_narrow plan.cells plan.units grids i (omega (arith, there, each.as_many)) each,
      );
}

-- ---- the total

pub is_total : {B : ℕ} {plan : Plan} {grids : List (List (Iv B))} {g : List (Iv B)} → IsValid plan
    → plan.common ≡ None → AreUnitGrids plan.cells plan.units grids
    → IsTotal plan.cells grids g → IsTotalOf plan g
is_total {B} {plan = plan} {g = g} valid none each sum = subst (λ whole. IsTotalOf whole g) (is_independent plan none) alone
  where
    alone : IsTotalOf (independent plan) g
    alone = record {
      cells = sum.cells;
      encloses = sum.encloses (aggregates_of plan) (plan_units plan valid) (enclose_each plan each);
      narrow = omega (arith, sums_rise (2 ^ B) plan.cells _ _ (pow_pos B) (each_narrow plan each));
    }

-- ---- all units but one

others_of : {B : ℕ} {plan : Plan} {grids : List (List (Iv B))} {i : ℕ} {g : List (Iv B)} → IsValid plan
    → AreUnitGrids plan.cells plan.units grids
    → IsSumWithout plan.cells grids i g → AreOthersOf plan i g
others_of {B} {plan = plan} {grids = grids} {i = i} valid each sum = record {
  cells = sum.cells;
  encloses = sum.encloses (aggregates_of plan) (plan_units plan valid) (enclose_each plan each);
  narrow = omega (
    arith,
    ap (sum_spread (2 ^ B) plan.cells) (map_remove spread grids i),
    sums_rise (2 ^ B) plan.cells _ _ (pow_pos B) (removed_no_more i _ _ (each_narrow plan each)),
  );
}

pub are_others : {B : ℕ} {plan : Plan} {grids : List (List (Iv B))} {asked : List Bool}
    {sums : List (Option (List (Iv B)))}
    → IsValid plan → AreUnitGrids plan.cells plan.units grids
    → AreSumsWithout plan.cells grids asked sums → AreOthers plan sums
are_others {sums = sums} valid each rest = record {
  as_many = rest.as_many ∙ each.as_many;
  each = λ i inside.
      IfSome_then (get_or sums i None)
      (rest.each i (omega (arith, inside, each.as_many))) (λ g sum. others_of valid each sum);
}

-- each grid has the cells
pub long_enough : {B : ℕ} (cells : ℕ) (us : List UnitOfPlan) (grids : List (List (Iv B))) → AreUnitGrids cells us grids
    → All (λ g. cells ≤ length g) grids
long_enough cells [] grids each = λ i d inside. absurd (omega (arith, inside, each.as_many))
long_enough cells (u ∷ us) grids each = λ i d inside.
    omega (
      arith,
      (each.each i u (omega (arith, inside, each.as_many))).cells,
      ap (λ t. length t) (get_or_default grids i d [] inside),
    )
