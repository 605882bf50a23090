-- What was read in a list that is another.
use Rattle.dl_sources.proofs.Common.{refl, ℕ, ◌≡◌, ◌<◌, List, [], length, get_or, arith, sym, ap, subst, ◌∙◌, get_or_default, Iv, IsPlanAt, IsUnitOn, IsValidUnit, IsValid, few_cells, AreUnitGrids, Plan, UnitOfPlan, IsGridOfUnit}
use Rattle.dl_sources.proofs.SumLaws.{each_cells, each_encloses, unit_narrow}

pub read_as : {A : Type 0} {slice xs : List A} (i : ℕ) {x : A} (d : A) → slice ≡ xs → x ≡ get_or slice i x → i < length xs
    → x ≡ get_or xs i d
read_as {xs = xs} i {x = x} d same is inside = is ∙ ap (λ t. get_or t i x) same ∙ get_or_default xs i x d inside

pub inside_there : {A : Type 0} {slice xs : List A} {i : ℕ} → slice ≡ xs → i < length slice → i < length xs
inside_there {i = i} same inside = subst (λ t. i < length t) same inside

-- a unit of a valid plan
pub unit_there : {plan : Plan} {units : List UnitOfPlan} (i : ℕ) {u : UnitOfPlan} → units ≡ plan.units
    → u ≡ get_or units i u → i < length plan.units → IsValid plan
    → IsValidUnit plan.cells u
unit_there {plan} {units} i {u} same is inside valid =
    subst (IsValidUnit plan.cells) (sym (is ∙ ap (λ t. get_or t i u) same)) (valid.units i u inside)

-- the same, with the cells of that plan
pub valid_there : {plan : Plan} {units : List UnitOfPlan} (i : ℕ) {u : UnitOfPlan} → units ≡ plan.units
    → u ≡ get_or units i u → i < length plan.units → IsValid plan → (k : ℕ) × IsValidUnit k u
valid_there {plan = plan} i same is inside valid = (plan.cells, unit_there i same is inside valid)

-- the same, at the scale of that plan
pub unit_on : {B : ℕ} {plan : Plan} {u : UnitOfPlan} → IsPlanAt B plan → IsValidUnit plan.cells u
    → IsUnitOn B plan.cells u
unit_on {plan = plan} at valid = record {
  scale = at.scale;
  some = (few_cells plan at.valid).0;
  few = (few_cells plan at.valid).1;
  valid = valid;
}

-- the same where it is read among the units
pub unit_on_there : {B : ℕ} {plan : Plan} {units : List UnitOfPlan} (i : ℕ) {u : UnitOfPlan} → units ≡ plan.units
    → u ≡ get_or units i u → i < length units → IsPlanAt B plan → IsUnitOn B plan.cells u
unit_on_there i same is inside at = unit_on at (unit_there i same is (omega (arith, inside, ap (λ t. length t) same)) at.valid)

-- the grid of unit i of a valid plan
pub grid_of_unit : {B : ℕ} {plan : Plan} {grids : List (List (Iv B))} (i : ℕ) → i < length plan.units
    → AreUnitGrids plan.cells plan.units grids → IsGridOfUnit plan i (get_or grids i [])
grid_of_unit {plan = plan} {grids = grids} i inside each = record {
  cells = each_cells plan.cells plan.units grids (get_or grids i []) i refl inside each;
  encloses = each_encloses plan.cells plan.units grids i inside each;
  narrow = unit_narrow plan.cells plan.units grids i inside each;
}
