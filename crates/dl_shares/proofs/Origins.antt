-- What the joint means of a unit of a plan are drawn from.
use Rattle.dl_shares.proofs.Common.{get_or_default, IsPlanScale, bits_of, most_horizon, is_plan_scale, cv_rises, IsHorizonOf, IsValid, IsValidUnit, thinned_mean, independent, Plan, joint_budget, shared_joint_budget, others_budget, unit_budgets, few_cells, unit_horizon, claims_mean, AreOthersOf, Gives, IsClaimsGrid, IsGridOfUnit, IsSourceOf, Reaches, Drawn, Origin, Nowhere, Beside, Claims, OverClaims, ShareSource}
use Rattle.std.proofs.Common.{ap, sym, subst, subst₂, ◌∙◌, arith, length, get_or, List, ℕ, ◌≡◌, ◌*◌, ◌^◌, ◌<◌, ◌≤◌}
use Rattle.std.proofs.Math.Nat.{mul-le-mul_left, pow-le-pow_right}
use Rattle.std.proofs.lemmas.Nat.{pow_pos}
use Rattle.std.specs.Prelude.{None}
use Rattle.dl_iv.specs.declared.interval.Iv.{Iv}
use Rattle.dl_grid.specs.Cells.{low_at, high_at, spread}
use Rattle.dl_grid.specs.Width.{convolution_spread}
use Rattle.dl_plan.specs.declared.plan.Unit.{Unit as UnitOfPlan}
use Rattle.dl_model.specs.Prelude.{Holds, Joint, One, aggregates_of, declared, partial_sums}
use Rattle.dl_shares.specs.Source.{GivesJoints, exact_high, exact_low, joint_width}
use Rattle.dl_shares.specs.declared.source.ShareSource.TheVariants as sources

-- ---- scales

pub plan_scale : (B cells : ℕ) → B ≡ bits_of cells → IsPlanScale B
plan_scale B cells same = subst IsPlanScale (sym same) (is_plan_scale cells)

pub scale_least : (B : ℕ) → IsPlanScale B → 2 ^ 48 ≤ 2 ^ B
scale_least B scale = pow-le-pow_right {n = 2} (omega arith) {i = 48} {j = B} scale.least

-- ---- what was read in a list that is another

pub read_as : {A : Type 0} {slice xs : List A} (i : ℕ) {x : A} (d : A) → slice ≡ xs → x ≡ get_or slice i x → i < length xs
    → x ≡ get_or xs i d
read_as {xs = xs} i {x = x} d same is inside = is ∙ ap (λ t. get_or t i x) same ∙ get_or_default xs i x d inside

-- a unit of a valid plan
pub unit_there : {plan : Plan} {units : List UnitOfPlan} (i : ℕ) {u : UnitOfPlan} → units ≡ plan.units
    → u ≡ get_or units i u → i < length plan.units → IsValid plan
    → IsValidUnit plan.cells u
unit_there {plan} {units} i {u} same is inside valid =
    subst (IsValidUnit plan.cells) (sym (is ∙ ap (λ t. get_or t i u) same)) (valid.units i u inside)

-- the same, with the cells of that plan
pub valid_there : {plan : Plan} {units : List UnitOfPlan} (i : ℕ) {u : UnitOfPlan} → units ≡ plan.units
    → u ≡ get_or units i u → i < length plan.units → IsValid plan → (k : ℕ) × IsValidUnit k u
valid_there {plan = plan} i same is inside valid = (plan.cells, unit_there i same is inside valid)

-- it is the one that was found there
pub same_unit : (plan : Plan) {units : List UnitOfPlan} (i : ℕ) {u v : UnitOfPlan} → units ≡ plan.units
    → u ≡ get_or units i u → i < length plan.units → v ≡ get_or plan.units i v → v ≡ u
same_unit plan i {u = u} {v = v} same is inside found =
    found ∙ get_or_default plan.units i v u inside ∙ sym (is ∙ ap (λ t. get_or t i u) same)

pub horizon_there : {plan : Plan} {units : List UnitOfPlan} (i : ℕ) {u : UnitOfPlan} → units ≡ plan.units
    → u ≡ get_or units i u → i < length plan.units → IsValid plan
    → (k : ℕ) × IsHorizonOf u.cede plan.cells k × (k ≤ most_horizon plan.cells)
horizon_there {plan = plan} i {u = u} same is inside valid =
    unit_horizon plan.cells u (few_cells plan valid).1 (unit_there i same is inside valid)

-- ---- from two grids

pub is_independent : (plan : Plan) → plan.common ≡ None → independent plan ≡ plan
is_independent plan none = sym (ap (λ o. record {
  bs = plan.bs;
  cells = plan.cells;
  units = plan.units;
  common = o;
}) none)

widest : {B : ℕ} (S K u v x y : ℕ) (g : List (Iv B)) → 0 < S → length g ≡ K → u ≤ x → v ≤ y
    → length g * convolution_spread S (length g) u v ≤ K * convolution_spread S K x y
widest S K u v x y g pos same p q =
    subst (λ n. n * convolution_spread S n u v ≤ K * convolution_spread S K x y) (sym same)
    (mul-le-mul_left K (cv_rises S K K u x v y pos (omega arith) p q))

pub beside_narrow : {B : ℕ} {plan : Plan} {unit others : List (Iv B)} {i : ℕ} → IsGridOfUnit plan i unit
    → AreOthersOf plan i others → plan.common ≡ None
    → length unit * convolution_spread (2 ^ B) (length unit) (spread unit) (spread others) ≤ joint_budget (2 ^ B) plan i
beside_narrow {B} {plan = plan} {unit = unit} {others = others} {i = i} own rest none =
    subst (λ whole. length unit * convolution_spread (2 ^ B) (length unit) (spread unit) (spread others)
    ≤ joint_budget (2 ^ B) whole i) (is_independent plan none)
    (widest (2 ^ B) plan.cells (spread unit) (spread others) (get_or (unit_budgets (2 ^ B) plan.cells plan.units) i 0)
    (others_budget (2 ^ B) plan i) unit (pow_pos B) own.cells own.narrow rest.narrow)

pub source_alone : {B : ℕ} {plan : Plan} {i : ℕ} (source : ShareSource B) → plan.common ≡ None
    → GivesJoints source (partial_sums (aggregates_of plan)) i → joint_width source ≤ joint_budget (2 ^ B) plan i
    → IsSourceOf plan i source
source_alone {plan = plan} {i = i} source none gives narrow = record {
  gives = λ x near. subst (λ whole. Holds (declared whole (Joint i x)) (declared whole One) (exact_low source x)
      (exact_high source x)) (is_independent plan none) (gives x near);
  narrow = narrow;
}

-- ---- from claims over a grid

pub source_over : {B : ℕ} {plan : Plan} {i : ℕ} {g : List (Iv B)} (from : OverClaims B) (grid : IsClaimsGrid plan i g)
    → from.unit.now ≡ grid.unit → from.grid.now ≡ g → IsSourceOf plan i (sources.OverClaims from)
source_over {B} {plan = plan} {i = i} from grid unit same = record {
  gives = λ x near. subst₂ (λ v h. Holds (declared plan (Joint i x)) (declared plan One) (claims_mean v (2 ^ B) x (low_at h))
      (claims_mean v (2 ^ B) x (high_at h))) (sym unit) (sym same) (grid.gives x (omega (arith, near, ap length same)));
  narrow = subst₂ (λ v h. shared_joint_budget (length h) (spread h) (thinned_mean v) ≤ joint_budget (2 ^ B) plan i)
      (sym unit) (sym same) grid.narrow;
}

-- ---- how far they reach

gives_less : {B : ℕ} (drawn : Drawn B) (m n : ℕ) (from : Origin B) → Gives drawn n from → m ≤ n → Gives drawn m from
gives_less drawn m n Nowhere all few = absurd all
gives_less drawn m n (Beside others) all few = omega (arith, all, few)
gives_less drawn m n (Claims k) all few = omega (arith, all, few)

-- what gives joint means at all totals below n does so below m, where that is no more
pub reaches_less : {B : ℕ} (drawn : Drawn B) (i m n : ℕ) → Reaches drawn i n → m ≤ n → Reaches drawn i m
reaches_less drawn i m n all few = gives_less drawn m n (get_or drawn.origins.items i Nowhere) all few
