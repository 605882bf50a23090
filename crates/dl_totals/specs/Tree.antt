-- The tree of sums of units: each unit, each node, and for each of them its outer sum, that of all
-- units which are not in it.
use Rattle.std.specs.Prelude.{ℕ, ◌≡◌, ◌+◌, ◌-◌, ◌<◌, ◌≤◌, Bool, true, false, not, ◌&&◌, ◌||◌, nat_lt, nat_eq, if◌then◌else◌, Option, Some, None, IfSome, All, List, [], ◌++◌, length, map, get_or}
use Rattle.std.specs.List.{sum_by}
use Rattle.dl_iv.specs.declared.interval.Iv.{Iv}
use Rattle.dl_model.specs.Prelude.{Loss, AreDeclarable, total, without, GridEncloses}
use Rattle.dl_totals.specs.Sums.{EncloseEach}
use Rattle.dl_totals.specs.Shared.{IsSumOfPart}
use Rattle.dl_totals.specs.Chosen.{chosen}
use Rattle.dl_totals.specs.declared.tree.Node.{Node}

-- the sum at a place: of a unit, and after these of a node
abbrev pub sum_at : {B : ℕ} → List (List (Iv B)) → List (Node B) → ℕ → List (Iv B)
sum_at grids nodes at = get_or (grids ++ map (λ node. node.grid) nodes) at []

-- k cells or more that enclose the sum of the units that a test picks
pub record IsSumPicked {B : ℕ} (k : ℕ) (grids : List (List (Iv B))) (test : ℕ → Bool)
    (sum : List (Iv B)) : Type 0 where
  pub long : k ≤ length sum
  pub encloses : (us : List Loss) → AreDeclarable us → EncloseEach grids us
      → GridEncloses sum (total (chosen us test))

-- a node has the units of its two parts, which come before it and have none in common
pub record IsJoint {B : ℕ} (tests : ℕ → ℕ → Bool) (at : ℕ) (node : Node B) : Type 0 where
  pub first : node.first < at
  pub second : node.second < at
  pub apart : (i : ℕ) → (tests node.first i && tests node.second i) ≡ false
  pub both : (i : ℕ) → tests at i ≡ (tests node.first i || tests node.second i)

-- the sum at each place is that of the units whose numbers pass the test of the place; a unit has
-- the place of its own number and that number alone
pub record AreNodes {B : ℕ} (k : ℕ) (grids : List (List (Iv B))) (nodes : List (Node B))
    (tests : ℕ → ℕ → Bool) : Type 0 where
  pub units : (at : ℕ) → at < length grids → (i : ℕ) → tests at i ≡ nat_eq i at
  pub sums : (at : ℕ) → at < length grids + length nodes
      → IsSumPicked k grids (tests at) (sum_at grids nodes at)
  pub parts : (j : ℕ) (d : Node B) → j < length nodes
      → IsJoint tests (length grids + j) (get_or nodes j d)

-- the place of the last node, or of the last unit where there is no node
abbrev pub last_place : {B : ℕ} → List (List (Iv B)) → List (Node B) → ℕ
last_place grids nodes = length grids + length nodes - 1

-- each unit is in the sum at one root, and the last root is the last place
pub record IsForest {B : ℕ} (k : ℕ) (grids : List (List (Iv B))) (nodes : List (Node B))
    (roots : List ℕ) : Type 0 where
  pub tests : ℕ → ℕ → Bool
  pub are : AreNodes k grids nodes tests
  pub inside : All (λ at. at < length grids + length nodes) roots
  pub once : (i : ℕ) → sum_by (λ at. if tests at i then 1 else 0) roots
      ≡ (if nat_lt i (length grids) then 1 else 0)
  pub last : (d : ℕ) → get_or roots (length roots - 1) d ≡ last_place grids nodes

-- the sum at the last place has all units
pub record IsTree {B : ℕ} (k : ℕ) (grids : List (List (Iv B)))
    (nodes : List (Node B)) : Type 0 where
  pub tests : ℕ → ℕ → Bool
  pub are : AreNodes k grids nodes tests
  pub all : (i : ℕ) → i < length grids → tests (last_place grids nodes) i ≡ true

-- k cells that enclose the sum of the units that a test does not pick
abbrev pub IsSumOutside : {B : ℕ} → ℕ → List (List (Iv B)) → (ℕ → Bool) → List (Iv B) → Type 0
IsSumOutside k grids test sum = IsSumOfPart k grids (λ us. chosen us (λ i. not (test i))) (Some sum)

-- for each place none or the sum of the units outside that at the place
pub record ReachDown {B : ℕ} (k : ℕ) (grids : List (List (Iv B))) (nodes : List (Node B))
    (outer : List (Option (List (Iv B)))) : Type 0 where
  pub tests : ℕ → ℕ → Bool
  pub are : AreNodes k grids nodes tests
  pub as_many : length outer ≡ length grids + length nodes
  pub each : (at : ℕ) → at < length outer
      → IfSome (get_or outer at None) (IsSumOutside k grids (tests at))

-- for each unit none or the sum of all other units
abbrev pub AreOthers : {B : ℕ} → ℕ → List (List (Iv B)) → List (Option (List (Iv B))) → Type 0
AreOthers k grids sums = (i : ℕ) → i < length grids
    → IfSome (get_or sums i None) (λ g. IsSumOfPart k grids (λ us. without us i) (Some g))
