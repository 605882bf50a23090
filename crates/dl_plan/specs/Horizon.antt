-- How far the map of a reinsurance clause goes before it has reached a grid, or stays as it is.
use Rattle.std.specs.Prelude.{ℕ, ◌≡◌, ◌+◌, ◌<◌, ◌≤◌, ◌⊎◌, ◌-◌, ◌*◌, ◌==◌, if◌then◌else◌, max, Option, Some, None, List, fold}
use Rattle.std.specs.Int.{div_ceil}
use Rattle.dl_limits.specs.Limits.{most_horizon}
use Rattle.dl_exact.specs.Fraction.{whole, ◌≤ℚ◌}
use Rattle.dl_plan.specs.declared.cede.CedeLayer.{CedeLayer}
use Rattle.dl_plan.specs.Clause.{Clause, kept}
use Rattle.dl_plan.specs.Parts.{kept_parts, parts_in_bucket}

-- the end of a layer from a; where it has no limit, its beginning
abbrev pub edge_of : Option ℕ → ℕ → ℕ
edge_of None a = a
edge_of (Some limit) a = a + limit

-- the end of a layer; its attachment where it has no limit
abbrev pub edge : CedeLayer → ℕ
edge l = edge_of l.limit l.attach

-- the greatest of 1 and each edge
abbrev pub last_edge : List CedeLayer → ℕ
last_edge layers = fold (λ m l. max m (edge l)) 1 layers

-- at s the map has reached h, or it is constant from there on
abbrev pub IsSettled : Clause → ℕ → ℕ → Type 0
IsSettled clause h s = (whole h ≤ℚ kept clause s)
    ⊎ ((r : ℕ) → s ≤ r → kept clause r ≡ kept clause s)

-- the least number at which the map is settled
pub record IsFirstSettled (clause : Clause) (h : ℕ) (s : ℕ) : Type 0 where
  pub settled : IsSettled clause h s
  pub least : (r : ℕ) → IsSettled clause h r → s ≤ r

-- the greatest of 1, each edge, and the least number at which the map is settled
abbrev pub IsHorizon : Clause → ℕ → ℕ → Type 0
IsHorizon clause h k = (s : ℕ) × IsFirstSettled clause h s × (k ≡ max (last_edge clause.1) s)

-- the horizon of sums on h cells: h itself where no clause maps them
abbrev pub IsHorizonOf : Option Clause → ℕ → ℕ → Type 0
IsHorizonOf None h k = k ≡ h
IsHorizonOf (Some clause) h k = IsHorizon clause h k

-- after how many buckets a map that lacks so many parts has them, where it rises by the same in
-- each: 0 where it does not rise
abbrev pub buckets_behind : (missing rise : ℕ) → ℕ
buckets_behind missing rise = if rise == 0 then 0 else div_ceil missing rise

-- That horizon as a number. Past the last edge what a clause keeps rises by the same in each
-- bucket, so one division finds from there when it has reached h.
unfoldable pub horizon : Option Clause → ℕ → ℕ
horizon None h = h
horizon (Some clause) h =
    let common : ℕ = parts_in_bucket clause in
    let last : ℕ = last_edge clause.1 in
    let there : ℕ = kept_parts clause common last in
    last + buckets_behind (h * common - there) (kept_parts clause common (last + 1) - there)

-- the horizon of sums on h cells passes 16,384 where h is at most 4,096, or else 65,536
abbrev pub HorizonPasses : Option Clause → ℕ → Type 0
HorizonPasses clause h = (k : ℕ) × IsHorizonOf clause h k × (most_horizon h < k)
