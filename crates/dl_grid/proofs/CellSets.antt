-- The ends, the mass and the spread of a grid after one cell was written, and of its first cells.
use Rattle.dl_grid.proofs.Common.{ℕ, zero, suc, ◌≡◌, ◌+◌, ◌-◌, ◌<◌, ◌≤◌, List, [], ◌∷◌, length, get_or, set, take, arith, refl, sym, inl, inr, ◌∙◌, min, eqb_tells, sum_by-cons, sum_by-set, Iv, low_at, high_at, mass_low, spread, all_at_zero, ◌==◌, if◌then◌else◌, map, length-map, map-set, take-map, get_or-take, get_or-set_same, get_or-set_other, get_or-le-sum_by, low_ends, high_ends}
use Rattle.dl_grid.proofs.CellLaws.{low_at_get, high_at_get}
use Rattle.dl_grid.proofs.EndLists.{low_at_ends, high_at_ends}

-- an end of cells of which one was written
end_set : {B : ℕ} (end : Iv B → ℕ) (cells : List (Iv B)) (i x : ℕ) (v : Iv B) → i < length cells
    → get_or (map end (set cells i v)) x 0 ≡ (if i == x then end v else get_or (map end cells) x 0)
end_set end cells i x v inside = rw (map-set end cells i v) (elim (eqb_tells i x) [
  | inl p ↦ rw (p.0, ← p.1) (get_or-set_same (map end cells) i (end v) 0 (omega (arith, length-map cells end)))
  | inr p ↦ rw p.0 (get_or-set_other (map end cells) i x (end v) 0 (λ e. p.1 (sym e)))
])

pub low_set : {B : ℕ} (cells : List (Iv B)) (i x : ℕ) (v : Iv B) → i < length cells
    → low_at (set cells i v) x ≡ (if i == x then v.lo else low_at cells x)
low_set cells i x v inside = rw (← low_at_ends (set cells i v) x, ← low_at_ends cells x)
    (end_set (λ c. c.lo) cells i x v inside)

pub high_set : {B : ℕ} (cells : List (Iv B)) (i x : ℕ) (v : Iv B) → i < length cells
    → high_at (set cells i v) x ≡ (if i == x then v.hi else high_at cells x)
high_set cells i x v inside = rw (← high_at_ends (set cells i v) x, ← high_at_ends cells x)
    (end_set (λ c. c.hi) cells i x v inside)

-- where cell 0 was written, the others are as they were
low_kept : {B : ℕ} (cells : List (Iv B)) (v : Iv B) (x : ℕ)
    → low_at (set cells 0 v) (suc x) ≡ low_at cells (suc x)
unfolding low_at
low_kept [] v x = refl
low_kept (c ∷ cs) v x = refl

pub high_kept : {B : ℕ} (cells : List (Iv B)) (v : Iv B) (x : ℕ)
    → high_at (set cells 0 v) (suc x) ≡ high_at cells (suc x)
unfolding high_at
high_kept [] v x = refl
high_kept (c ∷ cs) v x = refl

-- cell 0 alone grows
pub low_added : {B : ℕ} (cells : List (Iv B)) (v : Iv B) (more : ℕ) → 1 ≤ length cells → v.lo ≡ low_at cells 0 + more
    → (x : ℕ) → low_at (set cells 0 v) x ≡ low_at cells x + all_at_zero more x
unfolding all_at_zero
low_added cells v more some e zero = low_set cells 0 0 v some ∙ e
low_added cells v more some e (suc x) = omega (arith, low_kept cells v x)

pub high_added : {B : ℕ} (cells : List (Iv B)) (v : Iv B) (top : ℕ) → 1 ≤ length cells → v.hi ≡ top
    → high_at (set cells 0 v) 0 ≡ top
high_added cells v top some e = high_set cells 0 0 v some ∙ e

-- cell 0 with more, lowered to 1, and the others as they are
pub high_joined : (before after : ℕ → ℕ) (more top : ℕ) → after 0 ≡ min (before 0 + more) top
    → ((x : ℕ) → after (suc x) ≡ before (suc x))
    → (x : ℕ) → before x ≤ top → after x ≡ min (before x + all_at_zero more x) top
unfolding all_at_zero
high_joined before after more top first others zero small = first
high_joined before after more top first others (suc x) small = omega (arith, others x)

pub low_in_mass : {B : ℕ} (cells : List (Iv B)) (x : ℕ) (d : Iv B) → x < length cells → low_at cells x ≤ mass_low cells
low_in_mass {B} cells x d inside = omega (
  arith,
  get_or-le-sum_by (λ (c : Iv B). c.lo) cells x d inside,
  low_at_get cells x d inside,
)

pub mass_set : {B : ℕ} (cells : List (Iv B)) (x : ℕ) (v : Iv B) → x < length cells
    → mass_low (set cells x v) + low_at cells x ≡ mass_low cells + v.lo
mass_set {B} cells x v inside = omega (
  arith,
  sum_by-set (λ (c : Iv B). c.lo) cells x v v inside,
  low_at_get cells x v inside,
)

pub spread_set : {B : ℕ} (cells : List (Iv B)) (x : ℕ) (v : Iv B) → x < length cells
    → spread (set cells x v) + (high_at cells x - low_at cells x) ≡ spread cells + (v.hi - v.lo)
spread_set {B} cells x v inside =
    omega (
      arith,
      sum_by-set (λ (c : Iv B). c.hi - c.lo) cells x v v inside,
      low_at_get cells x v inside,
      high_at_get cells x v inside,
    )

-- the first cells
pub low_take : {B : ℕ} (cells : List (Iv B)) (n x : ℕ) → x < n → low_at (take n cells) x ≡ low_at cells x
low_take cells n x inside = rw (← low_at_ends (take n cells) x, ← low_at_ends cells x, ← take-map)
    (get_or-take n (low_ends cells) x 0 inside)

pub high_take : {B : ℕ} (cells : List (Iv B)) (n x : ℕ) → x < n → high_at (take n cells) x ≡ high_at cells x
high_take cells n x inside = rw (← high_at_ends (take n cells) x, ← high_at_ends cells x, ← take-map)
    (get_or-take n (high_ends cells) x 0 inside)

-- cells that are all 0
emptied : (before after : ℕ → ℕ) (mass : ℕ) → ((x : ℕ) → before x ≡ all_at_zero mass x) → after 0 ≡ 0
    → ((x : ℕ) → after (suc x) ≡ before (suc x)) → (x : ℕ) → after x ≡ 0
unfolding all_at_zero
emptied before after mass e first others zero = first
emptied before after mass e first others (suc x) = others x ∙ e (suc x)

pub low_emptied : {B : ℕ} (cells : List (Iv B)) (v : Iv B) (mass : ℕ) → 1 ≤ length cells
    → ((x : ℕ) → low_at cells x ≡ all_at_zero mass x) → v.lo ≡ 0
    → (x : ℕ) → low_at (set cells 0 v) x ≡ 0
low_emptied cells v mass some e none =
    emptied (low_at cells) (low_at (set cells 0 v)) mass e (low_set cells 0 0 v some ∙ none) (low_kept cells v)

pub high_emptied : {B : ℕ} (cells : List (Iv B)) (v : Iv B) (mass : ℕ) → 1 ≤ length cells
    → ((x : ℕ) → high_at cells x ≡ all_at_zero mass x) → v.hi ≡ 0
    → (x : ℕ) → high_at (set cells 0 v) x ≡ 0
high_emptied cells v mass some e none =
    emptied (high_at cells) (high_at (set cells 0 v)) mass e (high_set cells 0 0 v some ∙ none) (high_kept cells v)

pub mass_none : {B : ℕ} (cells : List (Iv B)) → ((x : ℕ) → low_at cells x ≡ 0) → mass_low cells ≡ 0
unfolding low_at
mass_none [] e = refl
mass_none {B} (c ∷ cs) e = omega (arith, sum_by-cons (λ (c : Iv B). c.lo) c cs, e 0, mass_none cs (λ x. e (suc x)))

pub spread_none : {B : ℕ} (cells : List (Iv B)) → ((x : ℕ) → high_at cells x ≡ low_at cells x) → spread cells ≡ 0
unfolding low_at high_at
spread_none [] e = refl
spread_none {B} (c ∷ cs) e = omega (
  arith,
  sum_by-cons (λ (c : Iv B). c.hi - c.lo) c cs,
  e 0,
  spread_none cs (λ x. e (suc x)),
)

pub at_zero_small : (m x : ℕ) → all_at_zero m x ≤ m
unfolding all_at_zero
at_zero_small m zero = omega arith
at_zero_small m (suc x) = omega arith
