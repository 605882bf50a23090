-- Cells as two lists of ends: one determines the other, and both change alike.
use Rattle.dl_grid.proofs.Common.{ℕ, zero, suc, ◌≡◌, ◌+◌, ◌-◌, ◌*◌, ◌^◌, ◌<◌, ◌≤◌, List, [], ◌∷◌, ◌++◌, length, get_or, set, take, arith, refl, sym, subst, ap, ap₂, inl, inr, ◌∙◌, All, length-take-le, take_all, eqb_tells, sum_by-cons, sum_by-take-le, sum_by-set, sum_by-le, Iv, low_at, high_at, mass_low, spread, all_at_zero, IsGrid, IsGridSize, replicate, get_or_default_zero, length-map, length-replicate, get_or-replicate, map-append, get_or-map, length-set, take-map, map-set, get_or-take, get_or-set_same, get_or-set_other, sum-map, most_cells, low_ends, high_ends, cell_by, cells_of, mass_high, AreEnds}
use Rattle.std.specs.Prelude.{◌⊎◌, sum}
use Rattle.std.proofs.lemmas.Bool.{cases_lt}
use Rattle.std.proofs.Math.Bridge.{le_prop}
use Rattle.std.proofs.Math.ListN.{get_or-eq_default}
use Rattle.std.proofs.lemmas.List.Elements.{All-replicate, All-take, All-set, All-weaker, All-map, All-tail, All-head}
use Rattle.std.proofs.lemmas.List.Folds.{sum_by-replicate}
use Rattle.dl_grid.proofs.Room.{size_few, size_within, mass_fits}
use Rattle.dl_grid.proofs.CellLaws.{size_of, one_fits, one_in_range}
pub use Rattle.dl_grid.proofs.CellLaws.{low_at_ends, high_at_ends}

pub low_le_high : {B : ℕ} (cells : List (Iv B)) (x : ℕ) → low_at cells x ≤ high_at cells x
unfolding low_at high_at
low_le_high [] x = omega arith
low_le_high (c ∷ cs) zero = c.ordered
low_le_high (c ∷ cs) (suc x) = low_le_high cs x

-- there are as many ends as cells
pub low_ends_long : {B : ℕ} (cells : List (Iv B)) → length (low_ends cells) ≡ length cells
low_ends_long cells = length-map cells (λ cell. cell.lo)

pub high_ends_long : {B : ℕ} (cells : List (Iv B)) → length (high_ends cells) ≡ length cells
high_ends_long cells = length-map cells (λ cell. cell.hi)

-- no low end is above the bound of the high ends
pub lows_small : {B : ℕ} {lows highs : List ℕ} → AreEnds B lows highs → All (λ low. low ≤ 2 ^ B) lows
lows_small {B} {lows} {highs} p k d inside =
    omega (arith, get_or_default_zero lows k d inside, p.ordered k, p.small k 0 (omega (arith, p.paired)))

-- cells with the same ends are the same
unfoldable made : {B : ℕ} (lo hi : ℕ) → lo ≤ hi → hi ≤ 2 ^ 127 → 1 ≤ B → B ≤ 56 → Iv B
made lo hi p q r s = record { lo = lo; hi = hi; ordered = p; in_range = q; scale_above = r; scale_below = s }

same_proofs : {B : ℕ} (lo hi : ℕ) (p p' : lo ≤ hi) (q q' : hi ≤ 2 ^ 127) (r r' : 1 ≤ B) (s s' : B ≤ 56)
    → made lo hi p q r s ≡ made lo hi p' q' r' s'
same_proofs lo hi p p' q q' r r' s s' = cc (le_prop p p', le_prop q q', le_prop r r', le_prop s s')

same_made : {B : ℕ} (lo hi lo' hi' : ℕ) → lo ≡ lo' → hi ≡ hi'
    → (p : lo ≤ hi) (q : hi ≤ 2 ^ 127) (p' : lo' ≤ hi') (q' : hi' ≤ 2 ^ 127) (r r' : 1 ≤ B) (s s' : B ≤ 56)
    → made lo hi p q r s ≡ made lo' hi' p' q' r' s'
same_made {B} lo hi lo' hi' e h =
    subst (λ l. (p : lo ≤ hi) (q : hi ≤ 2 ^ 127) (p' : l ≤ hi') (q' : hi' ≤ 2 ^ 127) (r r' : 1 ≤ B) (s s' : B ≤ 56)
    → made lo hi p q r s ≡ made l hi' p' q' r' s') e (
    subst (λ m. (p : lo ≤ hi) (q : hi ≤ 2 ^ 127) (p' : lo ≤ m) (q' : m ≤ 2 ^ 127) (r r' : 1 ≤ B) (s s' : B ≤ 56)
    → made lo hi p q r s ≡ made lo m p' q' r' s') h (
    λ p q p' q' r r' s s'. same_proofs lo hi p p' q q' r r' s s'))

same_cell : {B : ℕ} (c d : Iv B) → c.lo ≡ d.lo → c.hi ≡ d.hi → c ≡ d
unfolding made
same_cell c d e h =
    same_made c.lo c.hi d.lo d.hi e h c.ordered c.in_range d.ordered d.in_range c.scale_above d.scale_above
    c.scale_below d.scale_below

pub same_cells : {B : ℕ} (xs ys : List (Iv B)) → low_ends xs ≡ low_ends ys → high_ends xs ≡ high_ends ys → xs ≡ ys
same_cells [] [] e h = refl
same_cells [] (y ∷ ys) e h = absurd (cc)
same_cells (x ∷ xs) [] e h = absurd (cc)
same_cells (x ∷ xs) (y ∷ ys) e h = ap₂ (λ c cs. c ∷ cs) (same_cell x y (cc) (cc)) (same_cells xs ys (cc) (cc))

-- the cell with two ends that are in order
one_cell : {B lo hi : ℕ} (p : (hi < lo) ⊎ (lo ≤ hi)) (q : (2 ^ 127 < hi) ⊎ (hi ≤ 2 ^ 127)) (r : (B < 1) ⊎ (1 ≤ B))
    (s : (56 < B) ⊎ (B ≤ 56))
    → lo ≤ hi → hi ≤ 2 ^ 127 → 1 ≤ B → B ≤ 56 → (low_ends (cell_by p q r s) ≡ lo ∷ [])
    × (high_ends (cell_by p q r s) ≡ hi ∷ [])
unfolding cell_by
one_cell (inr p) (inr q) (inr r) (inr s) a b c d = (refl, refl)
one_cell (inl p) q r s a b c d = absurd (omega arith)
one_cell (inr p) (inl q) r s a b c d = absurd (omega arith)
one_cell (inr p) (inr q) (inl r) s a b c d = absurd (omega arith)
one_cell (inr p) (inr q) (inr r) (inl s) a b c d = absurd (omega arith)

-- what the cells of two lists have as their ends
record AreOrdered (B : ℕ) (lows highs : List ℕ) : Type 0 where
  paired : length highs ≡ length lows
  ordered : (x : ℕ) → get_or lows x 0 ≤ get_or highs x 0
  small : All (λ high. high ≤ 2 ^ 127) highs

rest_ordered : {B lo hi : ℕ} {lows highs : List ℕ} → AreOrdered B (lo ∷ lows) (hi ∷ highs) → AreOrdered B lows highs
rest_ordered {lo = lo} {hi = hi} {lows = lows} {highs = highs} p =
    record {
      paired = omega (arith, p.paired);
      ordered = λ x. p.ordered (suc x);
      small =
          All-tail (λ high. high ≤ 2 ^ 127) hi highs p.small;
    }

ends_back : {B : ℕ} (lows highs : List ℕ) → 1 ≤ B → B ≤ 56 → AreOrdered B lows highs
    → (low_ends (cells_of B lows highs) ≡ lows) × (high_ends (cells_of B lows highs) ≡ highs)
unfolding cells_of
ends_back [] [] above below p = (refl, refl)
ends_back [] (h ∷ hs) above below p = absurd (omega (arith, p.paired))
ends_back (l ∷ ls) [] above below p = absurd (omega (arith, p.paired))
ends_back {B} (l ∷ ls) (h ∷ hs) above below p =
    let first = one_cell (cases_lt h l) (cases_lt (2 ^ 127) h) (cases_lt B 1) (cases_lt 56 B) (p.ordered 0)
    (All-head (λ high. high ≤ 2 ^ 127) h hs p.small) above below in
    let rest = ends_back ls hs above below (rest_ordered p) in (
      map-append _ _ _ ∙ ap₂ (λ xs ys. xs ++ ys) first.0 rest.0,
      map-append _ _ _
          ∙ ap₂ (λ xs ys. xs ++ ys) first.1 rest.1,
    )

-- no end is above 2^127 where none is above 1
pub in_range : (B : ℕ) (highs : List ℕ) → B ≤ 56 → All (λ high. high ≤ 2 ^ B) highs → All (λ high. high ≤ 2 ^ 127) highs
in_range B highs below small =
    All-weaker (λ high. high ≤ 2 ^ B) (λ high. high ≤ 2 ^ 127)
    (λ high (h : high ≤ 2 ^ B). omega (arith, h, one_in_range B below)) highs small

ordered_of : {B : ℕ} {lows highs : List ℕ} → AreEnds B lows highs → AreOrdered B lows highs
ordered_of {B} {lows} {highs} p = record {
  paired = p.paired;
  ordered = p.ordered;
  small =
      in_range B highs p.size.scale_below p.small;
}

pub low_list : {B : ℕ} {lows highs : List ℕ} → AreEnds B lows highs → low_ends (cells_of B lows highs) ≡ lows
low_list {B} {lows} {highs} p = (ends_back lows highs p.size.scale_above p.size.scale_below (ordered_of p)).0

pub high_list : {B : ℕ} {lows highs : List ℕ} → AreEnds B lows highs → high_ends (cells_of B lows highs) ≡ highs
high_list {B} {lows} {highs} p = (ends_back lows highs p.size.scale_above p.size.scale_below (ordered_of p)).1

-- cells whose ends are those of a grid are one
small_cells : {B : ℕ} (cells : List (Iv B)) (m : ℕ) → All (λ high. high ≤ m) (high_ends cells)
    → All (λ cell. cell.hi ≤ m) cells
small_cells cells m small k d inside = rw (← get_or-map (λ cell. cell.hi) cells k d d.hi inside)
    (small k d.hi (rw (length-map cells (λ cell. cell.hi)) inside))

-- and the ends of a grid's cells are those of a grid
pub ends_of_grid : {B : ℕ} (cells : List (Iv B)) → IsGrid cells → AreEnds B (low_ends cells) (high_ends cells)
ends_of_grid {B} cells p = record {
  size = rw (low_ends_long cells) (size_of cells p);
  paired = omega (arith, low_ends_long cells, high_ends_long cells);
  ordered = λ x. rw (low_at_ends cells x, high_at_ends cells x) (low_le_high cells x);
  small = All-map (λ high. high ≤ 2 ^ B) (λ (c : Iv B). c.hi) cells p.small;
  mass = omega (arith, p.mass, sum-map (λ (c : Iv B). c.lo) cells);
}

-- ---- the cells that a grid's two lists stand for

pub cells_long : {B : ℕ} {lows highs : List ℕ} → AreEnds B lows highs → length (cells_of B lows highs) ≡ length lows
cells_long {B} {lows} {highs} p = sym (low_ends_long (cells_of B lows highs)) ∙ ap length (low_list p)

-- a list of ends is at least as long as the cells that are read
pub ends_reach : {B : ℕ} {lows highs : List ℕ} {view : List (Iv B)} (ends : List ℕ) (n : ℕ) → AreEnds B lows highs
    → cells_of B lows highs ≡ view → length ends ≡ length lows → n ≤ length view → n ≡ length (take n ends)
ends_reach ends n p is same within = sym (length-take-le n ends (omega (arith, same, cells_long p, ap length is, within)))

pub low_of : {B : ℕ} {lows highs : List ℕ} (x : ℕ) → AreEnds B lows highs
    → low_at (cells_of B lows highs) x ≡ get_or lows x 0
low_of {B} {lows} {highs} x p = rw (← low_at_ends (cells_of B lows highs) x, low_list p)

pub high_of : {B : ℕ} {lows highs : List ℕ} (x : ℕ) → AreEnds B lows highs
    → high_at (cells_of B lows highs) x ≡ get_or highs x 0
high_of {B} {lows} {highs} x p = rw (← high_at_ends (cells_of B lows highs) x, high_list p)

pub ends_few : {B : ℕ} {lows highs : List ℕ} → AreEnds B lows highs → length lows ≤ most_cells
ends_few p = size_few p.size

-- the sums of the first ends, and of all
pub low_sum : {B : ℕ} {lows highs : List ℕ} (n : ℕ) → AreEnds B lows highs
    → mass_low (take n (cells_of B lows highs)) ≡ sum (take n lows)
low_sum {B} {lows} {highs} n p = sym (sum-map (λ (c : Iv B). c.lo) (take n (cells_of B lows highs)))
    ∙ rw (← take-map, low_list p)

pub high_sum : {B : ℕ} {lows highs : List ℕ} (n : ℕ) → AreEnds B lows highs
    → mass_high (take n (cells_of B lows highs)) ≡ sum (take n highs)
high_sum {B} {lows} {highs} n p = sym (sum-map (λ (c : Iv B). c.hi) (take n (cells_of B lows highs)))
    ∙ rw (← take-map, high_list p)

pub low_total : {B : ℕ} {lows highs : List ℕ} → AreEnds B lows highs → mass_low (cells_of B lows highs) ≡ sum lows
low_total {B} {lows} {highs} p = sym (sum-map (λ (c : Iv B). c.lo) (cells_of B lows highs)) ∙ ap sum (low_list p)

pub high_total : {B : ℕ} {lows highs : List ℕ} → AreEnds B lows highs → mass_high (cells_of B lows highs) ≡ sum highs
high_total {B} {lows} {highs} p = sym (sum-map (λ (c : Iv B). c.hi) (cells_of B lows highs)) ∙ ap sum (high_list p)

-- they are a grid
pub grid_of_ends : {B : ℕ} {lows highs : List ℕ} → AreEnds B lows highs → IsGrid (cells_of B lows highs)
grid_of_ends {B} {lows} {highs} p = record {
  some = rw (cells_long p) p.size.some;
  few = rw (cells_long p) p.size.few;
  small = small_cells (cells_of B lows highs) (2 ^ B) (rw (high_list p) p.small);
  mass = rw (low_total p) p.mass;
}

-- the first cells, and one cell written
pub ends_taken : {B : ℕ} {lows highs : List ℕ} (n : ℕ) → 1 ≤ n → n ≤ length lows → AreEnds B lows highs
    → AreEnds B (take n lows) (take n highs)
ends_taken {B} {lows} {highs} n some within p =
    let short = length-take-le n lows within in
    let paired : length (take n highs) ≡ length (take n lows) =
    omega (arith, short, length-take-le n highs (omega (arith, p.paired)), p.paired) in
    record {
      size = rw short (size_within p.size some within);
      paired = paired;
      ordered = λ x. elim (cases_lt x n) [
        | inl inside ↦ rw (get_or-take n lows x 0 inside, get_or-take n highs x 0 inside) (p.ordered x)
        | inr past ↦ omega (arith, get_or-eq_default (take n lows) 0 {n = x} (omega (arith, short)))
      ];
      small = All-take (λ high. high ≤ 2 ^ B) n highs p.small;
      mass = omega (arith, p.mass, sum_by-take-le (λ (e : ℕ). e) lows n);
    }

pub view_taken : {B : ℕ} {lows highs : List ℕ} (n : ℕ) → 1 ≤ n → n ≤ length lows → AreEnds B lows highs
    → cells_of B (take n lows) (take n highs) ≡ take n (cells_of B lows highs)
view_taken {B} {lows} {highs} n some within p =
    let q : AreEnds B (take n lows) (take n highs) = ends_taken n some within p in
    same_cells _ _ (rw (low_list q, ← take-map, low_list p)) (rw (high_list q, ← take-map, high_list p))

pub ends_set : {B : ℕ} {lows highs : List ℕ} (x : ℕ) (v : Iv B) → x < length lows → v.hi ≤ 2 ^ B
    → sum lows - get_or lows x 0 + v.lo ≤ 2 ^ B → AreEnds B lows highs → AreEnds B (set lows x v.lo) (set highs x v.hi)
ends_set {B} {lows} {highs} x v within top mass p = record {
  size = rw length-set p.size;
  paired = rw (length-set, length-set) p.paired;
  ordered = λ y. elim (eqb_tells y x) [
    | inl e ↦ rw (
      e.1,
      get_or-set_same lows x v.lo 0 within,
      get_or-set_same highs x v.hi 0 (omega (arith, p.paired)),
    ) v.ordered
    | inr e ↦ rw (get_or-set_other lows x y v.lo 0 e.1, get_or-set_other highs x y v.hi 0 e.1) (p.ordered y)
  ];
  small = All-set (λ high. high ≤ 2 ^ B) highs x v.hi top p.small;
  mass = omega (arith, mass, sum_by-set (λ (e : ℕ). e) lows x v.lo 0 within);
}

pub view_set : {B : ℕ} {lows highs : List ℕ} (x : ℕ) (v : Iv B) → AreEnds B (set lows x v.lo) (set highs x v.hi)
    → AreEnds B lows highs → cells_of B (set lows x v.lo) (set highs x v.hi) ≡ set (cells_of B lows highs) x v
view_set x v q p =
    same_cells _ _ (rw (low_list q, map-set, low_list p)) (rw (high_list q, map-set, high_list p))

-- no end is above 2^56
pub ends_below : {B : ℕ} (ends : List ℕ) → B ≤ 56 → All (λ e. e ≤ 2 ^ B) ends → All (λ e. e ≤ 2 ^ 56) ends
ends_below {B} ends below small k d inside = omega (arith, small k d inside, one_fits B below)

-- what the first n ends add up to fits: each is at most 1
ends_fit : {B : ℕ} (ends : List ℕ) (n : ℕ) → IsGridSize B (length ends) → All (λ e. e ≤ 2 ^ B) ends
    → sum (take n ends) ≤ 2 ^ 70
ends_fit {B} ends n size small =
    let whole : sum ends ≤ length ends * 2 ^ B = sum_by-le (λ (e : ℕ). e) (2 ^ B) ends small in
    omega (arith, sum_by-take-le (λ (e : ℕ). e) ends n, whole, mass_fits size)

pub lows_fit : {B : ℕ} {lows highs : List ℕ} (n : ℕ) → AreEnds B lows highs → sum (take n lows) ≤ 2 ^ 70
lows_fit {B} {lows} n p = ends_fit {B = B} lows n p.size (lows_small p)

pub highs_fit : {B : ℕ} {lows highs : List ℕ} (n : ℕ) → AreEnds B lows highs → sum (take n highs) ≤ 2 ^ 70
highs_fit {B} {highs = highs} n p = ends_fit {B = B} highs n (rw p.paired p.size) p.small

pub high_total_fits : {B : ℕ} {lows highs : List ℕ} → AreEnds B lows highs → sum highs ≤ 2 ^ 70
high_total_fits {highs = highs} p = rw (take_all (length highs) highs (omega arith)) at (highs_fit (length highs) p)

-- the widths are what the high ends have more than the low ends
pub spread_is : {B : ℕ} (cells : List (Iv B)) → mass_low cells + spread cells ≡ mass_high cells
spread_is [] = refl
spread_is {B} (c ∷ cs) =
    omega (
      arith,
      sum_by-cons (λ (c : Iv B). c.lo) c cs,
      sum_by-cons (λ (c : Iv B). c.hi) c cs,
      sum_by-cons (λ (c : Iv B). c.hi - c.lo) c cs,
      spread_is cs,
      c.ordered,
    )

pub first_order : {B : ℕ} {lows highs : List ℕ} (n : ℕ) → AreEnds B lows highs → sum (take n lows) ≤ sum (take n highs)
first_order {B} {lows} {highs} n p =
    omega (arith, low_sum n p, high_sum n p, spread_is (take n (cells_of B lows highs)))

pub spread_of : {B : ℕ} {lows highs : List ℕ} → AreEnds B lows highs
    → sum lows + spread (cells_of B lows highs) ≡ sum highs
spread_of {B} {lows} {highs} p = omega (arith, low_total p, high_total p, spread_is (cells_of B lows highs))

pub total_order : {B : ℕ} {lows highs : List ℕ} → AreEnds B lows highs → sum lows ≤ sum highs
total_order p = omega (arith, spread_of p)

-- the two ends that are read at a place
pub read_ordered : {B : ℕ} {lows highs : List ℕ} {low high : ℕ} (x : ℕ) → AreEnds B lows highs → x < length lows
    → low ≡ get_or lows x low → high ≡ get_or highs x high → (low ≤ high) × (high ≤ 2 ^ 127)
read_ordered {B} {lows} {highs} {low} {high} x p inside e h =
    let upper : x < length highs = omega (arith, inside, p.paired) in (
      omega (arith, e, h, get_or_default_zero lows x low inside, get_or_default_zero highs x high upper, p.ordered x),
      omega (arith, h, p.small x high upper, one_in_range B p.size.scale_below),
    )

-- the ends of zero
pub nothing_at : (n x : ℕ) → get_or (replicate {A = ℕ} n 0) x 0 ≡ 0
nothing_at n x = elim (cases_lt x n) [
  | inl inside ↦ get_or-replicate {A = ℕ} n x 0 0 inside
  | inr past ↦ get_or-eq_default (replicate {A = ℕ} n 0) 0 {n = x} (omega (arith, length-replicate {A = ℕ} n 0))
]

pub zero_at : (n mass x : ℕ) → 1 ≤ n → get_or (set (replicate {A = ℕ} n 0) 0 mass) x 0 ≡ all_at_zero mass x
unfolding all_at_zero
zero_at n mass zero some = get_or-set_same (replicate {A = ℕ} n 0) 0 mass 0
    (omega (arith, length-replicate {A = ℕ} n 0))
zero_at n mass (suc x) some = get_or-set_other (replicate {A = ℕ} n 0) 0 (suc x) mass 0 (omega arith)
    ∙ nothing_at n (suc x)

pub zero_ends : (B n : ℕ) → IsGridSize B n
    → AreEnds B (set (replicate {A = ℕ} n 0) 0 (2 ^ B)) (set (replicate {A = ℕ} n 0) 0 (2 ^ B))
zero_ends B n size =
    let some = size.some in
    record {
      size = rw (length-set, length-replicate) size;
      paired = refl;
      ordered = λ x. omega arith;
      small = All-set (λ e. e ≤ 2 ^ B) (replicate n 0) 0 (2 ^ B) (omega arith)
          (All-replicate (λ e. e ≤ 2 ^ B) n 0 (omega arith));
      mass = omega (
        arith,
        sum_by-set (λ (e : ℕ). e) (replicate n 0) 0 (2 ^ B) 0 (omega (arith, length-replicate {A = ℕ} n 0)),
        sum_by-replicate (λ (e : ℕ). e) n 0,
      );
    }

-- what a grid's lists say of its cells
pub ruleset views = (
  low_list,
  high_list,
  cells_long,
  ends_few,
  low_of,
  high_of,
  low_sum,
  high_sum,
  low_total,
  high_total,
  lows_fit,
  highs_fit,
  high_total_fits,
  first_order,
  total_order,
  spread_of,
  grid_of_ends,
)
