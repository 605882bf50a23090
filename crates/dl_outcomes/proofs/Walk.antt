-- The sums of the ends that a clause takes to one cell, as a walk over the grid makes them.
use Rattle.dl_outcomes.proofs.Common.{below_le, below_same, below_plus, ℕ, zero, ◌≡◌, ◌≢◌, inl, inr, ◌+◌, ◌-◌, ◌^◌, ◌<◌, ◌≤◌, min, Bool, true, false, nat_eq, List, length, set, arith, refl, ap, ◌∙◌, ne_eqb, eq-eqb, if◌then◌else◌, eqb_tells, Fraction, whole, Iv, low_at, high_at, IsWhole, Clause, kept, whole_den, count_below, outcome_after, clause_whole, low_set, high_set, one_fits, high_end, where_whole, sum_kept, sum_elsewhere, ◌==◌, IsGrid, scale_of, high_most, low_most, count_below_more, count_below_none, ap₂, sym, mass_low, spread, width_at}
use Rattle.std.specs.Prelude.{Some}

pub where_here : (clause : Clause) (f : ℕ → ℕ) (s y : ℕ) → kept clause s ≡ whole y → where_whole clause f s ≡ f s
unfolding where_whole
where_here clause f s y e = ap (λ b. if b then f s else 0)
    (eq-eqb (kept clause s).den 1 (ap (λ (x : Fraction). x.den) e ∙ whole_den y))

pub where_not : (clause : Clause) (f : ℕ → ℕ) (s : ℕ) → ¬ IsWhole (kept clause s) → where_whole clause f s ≡ 0
unfolding where_whole
where_not clause f s n = ap (λ b. if b then f s else 0) (ne_eqb (kept clause s).den 1 n)

none : (b : Bool) → (if b then zero else zero) ≡ zero
none true = refl
none false = refl

-- the end e of a sum of which the clause keeps o: all of it where o is y, or is not y
abbrev pub at_kept : ℕ → ℕ → ℕ → ℕ
at_kept y o e = if nat_eq o y then e else 0

abbrev pub at_others : ℕ → ℕ → ℕ → ℕ
at_others y o e = if nat_eq o y then 0 else e

-- what `pick` makes of the ends of the sums below n, added up
module _ (pick : ℕ → ℕ → ℕ) (clause : Clause) (f : ℕ → ℕ) where
  abbrev picked : ℕ → ℕ
  picked n = count_below n (λ s. pick (outcome_after (Some clause) s) (where_whole clause f s))

  -- one sum more, of which the clause keeps y
  pub picked_here : (s y : ℕ) → kept clause s ≡ whole y → picked (s + 1) ≡ picked s + pick y (f s)
  picked_here s y e =
      count_below_more s (λ s. pick (outcome_after (Some clause) s) (where_whole clause f s))
      ∙ ap₂ (λ o t. picked s + pick o t) (clause_whole clause s y e) (where_here clause f s y e)

  -- one of which it keeps no whole number
  pub picked_not : (s : ℕ) → ((o : ℕ) → pick o 0 ≡ 0) → ¬ IsWhole (kept clause s) → picked (s + 1) ≡ picked s
  picked_not s nothing n =
      let o = outcome_after (Some clause) s in
      let more = count_below_more s (λ s. pick (outcome_after (Some clause) s) (where_whole clause f s)) in
      omega (arith, ap (pick o) (where_not clause f s n) ∙ nothing o)

-- ---- how large they are

where_le : (clause : Clause) (f : ℕ → ℕ) (s : ℕ) → where_whole clause f s ≤ f s
unfolding where_whole
where_le clause f s = picked (nat_eq (kept clause s).den 1) (f s)
  where
    picked : (b : Bool) (n : ℕ) → (if b then n else 0) ≤ n
    picked true n = omega arith
    picked false n = omega arith

pub whole_le : (clause : Clause) (f : ℕ → ℕ) (n : ℕ) → count_below n (where_whole clause f) ≤ count_below n f
whole_le clause f n = below_le n (where_whole clause f) f (λ s b. where_le clause f s)

-- each whole number is y, or another
pub kept_or_elsewhere : (clause : Clause) (f : ℕ → ℕ) (n y : ℕ)
    → count_below n (where_whole clause f) ≡ sum_kept clause n f y + sum_elsewhere clause n f y
kept_or_elsewhere clause f n y =
    let is : ℕ → Bool = λ s. nat_eq (outcome_after (Some clause) s) y in
    below_same n _ _ (λ s b. sym (either (is s) (where_whole clause f s)))
    ∙ below_plus n (λ s. if is s then where_whole clause f s else 0) (λ s. if is s then 0 else where_whole clause f s)
  where
    either : (b : Bool) (m : ℕ) → (if b then m else 0) + (if b then 0 else m) ≡ m
    either true m = omega arith
    either false m = omega arith

-- the high ends are the low ends and the widths
pub elsewhere_wide : (clause : Clause) (lo hi : ℕ → ℕ) (n y : ℕ) → ((s : ℕ) → lo s ≤ hi s)
    → sum_elsewhere clause n hi y ≡ sum_elsewhere clause n lo y + sum_elsewhere clause n (λ s. hi s - lo s) y
unfolding where_whole
elsewhere_wide clause lo hi n y h =
    below_same n _ _ (λ s b. wide (nat_eq (outcome_after (Some clause) s) y) (nat_eq (kept clause s).den 1) (lo s) (hi s)
    (h s)) ∙ below_plus n _ _
  where
    wide : (b c : Bool) (l m : ℕ) → l ≤ m
        → (if b then 0 else (if c then m else 0)) ≡ (if b then 0 else (if c then l else 0)) +
        (if b then 0 else (if c then m - l else 0))
    wide true c l m h = refl
    wide false true l m h = omega arith
    wide false false l m h = refl

-- ---- one cell takes in more

pub low_more : {B : ℕ} (cells : List (Iv B)) (y x : ℕ) (v : Iv B) (more : ℕ) → y < length cells
    → v.lo ≡ low_at cells y + more
    → low_at (set cells y v) x ≡ low_at cells x + (if y == x then more else 0)
low_more cells y x v more inside e =
    let is = low_set cells y x v inside in
    elim (eqb_tells y x) [
      | inl p ↦ rw p.0 (omega (arith, rw p.0 at is, ap (low_at cells) p.1))
      | inr p ↦ rw p.0 (omega (arith, rw p.0 at is))
    ]

pub high_more : {B : ℕ} (cells : List (Iv B)) (y x : ℕ) (v : Iv B) (more top : ℕ) → y < length cells
    → v.hi ≡ min (high_at cells y + more) top → high_at cells x ≤ top
    → high_at (set cells y v) x ≡ min top (high_at cells x + (if y == x then more else 0))
high_more cells y x v more top inside e small =
    let is = high_set cells y x v inside in
    elim (eqb_tells y x) [
      | inl p ↦ rw p.0 (omega (arith, rw p.0 at is, ap (high_at cells) p.1))
      | inr p ↦ rw p.0 (omega (arith, rw p.0 at is))
    ]

-- y lies past the grid, and x on it
pub not_here : (y x end more : ℕ) → x < y → end ≡ end + (if y == x then more else 0)
not_here y x end more h = omega (arith, ap (λ b. if b then more else 0) (ne_eqb y x (omega arith)))

-- ---- a walk that takes the sums in

-- what the cells of a grid have taken in of the sums below s
pub record HasTaken {B : ℕ} (clause : Clause) (sums : List (Iv B)) (s n : ℕ) (grid : List (Iv B)) : Type 0 where
  pub cells : length grid ≡ n
  pub low : (y : ℕ) → y < n → low_at grid y ≡ sum_kept clause s (low_at sums) y
  pub high : (y : ℕ) → y < n → high_at grid y ≡ min (2 ^ B) (sum_kept clause s (high_at sums) y)
  pub mass : mass_low grid ≤ count_below s (where_whole clause (low_at sums))
  pub spread : spread grid ≤ count_below s (where_whole clause (width_at sums))

pub taken_more : {B : ℕ} {clause : Clause} {sums grid after : List (Iv B)} {s n lo hi : ℕ} (y : ℕ)
    → HasTaken clause sums s n grid → kept clause s ≡ whole y → lo ≡ low_at sums s → hi ≡ high_at sums s
    → length after ≡ length grid
    → ((x : ℕ) → x < length grid → low_at after x ≡ low_at grid x + (if y == x then lo else 0))
    → ((x : ℕ) → x < length grid → high_at after x ≡ min (2 ^ B) (high_at grid x + (if y == x then hi else 0)))
    → mass_low after ≤ mass_low grid + lo → spread after ≤ spread grid + (hi - lo)
    → HasTaken clause sums (s + 1) n after
taken_more {clause = clause} {sums = sums} {s = s} y t here e f cells low high mass wide = record {
  cells = cells ∙ t.cells;
  low = λ x b.
      let more = picked_here (at_kept x) clause (low_at sums) s y here in
      omega (arith, low x (omega (arith, t.cells)), t.low x b, ap (at_kept x y) e);
  high = λ x b.
      let more = picked_here (at_kept x) clause (high_at sums) s y here in
      omega (arith, high x (omega (arith, t.cells)), t.high x b, ap (at_kept x y) f);
  mass = omega (arith, t.mass, picked_here (λ o e. e) clause (low_at sums) s y here);
  spread = omega (arith, t.spread, picked_here (λ o e. e) clause (width_at sums) s y here);
}

pub taken_not : {B : ℕ} {clause : Clause} {sums grid : List (Iv B)} {s n : ℕ} → HasTaken clause sums s n grid
    → ¬ IsWhole (kept clause s) → HasTaken clause sums (s + 1) n grid
taken_not {clause = clause} {sums = sums} {s = s} t gone = record {
  cells = t.cells;
  low = λ x b. t.low x b ∙ sym (picked_not (at_kept x) clause (low_at sums) s (λ o. none (nat_eq o x)) gone);
  high = λ x b. t.high x b
      ∙ ap (min _) (sym (picked_not (at_kept x) clause (high_at sums) s (λ o. none (nat_eq o x)) gone));
  mass = omega (arith, t.mass, picked_not (λ o e. e) clause (low_at sums) s (λ o. refl) gone);
  spread = omega (arith, t.spread, picked_not (λ o e. e) clause (width_at sums) s (λ o. refl) gone);
}

pub kept_fits : {B : ℕ} (clause : Clause) (cells : List (Iv B)) (s mass part : ℕ) → IsGrid cells
    → mass ≤ count_below s (where_whole clause (low_at cells)) → part ≡ low_at cells s
    → mass + part ≤ 2 ^ B
kept_fits clause cells s mass part grid h e = omega
    (arith, whole_le clause (low_at cells) s, count_below_more s (low_at cells), low_most cells (s + 1) grid)

pub from_none : (top : ℕ) (f : ℕ → ℕ) → 0 ≡ min top (count_below 0 f)
from_none top f = omega (arith, count_below_none f)

-- ---- a walk that adds up those of which the clause does not keep y

-- the sums below s of which it keeps another number than y
pub record AreElsewhere {B : ℕ} (clause : Clause) (sums : List (Iv B)) (s y lo hi : ℕ) : Type 0 where
  pub low : lo ≡ sum_elsewhere clause s (low_at sums) y
  pub high : hi ≡ sum_elsewhere clause s (high_at sums) y

module _ {B : ℕ} {clause : Clause} {sums : List (Iv B)} {s y lo hi : ℕ} (t : AreElsewhere clause sums s y lo hi) where
  pub other_more : {l h : ℕ} (x : ℕ) → kept clause s ≡ whole x → x ≢ y → l ≡ low_at sums s → h ≡ high_at sums s
      → AreElsewhere clause sums (s + 1) y (lo + l) (hi + h)
  other_more x here other e f = record { low = more lo _ (low_at sums) t.low e; high = more hi _ (high_at sums) t.high f }
    where
      more : (total part : ℕ) (f : ℕ → ℕ) → total ≡ sum_elsewhere clause s f y → part ≡ f s
          → total + part ≡ sum_elsewhere clause (s + 1) f y
      more total part f e h =
          omega (arith, picked_here (at_others y) clause f s x here, ap (λ b. if b then 0 else f s) (ne_eqb x y other))

  pub same_skipped : (x : ℕ) → kept clause s ≡ whole x → x ≡ y → AreElsewhere clause sums (s + 1) y lo hi
  same_skipped x here same = record { low = skip lo (low_at sums) t.low; high = skip hi (high_at sums) t.high }
    where
      skip : (total : ℕ) (f : ℕ → ℕ) → total ≡ sum_elsewhere clause s f y → total ≡ sum_elsewhere clause (s + 1) f y
      skip total f e =
          omega (arith, picked_here (at_others y) clause f s x here, ap (λ b. if b then 0 else f s) (eq-eqb x y same))

  pub none_skipped : ¬ IsWhole (kept clause s) → AreElsewhere clause sums (s + 1) y lo hi
  none_skipped gone = record {
    low = t.low ∙ sym (picked_not (at_others y) clause (low_at sums) s (λ o. none (nat_eq o y)) gone);
    high = t.high ∙ sym (picked_not (at_others y) clause (high_at sums) s (λ o. none (nat_eq o y)) gone);
  }

  pub elsewhere_fits : (part : ℕ) → IsGrid sums → s < length sums → part ≡ high_at sums s → hi + part ≤ 2 ^ 71
  elsewhere_fits part grid inside e =
      let parts = kept_or_elsewhere clause (high_at sums) s y in
      let most = high_most sums s grid (omega arith) in
      let one = one_fits B (scale_of sums grid.some).1 in
      omega (arith, t.high, whole_le clause (high_at sums) s, high_end sums s grid)

pub elsewhere_mass : {B : ℕ} (clause : Clause) (cells : List (Iv B)) (n y : ℕ) → IsGrid cells
    → sum_elsewhere clause n (low_at cells) y ≤ 2 ^ B
elsewhere_mass clause cells n y grid = omega
    (arith, kept_or_elsewhere clause (low_at cells) n y, whole_le clause (low_at cells) n, low_most cells n grid)
