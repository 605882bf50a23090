-- Sums over the amounts of one claim of what a grid has at the rest of q, and up to it.
use Rattle.dl_shares.proofs.Common.{ℕ, suc, inl, inr, ◌≡◌, ◌∙◌, ◌+◌, ◌-◌, ◌*◌, ◌^◌, ◌<◌, ◌≤◌, min, List, [], ◌∷◌, length, get_or, take, arith, ap, sym, subst₂, add-one, mul-pos, mul-le-mul_left, mul-le-mul_right, pow_pos, Fraction, ◌over◌, ◌*ℚ◌, ◌≤ℚ◌, le_refl, times_le_both, sum_to, count_below, below_same, Iv, low_at, high_at, mass_low, spread, IsGrid, cells_fit, high_le, low_le_high, low_sum, high_is, width_at, width_within, Item, UnitOfPlan, expected_count, weight_at, weight_sum, severity_total, amounts_to, claims_mean, Series, Rises, Holds, at_most_wider, to_holds, one_fits, scale_of, size_few, size_of, leb_tells, sum_by-cons, over_le_over, sum_to_times, to_over, apart, low_most, sums_of}
use Rattle.dl_exact.proofs.Counts.{below_more}
use Rattle.dl_shares.proofs.ClaimWidths.{weight_parts}
use Rattle.dl_shares.proofs.CommonJoint.{positive}
use Rattle.dl_shares.proofs.Tilted.{amounts_pairs, amounts_top, amounts_grow, amounts_apart, part, amounts_fit}
use Rattle.dl_shares.proofs.PairSums.{all_pairs}
use Rattle.dl_shares.proofs.ClaimEnds.{exact_end}

-- ---- sums over amounts

-- added up over all totals up to q, they are sums of running sums
pub amounts_added : (q : ℕ) (at : ℕ → ℕ) (items : List Item)
    → count_below (suc q) (λ x. amounts_to x at items) ≡ amounts_to q (sums_of at) items
amounts_added q at items =
    below_same (suc q) _ _ (λ x h. amounts_pairs x at items)
    ∙ all_pairs q (λ a. a * weight_at items a) at ∙ sym (amounts_pairs q (sums_of at) items)

part_more : (q D : ℕ) (at : ℕ → ℕ) (item : Item)
    → part q (λ k. at k + D) item ≡ part q at item + part q (λ _. 1) item * D
part_more q D at item = elim (leb_tells item.amount q) [
  | inl within ↦ rw within.0 (omega arith)
  | inr beyond ↦ rw beyond.0 (omega arith)
]

-- where each is D more
pub amounts_more : (q D : ℕ) (at : ℕ → ℕ) (items : List Item)
    → amounts_to q (λ k. at k + D) items ≡ amounts_to q at items + amounts_to q (λ _. 1) items * D
amounts_more q D at [] = omega arith
amounts_more q D at (item ∷ items) = omega (
  arith,
  sum_by-cons (part q (λ k. at k + D)) item items,
  sum_by-cons (part q at) item items,
  ap (λ t. t * D) (sum_by-cons (part q (λ _. 1)) item items),
  part_more q D at item,
  amounts_more q D at items,
)

-- ---- running sums of a grid

-- the low end of its distribution is one
pub low_running : {B : ℕ} (cells : List (Iv B)) (x lo : ℕ) → IsGrid cells
    → lo ≡ min (mass_low (take (x + 1) cells)) (2 ^ B) → lo ≡ sums_of (low_at cells) x
low_running cells x lo grid is =
    omega (arith, is, low_sum (x + 1) cells, low_most cells (x + 1) grid, ap (λ n. count_below n (low_at cells)) (add-one x))

-- one cell less
pub one_less : (step from : ℕ) (f : ℕ → ℕ) → step < from
    → sums_of f (from - step) ≡ sums_of f (from - (step + 1)) + f (from - step)
one_less step from f less =
    let next : suc (from - (step + 1)) ≡ from - step = omega arith in
    omega (
      arith,
      below_more (from - step) f,
      ap (λ n. count_below n f) next,
      ap (λ n. count_below n f) (add-one (from - step)),
    )

pub running_fit : {B : ℕ} (grid : List (Iv B)) (q : ℕ) (items : List Item) (i : ℕ) (d : Item) (sum v : ℕ) → IsGrid grid
    → q < length grid → i < length items → sum ≡ amounts_to q (sums_of (low_at grid)) (take i items)
    → (get_or items i d).amount ≤ q → v ≡ sums_of (low_at grid) (q - (get_or items i d).amount)
    → weight_sum items ≤ 2 ^ 40 → sum + (get_or items i d).amount * (get_or items i d).weight * v < 2 ^ 128
running_fit {B} grid q items i d sum v is inside there so_far near value light =
    amounts_fit q (sums_of (low_at grid)) items i d there sum v (2 ^ B) so_far near value
    (λ k. low_most grid (suc k) is) (omega (arith, size_few (size_of grid is)))
    (one_fits B (scale_of grid is.some).1) light

module _ {B : ℕ} (grid : List (Iv B)) (u : UnitOfPlan) (q : ℕ) (is : IsGrid grid) (inside : q < length grid) where
  -- ---- at q

  pub cells_order : amounts_to q (low_at grid) u.sev.items ≤ amounts_to q (high_at grid) u.sev.items
  cells_order = amounts_grow q (low_at grid) (high_at grid) u.sev.items (low_le_high grid)

  pub cells_top : amounts_to q (high_at grid) u.sev.items ≤ 2 ^ 71 * positive u
  cells_top =
      let few : q * 2 ^ B ≤ 2 ^ 71 = omega (arith, cells_fit grid q is (omega arith)) in
      omega (
        arith,
        amounts_top q (2 ^ B) (positive u) (high_at grid) u.sev.items (λ k. high_le grid k (2 ^ B) is.small)
            (weight_parts u.sev),
        mul-le-mul_right (positive u) few,
      )

  pub cells_near : amounts_to q (high_at grid) u.sev.items
      ≤ amounts_to q (low_at grid) u.sev.items + q * spread grid * positive u
  cells_near = amounts_apart q (positive u) (spread grid) u.sev.items (low_at grid) (high_at grid) (width_at grid)
      (omega (arith, weight_parts u.sev)) (high_is grid) (width_within (suc q) grid)

  -- ---- up to q

  abbrev low : ℕ
  low = amounts_to q (sums_of (low_at grid)) u.sev.items

  -- no more than q times the weight
  abbrev parts : ℕ
  parts = amounts_to q (λ _. 1) u.sev.items

  pub sums_near : low + parts * spread grid ≤ low + q * spread grid * positive u
  sums_near = omega (
    arith,
    mul-le-mul_right (spread grid)
        (amounts_top q 1 (positive u) (λ _. 1) u.sev.items (λ k. omega arith) (weight_parts u.sev)),
  )

  pub sums_top : spread grid < 2 ^ B → low + parts * spread grid ≤ 2 ^ 71 * positive u
  sums_top narrow =
      let few : q * 2 ^ B * 2 ≤ 2 ^ 71 = omega (arith, cells_fit grid q is (omega arith)) in
      let some : q * spread grid ≤ q * 2 ^ B = mul-le-mul_left q (omega arith) in
      omega (
        arith,
        sums_near,
        mul-le-mul_right (positive u) some,
        amounts_top q (2 ^ B) (positive u) (sums_of (low_at grid)) u.sev.items (λ k. low_most grid (suc k) is)
            (weight_parts u.sev),
        mul-le-mul_right (positive u) few,
      )

  pub sums_fit : spread grid < 2 ^ B → low + parts * spread grid < 2 ^ 128
  sums_fit narrow = omega (arith, sums_top narrow, u.sev.weighted.within)

  -- ---- of series whose ends are the cells'

  abbrev n : Fraction
  n = expected_count u.freq

  ends_added : (at : ℕ → ℕ) → sum_to q (λ x. claims_mean u (2 ^ B) x at) ≡ claims_mean u (2 ^ B) q (sums_of at)
  ends_added at =
      let T = u.sev.total * 2 ^ B in
      sum_to_times q n (λ x. amounts_to x at u.sev.items over T)
      ∙ ap (λ z. n *ℚ z) (to_over q T (λ x. amounts_to x at u.sev.items) (mul-pos (severity_total u.sev) (pow_pos B))
      ∙ ap (λ m. m over T) (amounts_added q at u.sev.items))

  -- a running sum of high ends is at most the spread above that of the low ends
  high_end : claims_mean u (2 ^ B) q (sums_of (high_at grid)) ≤ℚ exact_end u (2 ^ B) (low + parts * spread grid)
  high_end = times_le_both n n _ _ (le_refl n)
      (over_le_over _ _ _ (mul-pos (severity_total u.sev) (pow_pos B)) (omega (
        arith,
        amounts_more q (spread grid) (sums_of (low_at grid)) u.sev.items,
        amounts_grow q (sums_of (high_at grid)) (λ k. sums_of (low_at grid) k + spread grid) u.sev.items
            (λ k. apart grid (suc k)),
      )))

  pub sums_hold : (P : ℕ → Series) (R : Series) → ((x : ℕ) → Rises (P x))
      → ((x : ℕ) → x ≤ q → Holds (P x) R (claims_mean u (2 ^ B) x (low_at grid)) (claims_mean u (2 ^ B) x (high_at grid)))
      → Holds (λ N. sum_to q (λ x. P x N)) R (exact_end u (2 ^ B) low) (exact_end u (2 ^ B) (low + parts * spread grid))
  sums_hold P R rise each =
      let Q = λ (N : ℕ). sum_to q (λ x. P x N) in
      let exact = subst₂ (λ l h. Holds Q R l h) (ends_added (low_at grid)) (ends_added (high_at grid))
      (to_holds q P R _ _ rise each) in
      (exact.0, at_most_wider Q R _ _ exact.1 high_end)
