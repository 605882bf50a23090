-- What the items of a slice and the cells that they leave are.
use Rattle.dl_panjer.proofs.Common.{ℕ, ◌≡◌, ◌+◌, ◌-◌, ◌*◌, ◌^◌, ◌<◌, ◌≤◌, Bool, List, length, get_or, take, drop, arith, sym, ap₂, subst, ◌∙◌, All, sum_by, sum_by-take-le, Iv, low_at, high_at, one_fits, low_at_read, high_at_read, Item, weight_sum, counted, given, low_le_high, get_or-map, get_or-take, get_or-drop, length-map, length-take-le, length-drop, sum_by_more, high_le, amounts_of, mass_fits, IsStrictlyIncreasing, IsNonDecreasingBy, IsNonDecreasingBy-from_all_adjacent, most_weights, AreFirstCells}
use Rattle.std.proofs.Math.Nat.{mul-le-mul}
use Rattle.dl_panjer.proofs.ItemSums.{items_fit}

-- the amounts of items that rise never fall
pub amounts_rise : (items : List Item) → IsStrictlyIncreasing (amounts_of items)
    → IsNonDecreasingBy (λ item. item.amount) items
amounts_rise items rising =
    IsNonDecreasingBy-from_all_adjacent (λ (item : Item). item.amount) items (λ k d inside.
    omega (
      arith,
      rising k (omega (arith, length-map items (λ (item : Item). item.amount), inside)),
      get_or-map (λ (item : Item). item.amount) items k d 0 (omega (arith, inside)),
      get_or-map (λ (item : Item). item.amount) items (k + 1) d 0 inside,
    ))

pub front : (P : Item → Type 0) (items : List Item) (r : ℕ) → r ≤ length items
    → ((k : ℕ) (d : Item) → k < r → P (get_or items k d)) → All P (take r items)
front P items r within h k d inside =
    let before : k < r = omega (arith, inside, length-take-le r items within) in
    subst P (sym (get_or-take r items k d before)) (h k d before)

pub back : (P : Item → Type 0) (items : List Item) (r : ℕ) → r ≤ length items
    → ((k : ℕ) (d : Item) → r ≤ k → k < length items → P (get_or items k d)) → All P (drop r items)
back P items r within h k d inside =
    subst P (sym (get_or-drop r items k d)) (h (r + k) d (omega arith) (omega (arith, inside, length-drop r items)))

-- ---- cells of at most 1

pub high_at_most : {B : ℕ} (cells : List (Iv B)) → All (λ cell. cell.hi ≤ 2 ^ B) cells → (x : ℕ)
    → high_at cells x ≤ 2 ^ B
high_at_most {B} cells small x = high_le cells x (2 ^ B) small

pub low_at_most : {B : ℕ} (cells : List (Iv B)) → All (λ cell. cell.hi ≤ 2 ^ B) cells → (x : ℕ) → low_at cells x ≤ 2 ^ B
low_at_most cells small x = omega (arith, low_le_high cells x, high_at_most cells small x)

-- ---- one item's part of the sums

-- one item more, whose factor is multiplied by one of the ends
more : (b : Bool) (ends : ℕ → ℕ) (next : ℕ) (items : List Item) (i : ℕ) (d : Item) (factor end part total : ℕ)
    → i < length items → factor ≡ counted b (get_or items i d).amount (get_or items i d).weight
    → end ≡ ends (next - (get_or items i d).amount) → part ≡ factor * end
    → total ≡ sum_by (given b ends next) (take i items) → total + part ≡ sum_by (given b ends next) (take (i + 1) items)
more b ends next items i d factor end part total at counts is made before = omega (
  arith,
  sum_by_more (given b ends next) items i d at,
  made ∙ ap₂ (λ s t. s * t) counts is,
  before,
)

-- what the first items add up to
few_fit : (b : Bool) (ends : ℕ → ℕ) (next S : ℕ) (items : List Item) (i : ℕ) → 1 ≤ next → next * S ≤ 2 ^ 70
    → ((k : ℕ) → ends k ≤ S) → All (λ item. item.amount ≤ next) items → weight_sum items ≤ most_weights
    → sum_by (given b ends next) (take i items) < 2 ^ 128
few_fit b ends next S items i some many bound near within =
    let top : next * S * weight_sum items ≤ 2 ^ 70 * 2 ^ 40 = mul-le-mul many within in
    omega (arith, sum_by-take-le (given b ends next) items i, items_fit b next S ends items some bound near, top)

-- item i, and the cell that it leaves
module _ (b : Bool) {B : ℕ} (cells : List (Iv B)) (items : List Item) (first : AreFirstCells cells)
    (positive : All (λ item. 0 < item.amount) items) (i : ℕ) (d : Item)
    (at : i < length items) {factor : ℕ} (counts : factor ≡ counted b (get_or items i d).amount (get_or items i d).weight)
    {cell : Iv B} (is : cell ≡ get_or cells (length cells - (get_or items i d).amount) cell) where
  there : length cells - (get_or items i d).amount < length cells
  there = omega (arith, first.size.some, positive i d at)

  pub low_small : cell.lo ≤ 2 ^ 56
  low_small = omega (arith, low_at_read cells _ cell there is, low_at_most cells first.small (length cells - (get_or items i d).amount), one_fits B first.size.scale_below)

  pub high_small : cell.hi ≤ 2 ^ 56
  high_small = omega (arith, high_at_read cells _ cell there is, high_at_most cells first.small (length cells - (get_or items i d).amount), one_fits B first.size.scale_below)

  pub low_more : {part total : ℕ} → part ≡ factor * cell.lo
      → total ≡ sum_by (given b (low_at cells) (length cells)) (take i items)
      → total + part ≡ sum_by (given b (low_at cells) (length cells)) (take (i + 1) items)
  low_more = more b (low_at cells) (length cells) items i d factor cell.lo _ _ at counts
      (low_at_read cells _ cell there is)

  pub high_more : {part total : ℕ} → part ≡ factor * cell.hi
      → total ≡ sum_by (given b (high_at cells) (length cells)) (take i items)
      → total + part ≡ sum_by (given b (high_at cells) (length cells)) (take (i + 1) items)
  high_more = more b (high_at cells) (length cells) items i d factor cell.hi _ _ at counts
      (high_at_read cells _ cell there is)

  module _ (near : All (λ item. item.amount ≤ length cells) items) (within : weight_sum items ≤ most_weights) where
    pub low_fits : {part total : ℕ} → part ≡ factor * cell.lo
        → total ≡ sum_by (given b (low_at cells) (length cells)) (take i items) → total + part < 2 ^ 128
    low_fits made before = rw (low_more made before) (few_fit b (low_at cells) (length cells) (2 ^ B) items (i + 1)
        first.size.some (mass_fits first.size) (low_at_most cells first.small) near within)

    pub high_fits : {part total : ℕ} → part ≡ factor * cell.hi
        → total ≡ sum_by (given b (high_at cells) (length cells)) (take i items) → total + part < 2 ^ 128
    high_fits made before = rw (high_more made before) (few_fit b (high_at cells) (length cells) (2 ^ B) items (i + 1)
        first.size.some (mass_fits first.size) (high_at_most cells first.small) near within)
