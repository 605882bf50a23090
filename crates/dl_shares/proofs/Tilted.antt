-- Sums over the amounts of one claim: as sums over the pairs that add up to the total, how large they are, and how far
-- apart two of them lie.
use Rattle.dl_shares.proofs.Common.{ℕ, zero, suc, ◌≡◌, ◌∙◌, ◌+◌, ◌-◌, ◌*◌, ◌<◌, ◌≤◌, ◌^◌, ◌==◌, List, [], ◌∷◌, length, take, get_or, true, false, cond, inl, inr, refl, ap, ap₂, sym, arith, sum_by-cons, sum_by_more, Item, weight_at, weight_sum, ◌≢◌, nat_le, mul-le-mul_left, mul-le-mul_right, sum_by-take-le, amounts_to, nothing_times, times_nothing, pairs_none, pairs_only, pairs_past, pairs_same, pairs_plus, pairs_le, below_pairs, below_le, below_times, leb_tells}
use Rattle.std.proofs.Common.{mul-le-mul, eq-eqb, ne_eqb}
use Rattle.dl_exact.specs.Count.{count_pairs, count_below}

-- ---- one item more

abbrev pub part : ℕ → (ℕ → ℕ) → Item → ℕ
part x at item = cond (nat_le item.amount x) (item.amount * item.weight * at (x - item.amount)) 0

part_le : (x top a w : ℕ) (at : ℕ → ℕ) → ((k : ℕ) → at k ≤ top)
    → cond (nat_le a x) (a * w * at (x - a)) 0 ≤ x * top * w
part_le x top a w at h = elim (leb_tells a x) [
  | inl within ↦ rw within.0 (omega (arith, mul-le-mul (mul-le-mul_right w within.1) (h (x - a))))
  | inr beyond ↦ rw beyond.0 (omega arith)
]

-- no more than x times the greatest of them times the weight of all
pub amounts_le : (x top : ℕ) (at : ℕ → ℕ) (items : List Item) → ((k : ℕ) → at k ≤ top)
    → amounts_to x at items ≤ x * top * weight_sum items
amounts_le x top at [] h = omega arith
amounts_le x top at (item ∷ items) h = omega (
  arith,
  sum_by-cons (part x at) item items,
  ap (λ t. x * top * t) (sum_by-cons (λ (i : Item). i.weight) item items),
  part_le x top item.amount item.weight at h,
  amounts_le x top at items h,
)

-- one item more in the sum, where its amount is not above x
module _ (x : ℕ) (at : ℕ → ℕ) (items : List Item) (i : ℕ) (d : Item) (inside : i < length items) where
  one_more : amounts_to x at (take (i + 1) items)
      ≡ amounts_to x at (take i items) + part x at (get_or items i d)
  one_more = sum_by_more (part x at) items i d inside

  part_there : nat_le (get_or items i d).amount x ≡ true → part x at (get_or items i d)
      ≡ (get_or items i d).amount * (get_or items i d).weight * at (x - (get_or items i d).amount)
  part_there e = rw e refl

  pub amounts_more : (sum v : ℕ) → sum ≡ amounts_to x at (take i items) → (get_or items i d).amount ≤ x
      → v ≡ at (x - (get_or items i d).amount)
      → sum + (get_or items i d).amount * (get_or items i d).weight * v ≡ amounts_to x at (take (i + 1) items)
  amounts_more sum v so_far near value = elim (leb_tells (get_or items i d).amount x) [
    | inl within ↦ omega (
      arith,
      one_more,
      part_there within.0,
      ap (λ (t : ℕ). (get_or items i d).amount * (get_or items i d).weight * t) value,
    )
    | inr beyond ↦ absurd (omega arith)
  ]

  part_none : nat_le (get_or items i d).amount x ≡ false → part x at (get_or items i d) ≡ 0
  part_none e = rw e refl

  pub amounts_same : (sum : ℕ) → sum ≡ amounts_to x at (take i items) → x < (get_or items i d).amount
      → sum ≡ amounts_to x at (take (i + 1) items)
  amounts_same sum so_far past = elim (leb_tells (get_or items i d).amount x) [
    | inl within ↦ absurd (omega arith)
    | inr beyond ↦ omega (arith, one_more, part_none beyond.0)
  ]

  pub amounts_fit : (sum v top : ℕ) → sum ≡ amounts_to x at (take i items) → (get_or items i d).amount ≤ x
      → v ≡ at (x - (get_or items i d).amount) → ((k : ℕ) → at k ≤ top) → x ≤ 65536 → top ≤ 2 ^ 56
      → weight_sum items ≤ 2 ^ 40
      → sum + (get_or items i d).amount * (get_or items i d).weight * v < 2 ^ 128
  amounts_fit sum v top so_far near value most few small light =
      let all : sum + (get_or items i d).amount * (get_or items i d).weight * v ≤ x * top * weight_sum items =
      omega (
        arith,
        amounts_more sum v so_far near value,
        amounts_le x top at (take (i + 1) items) most,
        mul-le-mul_left (x * top) (sum_by-take-le (λ (j : Item). j.weight) items (i + 1)),
      ) in
      omega (arith, mul-le-mul (mul-le-mul few small) light)

-- ---- as a sum over pairs

weight_here : (b : ℕ) (a : ℕ) (w : ℕ) → b ≡ a → cond (b == a) w 0 ≡ w
weight_here b a w e = rw (eq-eqb b a e) refl

weight_elsewhere : (b : ℕ) (a : ℕ) (w : ℕ) → b ≢ a → cond (b == a) w 0 ≡ 0
weight_elsewhere b a w n = rw (ne_eqb b a n) refl

nothing_between : (a w c : ℕ) → w ≡ 0 → a * w * c ≡ 0
nothing_between a w c e = nothing_times (a * w) c (times_nothing a w e)

one_pair : (x : ℕ) (at : ℕ → ℕ) (b w : ℕ)
    → count_pairs x (λ a k. a * cond (b == a) w 0 * at k) ≡ cond (nat_le b x) (b * w * at (x - b)) 0
one_pair x at b w = elim (leb_tells b x) [
  | inl within ↦ rw within.0 (
      let rest : b + (x - b) ≡ x = omega arith in
      pairs_only x b (x - b) (λ a k. a * cond (b == a) w 0 * at k) rest
      (λ i l n. nothing_between i _ (at l) (weight_elsewhere b i w (λ e. n (sym e))))
      ∙ ap (λ t. b * t * at (x - b)) (weight_here b b w refl))
  | inr beyond ↦ rw beyond.0 (
      pairs_past x b (λ a k. a * cond (b == a) w 0 * at k) beyond.1
      (λ i l n. nothing_between i _ (at l) (weight_elsewhere b i w (λ e. n (sym e)))))
]

pub amounts_pairs : (x : ℕ) (at : ℕ → ℕ) (items : List Item)
    → amounts_to x at items ≡ count_pairs x (λ a k. a * weight_at items a * at k)
amounts_pairs x at [] = sym (pairs_none x _ (λ i k. nothing_between i 0 (at k) refl))
amounts_pairs x at (item ∷ items) =
    sum_by-cons (part x at) item items
    ∙ ap₂ (λ s t. s + t) (sym (one_pair x at item.amount item.weight)) (amounts_pairs x at items)
    ∙ sym (pairs_plus x (λ a k. a * cond (item.amount == a) item.weight 0 * at k)
    (λ a k. a * weight_at items a * at k))
    ∙ pairs_same x _ _ (λ a k. omega (
      arith,
      ap (λ t. a * t * at k) (sum_by-cons (λ (i : Item). cond (i.amount == a) i.weight 0) item items),
    ))

-- ---- the weight of the amounts above 0

one_of_two : (b a w : ℕ) → 0 < a → cond (b == a) w 0 + cond (b == 0) w 0 ≤ w
one_of_two b a w h = grind arith

pub weight_above : (items : List Item) (a : ℕ) → 0 < a → weight_at items a + weight_at items 0 ≤ weight_sum items
weight_above [] a h = omega arith
weight_above (item ∷ items) a h = omega (
  arith,
  sum_by-cons (λ (i : Item). cond (i.amount == a) i.weight 0) item items,
  sum_by-cons (λ (i : Item). cond (i.amount == 0) i.weight 0) item items,
  sum_by-cons (λ (i : Item). i.weight) item items,
  one_of_two item.amount a item.weight h,
  weight_above items a h,
)

-- an amount up to x times its weight
weighted_le : (x W : ℕ) (items : List Item) → weight_sum items ≤ W + weight_at items 0 → (a : ℕ) → a ≤ x
    → a * weight_at items a ≤ x * W
weighted_le x W items all zero near = omega arith
weighted_le x W items all (suc b) near =
    mul-le-mul near (omega (arith, weight_above items (suc b) (omega arith)))

-- ---- how large, and how far apart

-- a sum over pairs of what stands at the second place alone
pairs_second : (n : ℕ) (g : ℕ → ℕ) → count_pairs n (λ i k. g k) ≡ count_below (suc n) g
unfolding count_pairs count_below
pairs_second zero g = omega arith
pairs_second (suc n) g = omega (arith, pairs_second n g)

pairs_bound : (x W : ℕ) (items : List Item) (g : ℕ → ℕ) → weight_sum items ≤ W + weight_at items 0
    → count_pairs x (λ a k. a * weight_at items a * g k) ≤ count_below (suc x) g * (x * W)
pairs_bound x W items g all =
    let each : count_below (suc x) (λ i. i * weight_at items i * g (x - i)) ≤ count_below (suc x)
    (λ i. g (x - i) * (x * W)) =
    below_le (suc x) _ _ (λ i b. omega (
      arith,
      mul-le-mul_right (g (x - i))
          (weighted_le x W items all i (omega arith)),
    )) in
    omega (
      arith,
      below_pairs x (λ a k. a * weight_at items a * g k),
      below_times (suc x) (x * W) (λ i. g (x - i)),
      ap (λ t. t * (x * W)) (below_pairs x (λ i k. g k) ∙ pairs_second x g),
    )

-- the sum of the high ends, from that of the low ends, where the widths up to x add up to at most D
pub amounts_apart : (x W D : ℕ) (items : List Item) (lo hi width : ℕ → ℕ) → weight_sum items ≤ W + weight_at items 0
    → ((k : ℕ) → hi k ≡ lo k + width k) → count_below (suc x) width ≤ D
    → amounts_to x hi items ≤ amounts_to x lo items + x * D * W
amounts_apart x W D items lo hi width all wide within =
    let apart : amounts_to x hi items ≡ amounts_to x lo items + count_pairs x
    (λ a k. a * weight_at items a * width k) =
    amounts_pairs x hi items
    ∙ pairs_same x _ (λ a k. a * weight_at items a * lo k + a * weight_at items a * width k)
    (λ a k. omega (arith, ap (λ t. a * weight_at items a * t) (wide k)))
    ∙ pairs_plus x (λ a k. a * weight_at items a * lo k) (λ a k. a * weight_at items a * width k)
    ∙ ap (λ t. t + count_pairs x (λ a k. a * weight_at items a * width k)) (sym (amounts_pairs x lo items)) in
    omega (arith, pairs_bound x W items width all, mul-le-mul_right (x * W) within)

part_above : (x top a w : ℕ) (at : ℕ → ℕ) → ((k : ℕ) → at k ≤ top)
    → cond (nat_le a x) (a * w * at (x - a)) 0 + cond (a == 0) (x * top * w) 0 ≤ x * top * w
part_above x top zero w at h = grind arith
part_above x top (suc b) w at h = omega (
  arith,
  part_le x top (suc b) w at h,
  weight_elsewhere (suc b) 0 (x * top * w) (λ e. omega arith),
)

weight_zero_times : (a w c : ℕ) → cond (a == 0) (c * w) 0 ≡ c * cond (a == 0) w 0
weight_zero_times a w c = grind arith

-- no more than x times the greatest of them times the weight of the amounts above 0
pub amounts_top : (x top W : ℕ) (at : ℕ → ℕ) (items : List Item) → ((k : ℕ) → at k ≤ top)
    → weight_sum items ≡ W + weight_at items 0 → amounts_to x at items ≤ x * top * W
amounts_top x top W at items h all = omega (arith, go items, ap (λ t. x * top * t) all)
  where
    go : (items : List Item) → amounts_to x at items + x * top * weight_at items 0 ≤ x * top * weight_sum items
    go [] = omega arith
    go (item ∷ items) = omega (
      arith,
      sum_by-cons (part x at) item items,
      ap (λ t. x * top * t) (sum_by-cons (λ (i : Item). cond (i.amount == 0) i.weight 0) item items),
      ap (λ t. x * top * t) (sum_by-cons (λ (i : Item). i.weight) item items),
      part_above x top item.amount item.weight at h,
      weight_zero_times item.amount item.weight (x * top),
      go items,
    )

-- more at each place, and the sum is no less
pub amounts_grow : (x : ℕ) (lo hi : ℕ → ℕ) (items : List Item) → ((k : ℕ) → lo k ≤ hi k)
    → amounts_to x lo items ≤ amounts_to x hi items
amounts_grow x lo hi items h = omega (
  arith,
  amounts_pairs x lo items,
  amounts_pairs x hi items,
  pairs_le x (λ a k. a * weight_at items a * lo k) (λ a k. a * weight_at items a * hi k)
      (λ a k. mul-le-mul_left (a * weight_at items a) (h k)),
)
