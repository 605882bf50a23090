-- The ends of a grid's cells as lists.
use Rattle.dl_product.proofs.Common.{ℕ, ◌≡◌, ◌+◌, ◌*◌, ◌<◌, ◌≤◌, List, [], inl, inr, length, get_or, arith, ap₂, cases_lt, get_or_past, pair_sum, pairs_same, ends_fit, All, ◌^◌, ◌%◌, get_or_default, Iv, high_le, high_sum, AreWords, Head, Operand, ArePaired, AreWidths, IsHead, AreFactors, HoldsEnds, LieFrom, IsWindow}

nothing_low : (x y : ℕ) → x ≤ y → y ≡ 0 → x ≡ 0
nothing_low x y h e = omega (arith, h, e)

-- the lists that are read of paired ends
module _ (lows highs : List ℕ) (paired : ArePaired lows highs) (start e step : ℕ) (window : IsWindow highs start e)
    (apart : (i : ℕ) → 0 < i % step → get_or highs (start + i) 0 ≡ 0) where
  -- outside of a window of the high ends the low ends are 0 too
  pub low_window : IsWindow lows start e
  low_window = record {
    early = omega (arith, window.early, paired.alike);
    order = window.order;
    within = omega (arith, window.within, paired.alike);
    before = λ i b. nothing_low _ _ (paired.order i) (window.before i b);
    after = λ i b. nothing_low _ _ (paired.order i) (window.after i b);
  }

  pub high_from : (items : List ℕ) → ((k : ℕ) → get_or items k 0 ≡ get_or highs (start + k * step) 0)
      → LieFrom start step (λ k. get_or items k 0) (λ x. get_or highs x 0)
  high_from items each = record { at = each; before = window.before; between = apart }

  pub low_from : (items : List ℕ) → ((k : ℕ) → get_or items k 0 ≡ get_or lows (start + k * step) 0)
      → LieFrom start step (λ k. get_or items k 0) (λ x. get_or lows x 0)
  low_from items each = record {
    at = each;
    before = λ i b. nothing_low _ _ (paired.order i) (window.before i b);
    between = λ i off. nothing_low _ _ (paired.order (start + i)) (apart i off);
  }

pub words_of : (a u h : List ℕ) → length u ≡ length a → AreWidths a u h → ((k : ℕ) → get_or h k 0 ≤ 2 ^ 56) → AreWords a u
words_of a u h long each small = record {
  within = omega (arith, long);
  low = λ k d inside. rw (get_or_default a k d 0 inside) (omega (arith, each k, small k));
  width = λ k d inside. rw (get_or_default u k d 0 inside) (omega (arith, each k, small k));
}

-- numbers of at most 2^56 are the low ends of cells with no widths
pub words_alone : (a : List ℕ) → ((k : ℕ) → get_or a k 0 ≤ 2 ^ 56) → AreWords a []
words_alone a small = record {
  within = omega arith;
  low = λ k d inside. rw (get_or_default a k d 0 inside) (omega (arith, small k));
  width = λ k d inside. absurd (omega (arith, inside));
}

pub ends_sum : (a u h b v k : List ℕ) (s : ℕ) → AreWidths a u h → AreWidths b v k → high_sum a u b v s ≡ pair_sum h k s
ends_sum a u h b v k s first second = pairs_same s _ _ (λ i j. ap₂ (λ x y. x * y) (first i) (second j))

-- past the high ends there are no low ends
pub low_past : (o : Operand) (i : ℕ) → length o.highs.items.now ≤ i → get_or o.cells.lows.now i 0 ≡ 0
low_past o i past = omega (arith, o.widths i, get_or_past o.highs.items.now i 0 past)

ends_small : (B p d : ℕ) (f : ℕ → ℕ) (xs : List ℕ) → ((x : ℕ) → f x ≤ 2 ^ B) → LieFrom p d (λ k. get_or xs k 0) f
    → All (λ x. x ≤ 2 ^ B) xs
ends_small B p d f xs below l k t inside = omega (arith, get_or_default xs k t 0 inside, l.at k, below (p + k * d))

-- no end of a head is above 1
head_small : {B : ℕ} (g : List (Iv B)) (n : ℕ) (head : Head) → IsHead n g head → (x : ℕ) → get_or head.highs.now x 0 ≤ 2 ^ B
head_small {B} g n head is x = elim (cases_lt x (length head.highs.now)) [
  | inl b ↦ omega (
    arith,
    get_or_default head.highs.now x head.rest 0 b,
    is.high x (omega (arith, b, is.within)),
    high_le g x (2 ^ B) is.grid.small,
  )
  | inr past ↦ omega (arith, get_or_past head.highs.now x 0 past)
]

low_small : {B : ℕ} (g : List (Iv B)) (n : ℕ) (head : Head) → IsHead n g head → (x : ℕ) → get_or head.lows.now x 0 ≤ 2 ^ B
low_small g n head is x = omega (arith, head.ends.paired.order x, head_small g n head is x)

-- what two operands hold of the heads of grids can be multiplied
pub held_fit : {B : ℕ} (g h : List (Iv B)) (n : ℕ) (one other : Head) (a b : Operand) → 1 ≤ n → n ≤ length g
    → IsHead n g one → IsHead n h other → HoldsEnds one.lows.now one.highs.now a
    → HoldsEnds other.lows.now other.highs.now b → b.step ≡ a.step → AreFactors a b n
held_fit {B} g h n one other a b some within is are p q step = record {
  step = step;
  lows = ends_fit g _ _ n is.grid some within
      (ends_small B a.lows.start a.step _ a.lows.items.now (low_small g n one is) p.low)
      (ends_small B b.lows.start b.step _ b.lows.items.now (low_small h n other are) q.low);
  highs = ends_fit g _ _ n is.grid some within
      (ends_small B a.highs.start a.step _ a.highs.items.now (head_small g n one is) p.high)
      (ends_small B b.highs.start b.step _ b.highs.items.now (head_small h n other are) q.high);
}
