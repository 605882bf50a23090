-- One more cell.
use Rattle.dl_recursion.proofs.Common.{◌≡◌, ℕ, suc, zero, ◌+◌, ◌-◌, ◌*◌, ◌/◌, ◌^◌, ◌<◌, ◌≤◌, List, [], ◌∷◌, ◌++◌, length, get_or, arith, ◌∙◌, mul-pos, div-mul-le_self, sum_by, All, zero-lt-suc, length-append, Fraction, ◌*ℚ◌, ◌≤ℚ◌, whole, times_one, le_of_eq, Part, contribution, FollowsInWhole, EncloseScaled, AreScaledCells, AreInScale, most_cells, refl, ap, inr, Run, get_or-append, get_or_push}
use Rattle.dl_recursion.specs.declared.cells.ScaledCells.{ScaledCells}
use Rattle.dl_recursion.specs.declared.parts.Amounts.{Amounts}
use Rattle.dl_recursion.specs.Recursion.{AreFirst, HasCellsAs, IsBegun, IsGrown}
use Rattle.dl_recursion.specs.Runs.{all_parts}
use Rattle.dl_start.proofs.Rounding.{ceil_reaches}
use Rattle.dl_recursion.proofs.Pairs.{contribution_pairs}
use Rattle.dl_recursion.proofs.Steps.{low_step, high_step}

-- what holds at each place and of one more number holds at each place with it at the end
pushed_at : (P : ℕ → ℕ → Type 0) (xs : List ℕ) (x n : ℕ) → length xs ≡ n → ((k : ℕ) → k < n → P k (get_or xs k 0))
    → P n x → (k : ℕ) → k < suc n → P k (get_or (xs ++ x ∷ []) k 0)
pushed_at P xs x n e h last k b = grind (arith, get_or_push xs x 0 n e, get_or-append)

small_pushed : (xs : List ℕ) (x B : ℕ) → ((k : ℕ) → get_or xs k 0 ≤ B) → x ≤ B → (k : ℕ)
    → get_or (xs ++ x ∷ []) k 0 ≤ B
small_pushed [] x B h b zero = b
small_pushed [] x B h b (suc k) = omega arith
small_pushed (y ∷ ys) x B h b zero = h zero
small_pushed (y ∷ ys) x B h b (suc k) = small_pushed ys x B (λ k. h (suc k)) b k

-- a cell at the end
pub pushed : (r : ℕ → Fraction) (e n : ℕ) (low high : List ℕ) (x y : ℕ) → length low ≡ n → length high ≡ n
    → EncloseScaled r e n low high
    → whole (x * 2 ^ e) ≤ℚ whole (2 ^ 61) *ℚ r n → whole (2 ^ 61) *ℚ r n ≤ℚ whole (y * 2 ^ e)
    → EncloseScaled r e (suc n) (low ++ x ∷ []) (high ++ y ∷ [])
pushed r e n low high x y p q h f g = record {
  low_end = pushed_at (λ k t. whole (t * 2 ^ e) ≤ℚ whole (2 ^ 61) *ℚ r k) low x n p h.low_end f;
  high_end = pushed_at (λ k t. whole (2 ^ 61) *ℚ r k ≤ℚ whole (t * 2 ^ e)) high y n q h.high_end g;
}

pub cells_pushed : (low high : List ℕ) (first x y : ℕ) → AreScaledCells low high first → x ≤ 2 ^ 62 → y ≤ 2 ^ 62
    → AreScaledCells (low ++ x ∷ []) (high ++ y ∷ []) first
cells_pushed low high first x y h p q = record {
  alike = simp length-append (omega (arith, h.alike));
  low_small = small_pushed low x (2 ^ 62) h.low_small p;
  high_small = small_pushed high y (2 ^ 62) h.high_small q;
  low_settled = λ k l. get_or-append low (x ∷ []) 0 k (omega (arith, l, h.within)) ∙ h.low_settled k l;
  high_settled = λ k l. rw (get_or-append high (y ∷ []) 0 k (omega (arith, l, h.within, h.alike))) (h.high_settled k l);
  within = simp length-append (omega (arith, h.within));
}

module _ (parts : List Part) (a b q : ℕ) (r : ℕ → Fraction) (amounts : All (λ p. 0 < p.amount) parts) (q_pos : 0 < q)
    (F : FollowsInWhole parts a b q r) (e m : ℕ) (low high : List ℕ) (R : EncloseScaled r e (suc m) low high) where
  pub next_low : (d sum : ℕ) → d ≡ q * suc m → sum ≡ sum_by (contribution a b low (suc m)) parts
      → whole (sum / d * 2 ^ e) ≤ℚ whole (2 ^ 61) *ℚ r (suc m)
  next_low d sum p s =
      low_step m (q * suc m) (2 ^ e) (whole (2 ^ 61)) _ r (mul-pos q_pos (zero-lt-suc m)) (F.next m)
      (λ k. get_or low k 0) (sum / d)
      (rw (← p, ← contribution_pairs a b m low parts amounts, ← s) (div-mul-le_self sum d))
      (λ k l. R.low_end k (omega (arith, l)))

  pub next_high : (d sum : ℕ) → d ≡ q * suc m → sum ≡ sum_by (contribution a b high (suc m)) parts
      → whole (2 ^ 61) *ℚ r (suc m) ≤ℚ whole ((sum + (d - 1)) / d * 2 ^ e)
  next_high d sum p s =
      let dp : 0 < d = rw p (mul-pos q_pos (zero-lt-suc m)) in
      high_step m (q * suc m) (2 ^ e) (whole (2 ^ 61)) _ r (mul-pos q_pos (zero-lt-suc m)) (F.next m)
      (λ k. get_or high k 0) ((sum + (d - 1)) / d)
      (rw (← p, ← contribution_pairs a b m high parts amounts, ← s) (ceil_reaches sum d dp))
      (λ k l. R.high_end k (omega (arith, l)))

-- the cells before the last
pub kept_pushed : (x y : ScaledCells) (lo hi : ℕ) → length x.high.items ≡ length x.low.items
    → y.low.items ≡ x.low.items ++ lo ∷ [] → y.high.items ≡ x.high.items ++ hi ∷ [] → HasCellsAs x y
kept_pushed x y lo hi alike p q = record {
  low = λ k l. ap (λ t. get_or t k 0) p ∙ get_or-append x.low.items (lo ∷ []) 0 k l;
  high = λ k l. ap (λ t. get_or t k 0) q ∙ get_or-append x.high.items (hi ∷ []) 0 k (omega (arith, l, alike));
}

-- cell 0 alone
pub begun : (r : ℕ → Fraction) → r 0 ≡ whole 1 → EncloseScaled r 0 1 (2305843009213693952 ∷ []) (2305843009213693952 ∷ [])
begun r h = grind (arith, times_one, le_of_eq)

pub begun_small : (k : ℕ) → get_or (2305843009213693952 ∷ []) k 0 ≤ 2 ^ 62
begun_small zero = omega arith
begun_small (suc k) = omega arith

pub begun_in_scale : (runs : List Run) (x : ScaledCells) → IsBegun x → AreInScale runs x
begun_in_scale runs x h = record {
  sound = rw (h.low, h.high, h.first) (record {
    alike = refl;
    low_small = begun_small;
    high_small = begun_small;
    low_settled = λ k l. absurd (omega (arith, l));
    high_settled = λ k l. absurd (omega (arith, l));
    within = omega arith;
  });
  some = rw h.low (omega arith);
  windows = λ k run d l. absurd (omega (arith, rw h.windows at l));
  all_or_none = inr (ap length h.windows);
}

-- the first cells, and one more
pub begun_first : (parts : List Part) (a b q : ℕ) (x : ScaledCells) → IsBegun x → AreFirst parts a b q (length x.low.items) x
begun_first parts a b q x e = record {
  cells = refl;
  shift = rw e.shift (omega arith);
  sound = (begun_in_scale [] x e).sound;
  round = λ r F. rw (e.low, e.high, e.shift) (begun r F.start);
}

pub grown_first : (amounts : Amounts) (a b q : ℕ) (x y : ScaledCells) → IsGrown amounts a b q x y
    → AreFirst (all_parts amounts) a b q (length x.low.items) x
    → AreFirst (all_parts amounts) a b q (length y.low.items) y
grown_first amounts a b q x y g f = record {
  cells = refl;
  shift = omega (arith, g.shift, g.cells, f.shift);
  sound = g.in_scale.sound;
  round = λ r F. g.round r F (f.round r F);
}

-- the shift of the cells before the last leaves room for one more
pub shift_room : (shift n cells : ℕ) → shift ≤ 64 * n → n < cells → cells ≤ most_cells → shift + 64 < 2 ^ 64
shift_room shift n cells h l few = omega (arith, h, l, few)
