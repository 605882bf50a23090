-- High ends as low ends and widths: what the products of high ends are above those of low ends.
use Rattle.dl_transform.proofs.Common.{ℕ, zero, suc, ◌≡◌, ◌+◌, ◌*◌, ◌<◌, ◌≤◌, List, [], ◌∷◌, length, get_or, sum_by, mul-le-mul_right, arith, sym, ap, ap₂, ◌∙◌, Same, count_pairs, eval, min, sum_by-cons, le_trans, below_first, below_none, pairs_le, pairs_plus, pairs_same, count_below, high_at, low_sum, high_sum, mixed_sum}
use mathlib.Core.Path.{fun_ext}
use Rattle.dl_transform.proofs.Residues.{same_of, same_plus, same_times, same_trans}
use Rattle.dl_transform.proofs.Values.{eval_linear}
use Rattle.dl_transform.proofs.Wholes.{pairs_bound, product_value}

-- products of high ends
pub high_is : (a u b v : List ℕ) (s : ℕ) → high_sum a u b v s ≡ low_sum a b s + mixed_sum a u b v s
high_is a u b v s =
    pairs_same s _ _ (λ i j. parts (get_or a i 0) (get_or u i 0) (get_or b j 0) (get_or v j 0))
    ∙ pairs_plus s (λ i j. get_or a i 0 * get_or b j 0)
    (λ i j. get_or a i 0 * get_or v j 0 + get_or u i 0 * (get_or b j 0 + get_or v j 0))
  where
    parts : (a u b v : ℕ) → (a + u) * (b + v) ≡ a * b + (a * v + u * (b + v))
    parts a u b v = omega arith

-- in three sums of products
mixed_parts : (a u b v : List ℕ) (s : ℕ)
    → mixed_sum a u b v s ≡ low_sum a v s + (low_sum u b s + low_sum u v s)
mixed_parts a u b v s =
    pairs_same s _ _ (λ i j. parts (get_or a i 0) (get_or u i 0) (get_or b j 0) (get_or v j 0))
    ∙ pairs_plus s (λ i j. get_or a i 0 * get_or v j 0) (λ i j. get_or u i 0 * get_or b j 0 + get_or u i 0 * get_or v j 0)
    ∙ ap (λ t. low_sum a v s + t) (pairs_plus s (λ i j. get_or u i 0 * get_or b j 0) (λ i j. get_or u i 0 * get_or v j 0))
  where
    parts : (a u b v : ℕ) → a * v + u * (b + v) ≡ a * v + (u * b + u * v)
    parts a u b v = omega arith

sum_value : (n : ℕ) (f g : ℕ → ℕ) (r : ℕ) → eval n (λ s. f s + g s) r ≡ eval n f r + eval n g r
sum_value n f g r =
    ap (λ h. eval n h r) (fun_ext (λ s. one (f s) (g s))) ∙ eval_linear n 1 f g r
    ∙ sym (one (eval n f r) (eval n g r))
  where
    one : (x y : ℕ) → x + y ≡ x + 1 * y
    one x y = omega arith

-- the value of these sums, where there is room for them
pub mixed_value : (n : ℕ) (a u b v : List ℕ) (r : ℕ) → length a + length b ≤ n → length u ≤ length a
    → length v ≤ length b
    → eval n (mixed_sum a u b v) r ≡ eval n (λ i. get_or a i 0) r * eval n (λ j. get_or v j 0) r
    + eval n (λ i. get_or u i 0) r * (eval n (λ j. get_or b j 0) r + eval n (λ j. get_or v j 0) r)
mixed_value n a u b v r room first second =
    ap (λ h. eval n h r) (fun_ext (mixed_parts a u b v))
    ∙ sum_value n (low_sum a v) (λ s. low_sum u b s + low_sum u v s) r
    ∙ ap₂ (λ s t. s + t) (product_value n a v r (omega (arith, room, second)))
    (sum_value n (low_sum u b) (low_sum u v) r
    ∙ ap₂ (λ s t. s + t) (product_value n u b r (omega (arith, room, first)))
    (product_value n u v r (omega (arith, room, first, second)))
    ∙ parts (eval n (λ i. get_or u i 0) r) (eval n (λ j. get_or b j 0) r) (eval n (λ j. get_or v j 0) r))
  where
    parts : (u b v : ℕ) → u * b + u * v ≡ u * (b + v)
    parts u b v = omega arith

-- the values of the parts give that of the whole
pub mixed_same : (p n : ℕ) (a u b v : List ℕ) (r w x y z : ℕ) → length a + length b ≤ n → length u ≤ length a
    → length v ≤ length b
    → Same p w (eval n (λ i. get_or a i 0) r) → Same p x (eval n (λ i. get_or u i 0) r)
    → Same p y (eval n (λ j. get_or b j 0) r) → Same p z (eval n (λ j. get_or v j 0) r)
    → Same p (w * z + x * (y + z)) (eval n (mixed_sum a u b v) r)
mixed_same p n a u b v r w x y z room first second lows widths others narrow =
    same_trans (same_plus (same_times lows narrow) (same_times widths (same_plus others narrow)))
    (same_of p (sym (mixed_value n a u b v r room first second)))

sum_of_second : (s : ℕ) (h : ℕ → ℕ) → count_pairs s (λ i j. h j) ≡ count_below (suc s) h
unfolding count_pairs count_below
sum_of_second zero h = omega arith
sum_of_second (suc s) h = omega (arith, sum_of_second s h)

items_times : (n m : ℕ) (b : List ℕ) → count_below n (λ j. m * get_or b j 0) ≤ m * sum_by (λ x. x) b
unfolding count_below
items_times n m [] = omega (arith, below_none n (λ j. m * 0) (λ i _. omega arith))
items_times zero m (x ∷ xs) = omega arith
items_times (suc n) m (x ∷ xs) =
    rw sum_by-cons (omega (arith, below_first n (λ j. m * get_or (x ∷ xs) j 0), items_times n m xs))

-- the sum of the second list times what no item of the first is above
second_bound : (a : ℕ → ℕ) (b : List ℕ) (m s : ℕ) → ((k : ℕ) → a k ≤ m)
    → count_pairs s (λ i j. a i * get_or b j 0) ≤ m * sum_by (λ x. x) b
second_bound a b m s h =
    le_trans (pairs_le s (λ i j. a i * get_or b j 0) (λ i j. m * get_or b j 0)
    (λ i j. mul-le-mul_right (get_or b j 0) (h i)))
    (rw (sum_of_second s (λ j. m * get_or b j 0)) (items_times (suc s) m b))

-- so no sum passes what both come to
pub mixed_small : (a u b v : List ℕ) (all low width most wide s p : ℕ) → all ≡ sum_by (λ x. x) a
    → low ≡ sum_by (λ x. x) b → width ≡ sum_by (λ x. x) v → ((k : ℕ) → get_or v k 0 ≤ most)
    → ((k : ℕ) → get_or u k 0 ≤ wide) → most * all + wide * (low + width) < p → mixed_sum a u b v s < p
mixed_small a u b v all low width most wide s p e f g above over small =
    rw (mixed_parts a u b v s) (omega (
      arith,
      pairs_bound a (λ j. get_or v j 0) most s above,
      second_bound (λ i. get_or u i 0) b wide s over,
      second_bound (λ i. get_or u i 0) v wide s over,
      ap (λ t. t * most) e,
      ap (λ t. wide * t) f,
      ap (λ t. wide * t) g,
      small,
    ))

-- nor does a sum of products of high ends
pub high_small : (a u b v : List ℕ) (low wide most s bound : ℕ) → low ≡ sum_by (λ x. x) a → wide ≡ sum_by (λ x. x) u
    → ((k : ℕ) → high_at b v k ≤ most) → most * (low + wide) < bound → high_sum a u b v s < bound
high_small a u b v low wide most s bound e f above small =
    rw (pairs_same s _ _ (λ i j. parts (get_or a i 0) (get_or u i 0) (high_at b v j))
    ∙ pairs_plus s (λ i j. get_or a i 0 * high_at b v j) (λ i j. get_or u i 0 * high_at b v j))
    (omega (
      arith,
      pairs_bound a (high_at b v) most s above,
      pairs_bound u (high_at b v) most s above,
      ap (λ t. most * t) e,
      ap (λ t. most * t) f,
      small,
    ))
  where
    parts : (a u h : ℕ) → (a + u) * h ≡ a * h + u * h
    parts a u h = omega arith

-- a number that was cut at a bound and is below it is as it was
pub uncut : (x m r : ℕ) → r ≡ min x m → r < m → x ≡ r
uncut x m r is below = grind arith

-- a sum of products of high ends is no less than either part of it
pub low_below : (a u b v : List ℕ) (s bound : ℕ) → high_sum a u b v s < bound → low_sum a b s < bound
low_below a u b v s bound h = omega (arith, high_is a u b v s, h)

pub mixed_below : (a u b v : List ℕ) (s bound : ℕ) → high_sum a u b v s < bound → mixed_sum a u b v s < bound
mixed_below a u b v s bound h = omega (arith, high_is a u b v s, h)
