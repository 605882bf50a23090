-- Products of values at the lowest nodes, over 2^64, and the polynomials that they belong to.
use Rattle.dl_transform.proofs.Common.{ℕ, ◌≡◌, ◌+◌, ◌*◌, ◌^◌, ◌<◌, ◌≤◌, List, length, get_or, arith, sym, Same, point, low_sum, mixed_sum, AreOver, AreValues, mixed_at, product_at, value_at, Table}
use Rattle.dl_transform.proofs.Residues.{same_of, same_refl, same_times, same_trans}
use Rattle.dl_transform.proofs.Widths.{mixed_same}
use Rattle.dl_transform.proofs.Wholes.{product_value}

-- of two lists
pub product_over : (t : Table) (l n : ℕ) (a b x y z : List ℕ) → n ≡ 2 ^ l → length a + length b ≤ 2 ^ l
    → AreValues t l (λ i. get_or a i 0) x → AreValues t l (λ j. get_or b j 0) y
    → AreOver t.p n (product_at x y) z → AreOver t.p (2 ^ l) (value_at t (2 ^ l) (low_sum a b)) z
product_over t l n a b x y z size room first second over k h =
    same_trans (over k (omega (arith, size, h))) (same_trans (same_times (first k h) (second k h))
    (same_of t.p (sym (product_value (2 ^ l) a b (point t.p t.roots.items k) room))))

-- of the low ends and widths of two lists
pub mixed_over : (t : Table) (l n : ℕ) (a u b v x w y s z : List ℕ) → n ≡ 2 ^ l → length a + length b ≤ 2 ^ l
    → length u ≤ length a → length v ≤ length b
    → AreValues t l (λ i. get_or a i 0) x → AreValues t l (λ i. get_or u i 0) w
    → AreValues t l (λ j. get_or b j 0) y → AreValues t l (λ j. get_or v j 0) s
    → AreOver t.p n (mixed_at x y w s) z → AreOver t.p (2 ^ l) (value_at t (2 ^ l) (mixed_sum a u b v)) z
mixed_over t l n a u b v x w y s z size room first second lows widths others narrow over k h =
    same_trans (over k (omega (arith, size, h))) (mixed_same t.p (2 ^ l) a u b v (point t.p t.roots.items k) _ _ _ _
    room first second (lows k h) (widths k h) (others k h) (narrow k h))

-- the widths times the sums of low and high ends
pub square_over : (p n m : ℕ) (x w y z : List ℕ) → n ≡ m
    → ((i : ℕ) → i < n → Same p (get_or y i 0) (2 * get_or x i 0 + get_or w i 0))
    → AreOver p m (product_at w y) z → AreOver p m (mixed_at x x w w) z
square_over p n m x w y z alike sums over k h =
    same_trans (over k h) (same_trans (same_times (same_refl p (get_or w k 0)) (sums k (rw alike h)))
    (same_of p (parts (get_or x k 0) (get_or w k 0))))
  where
    parts : (x w : ℕ) → w * (2 * x + w) ≡ x * w + w * (x + w)
    parts x w = omega arith
