-- Calculating modulo 2^128.
use Rattle.dl_halves.proofs.Common.{ℕ, List, get_or, ap₂, below_more, count_below, zero, suc, ◌≡◌, ◌+◌, ◌-◌, ◌*◌, ◌/◌, ◌%◌, ◌^◌, arith, sym, ap, ◌∙◌, IsSame, count_pairs, add-mul-mod_self_right}

-- two numbers that are the same differ by whole turns
record Turns (x y : ℕ) : Type 0 where
  left : ℕ
  right : ℕ
  meet : x + left * 2 ^ 128 ≡ y + right * 2 ^ 128

turns : {x y : ℕ} → IsSame x y → Turns x y
turns {x} {y} e = record { left = y / 2 ^ 128; right = x / 2 ^ 128; meet = omega (arith, e.remainders) }

turned : (x y p q : ℕ) → x + p * 2 ^ 128 ≡ y + q * 2 ^ 128 → IsSame x y
turned x y p q e = record {
  remainders = sym (add-mul-mod_self_right x p (2 ^ 128)) ∙ ap (λ t. t % 2 ^ 128) e
      ∙ add-mul-mod_self_right y q (2 ^ 128);
}

pub same : (x y : ℕ) → x ≡ y → IsSame x y
same x y e = record { remainders = ap (λ t. t % 2 ^ 128) e }

pub same_sym : {x y : ℕ} → IsSame x y → IsSame y x
same_sym e = record { remainders = sym e.remainders }

pub same_then : {x y z : ℕ} → IsSame x y → IsSame y z → IsSame x z
same_then e h = record { remainders = e.remainders ∙ h.remainders }

pub same_plus : {x y u v : ℕ} → IsSame x y → IsSame u v → IsSame (x + u) (y + v)
same_plus {x} {y} {u} {v} e h =
    let s = turns e in
    let t = turns h in
    turned (x + u) (y + v) (s.left + t.left) (s.right + t.right) (omega (arith, s.meet, t.meet))

times_turned : (x y u p q : ℕ) → x + p * 2 ^ 128 ≡ y + q * 2 ^ 128 → x * u + p * u * 2 ^ 128 ≡ y * u + q * u * 2 ^ 128
times_turned x y u p q e = omega (arith, ap (λ t. t * u) e)

same_times_left : {x y : ℕ} (u : ℕ) → IsSame x y → IsSame (x * u) (y * u)
same_times_left {x} {y} u e = let s = turns e in turned (x * u) (y * u) (s.left * u) (s.right * u)
    (times_turned x y u s.left s.right s.meet)

pub same_times : {x y u v : ℕ} → IsSame x y → IsSame u v → IsSame (x * u) (y * v)
same_times {x} {y} {u} {v} e h =
    let swapped : IsSame (u * y) (v * y) = same_times_left y h in
    same_then (same_times_left u e) (same_then (same (y * u) (u * y) (omega arith))
    (same_then swapped (same (v * y) (y * v) (omega arith))))

-- equal parts can be taken off
pub same_off : (x y z : ℕ) → IsSame (x + z) (y + z) → IsSame x y
same_off x y z e = let s = turns e in turned x y s.left s.right (omega (arith, s.meet))

pub same_pairs : (n : ℕ) (f g : ℕ → ℕ → ℕ) → ((i j : ℕ) → IsSame (f i j) (g i j))
    → IsSame (count_pairs n f) (count_pairs n g)
unfolding count_pairs
same_pairs zero f g h = h zero zero
same_pairs (suc n) f g h = same_plus (h zero (suc n))
    (same_pairs n (λ i j. f (suc i) j) (λ i j. g (suc i) j) (λ i j. h (suc i) j))

-- one product more in the sum over the first places, modulo 2^128
pub column_more : (xs ys : List ℕ) (s i sum product total a b : ℕ)
    → IsSame sum (count_below i (λ i. get_or xs i 0 * get_or ys (s - i) 0))
    → a ≡ get_or xs i 0 → b ≡ get_or ys (s - i) 0 → IsSame product (a * b) → IsSame total (sum + product)
    → IsSame total (count_below (i + 1) (λ i. get_or xs i 0 * get_or ys (s - i) 0))
column_more xs ys s i sum product total a b before e h made added =
    let here : IsSame product (get_or xs i 0 * get_or ys (s - i) 0) =
    same_then made (same _ _ (ap₂ (λ u v. u * v) e h)) in
    same_then added (same_then (same_plus before here)
    (same_sym (same _ _ (below_more i (λ i. get_or xs i 0 * get_or ys (s - i) 0)))))
