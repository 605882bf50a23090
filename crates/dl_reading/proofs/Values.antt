-- What tests of numbers and of the items of a list tell.
use Rattle.dl_reading.proofs.Common.{◌*◌, ◌≡◌, ◌<◌, ◌==◌, ℕ, List, get_or, Bool, false, arith, nat_tests, All, list_any, false_from_ne_true, list_any_at, Fraction, ◌≤ℚ◌, is_above, ltb-false}

pub never : {X : Type 0} (p : X → Bool) (xs : List X) → list_any p xs ≡ false → All (λ x. p x ≡ false) xs
never p xs e k d h = false_from_ne_true (p (get_or xs k d)) (λ yes. absurd (cc (list_any_at p xs k d h yes)))

pub not_above : (x y : Fraction) → is_above x y ≡ false → x ≤ℚ y
unfolding ◌≤ℚ◌
not_above x y h = ltb-false (y.num * x.den) (x.num * y.den) h

pub zero_above : (n : ℕ) → (n == 0) ≡ false → 0 < n
zero_above n h = grind (arith, nat_tests, h)
