-- Products and sums of fractions in another order.
use Rattle.dl_exact.proofs.Common.{◌≡◌, Fraction, ◌+ℚ◌, ◌*ℚ◌}
use Rattle.dl_exact.proofs.Laws.{ring}

pub plus_swap : (x y z : Fraction) → x +ℚ (y +ℚ z) ≡ x +ℚ z +ℚ y
plus_swap x y z = simp ring

pub times_right_comm : (x y z : Fraction) → x *ℚ y *ℚ z ≡ x *ℚ z *ℚ y
times_right_comm x y z = simp ring

pub times_swap : (x y z : Fraction) → x *ℚ (y *ℚ z) ≡ x *ℚ z *ℚ y
times_swap x y z = simp ring

pub times_second : (x y z : Fraction) → x *ℚ y *ℚ z ≡ y *ℚ (x *ℚ z)
times_second x y z = simp ring

pub times_reverse : (x y z : Fraction) → x *ℚ (y *ℚ z) ≡ z *ℚ (y *ℚ x)
times_reverse x y z = simp ring

pub times_inward : (x y z w : Fraction) → x *ℚ y *ℚ (z *ℚ w) ≡ x *ℚ (y *ℚ w) *ℚ z
times_inward x y z w = simp ring

pub times_outward : (x y z w : Fraction) → x *ℚ (y *ℚ z) *ℚ w ≡ x *ℚ z *ℚ (y *ℚ w)
times_outward x y z w = simp ring
