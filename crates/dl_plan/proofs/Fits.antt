-- Fractions of small numbers are never refused.
use Rattle.dl_plan.proofs.Common.{ℕ, ◌≡◌, ◌^◌, ◌<◌, refl, subst, inl, inr, arith, Fraction, ◌over◌, FitsFrac, Result, Ok, Err, IsOk, Gives, over_num_le, over_den_le}

pub over_fits : (n d : ℕ) → 0 < d → n < 2 ^ 62 → d < 2 ^ 62 → FitsFrac (n over d)
over_fits n d h num den = record { num = omega (arith, over_num_le n d h); den = omega (arith, over_den_le n d h) }

pub given_ok : {E : Type 0} (r : Result Fraction E) (x : Fraction) → Gives r x → FitsFrac x → IsOk r
given_ok (Ok y) x given fits = refl
given_ok (Err e) x (inl far) fits = absurd (omega (arith, far, fits.num))
given_ok (Err e) x (inr far) fits = absurd (omega (arith, far, fits.den))

-- the answer of a call that was not refused
pub given_value : {E : Type 0} (r : Result Fraction E) (x y : Fraction) → Gives r x → r ≡ Ok y → y ≡ x
given_value r x y given e = (subst (λ s. Gives s x) e given).0
