-- The two parts of a fraction, and those of a number over another.
use Rattle.dl_exact.proofs.Common.{◌≡◌, ℕ, ◌+◌, ◌*◌, ◌/◌, ◌<◌, ◌≤◌, arith, refl, sym, ap, subst, ◌∙◌, eq-one_of_dvd-one, gcd, Fraction, ◌over◌, whole, ◌+ℚ◌, ◌*ℚ◌, ◌<ℚ◌, ◌/ℚ◌, div-le_self, Ordering, Less, Equal, Greater, MatchOrdering, nat_cmp, ranked}
use Rattle.dl_exact.proofs.GcdLaws.{gcd_is, cut_left, cut_right, cut_pos}
use Rattle.dl_exact.proofs.Over.{over_num, over_den, over_self, over_same, over_lt, lt_over}
use Rattle.dl_exact.proofs.Laws.{one_pos}

-- numbers in lowest terms are the parts of their fraction
pub lowest_self : (n d : ℕ) (h : 0 < d) (e : gcd n d ≡ 1)
    → record { num = n; den = d; positive = h; lowest = e } ≡ n over d
lowest_self n d h e = sym (over_self (record { num = n; den = d; positive = h; lowest = e }))

pub lowest_num : (n d : ℕ) → 0 < d → gcd n d ≡ 1 → (n over d).num ≡ n
lowest_num n d h e = ap (λ (x : Fraction). x.num) (sym (lowest_self n d h e))

pub lowest_den : (n d : ℕ) → 0 < d → gcd n d ≡ 1 → (n over d).den ≡ d
lowest_den n d h e = ap (λ (x : Fraction). x.den) (sym (lowest_self n d h e))

-- a whole number stands over 1
one_lowest : (n : ℕ) → gcd n 1 ≡ 1
one_lowest n = eq-one_of_dvd-one (gcd_is n 1).1

pub whole_num : (n : ℕ) → (whole n).num ≡ n
whole_num n = lowest_num n 1 one_pos (one_lowest n)

pub whole_den : (n : ℕ) → (whole n).den ≡ 1
whole_den n = lowest_den n 1 one_pos (one_lowest n)

-- the parts are no greater than the numbers
pub over_num_le : (n d : ℕ) → 0 < d → (n over d).num ≤ n
over_num_le n d h = rw (over_num n d h) (div-le_self n (gcd n d))

pub over_den_le : (n d : ℕ) → 0 < d → (n over d).den ≤ d
over_den_le n d h = rw (over_den n d h) (div-le_self d (gcd n d))

-- the common divisor taken out changes nothing
pub cut_same : (n d : ℕ) → 0 < d → (n / gcd n d) over (d / gcd n d) ≡ n over d
cut_same n d h =
    let g = gcd n d in
    over_same _ _ _ _ (cut_pos n d h) h
    (omega (arith, ap (λ t. n / g * t) (cut_right n d), ap (λ t. t * (d / g)) (cut_left n d)))

-- a fraction is above 0 exactly where its first part is
pub num_pos : (x : Fraction) → whole 0 <ℚ x → 0 < x.num
num_pos x h =
    omega (arith, lt_over 0 1 x.num x.den one_pos x.positive (subst (λ t. whole 0 <ℚ t) (sym (over_self x)) h))

pub pos_num : (x : Fraction) → 0 < x.num → whole 0 <ℚ x
pos_num x h = subst (λ t. whole 0 <ℚ t) (over_self x) (over_lt 0 1 x.num x.den one_pos x.positive (omega arith))

-- ---- sum, product, quotient and order by the parts

pub sum_is : (x y : Fraction) → (x.num * y.den + y.num * x.den) over (x.den * y.den) ≡ x +ℚ y
unfolding ◌+ℚ◌
sum_is x y = refl

pub product_is : (x y : Fraction) → (x.num * y.num) over (x.den * y.den) ≡ x *ℚ y
unfolding ◌*ℚ◌
product_is x y = refl

pub quotient_is : (x y : Fraction) → (x.num * y.den) over (x.den * y.num) ≡ x /ℚ y
unfolding ◌/ℚ◌
quotient_is x y = refl

-- the order of two fractions is that of the cross products
pub by_cross : (x y : Fraction) (r : Ordering) → r ≡ nat_cmp (x.num * y.den) (y.num * x.den)
    → MatchOrdering r (x <ℚ y) (x ≡ y) (y <ℚ x)
unfolding ◌<ℚ◌
by_cross x y Less e = ranked (x.num * y.den) (y.num * x.den) Less e
by_cross x y Equal e =
    sym (over_self x)
    ∙ over_same _ _ _ _ x.positive y.positive (ranked (x.num * y.den) (y.num * x.den) Equal e)
    ∙ over_self y
by_cross x y Greater e = ranked (x.num * y.den) (y.num * x.den) Greater e
