-- Whole numbers and quotients.
use Rattle.dl_rules.proofs.Common.{ℕ, ◌≡◌, ◌∙◌, ◌*◌, ◌≤◌, nat_lt, true, false, not, refl, sym, ap, subst, arith, ltb-false, Fraction, whole, ◌/ℚ◌, ◌<ℚ◌, whole_num, whole_den, is_whole, passes, ◌/◌, ◌%◌, nat_eq, eqb-true, eq-eqb, same, divides_whole, whole_divides, quotient_whole}
use Rattle.std.specs.Cmp.{both_ways}
use Rattle.dl_rules.proofs.ListedCounts.{passes_is}

-- ---- whole numbers

pub whole_is : (x : Fraction) → is_whole x ≡ true → whole x.num ≡ x
whole_is x h = same (whole x.num) x (whole_num x.num) (whole_den x.num ∙ sym (eqb-true x.den 1 h))

pub passes_whole : (most t : ℕ) (x : Fraction) → whole t ≡ x → nat_lt most t ≡ passes x most
passes_whole most t x is = subst (λ y. nat_lt most t ≡ passes y most) is
    (parts (whole_num t) (whole_den t) ∙ passes_is most (whole t))
  where
    once : most * 1 ≡ most
    once = omega arith

    parts : (whole t).num ≡ t → (whole t).den ≡ 1 → nat_lt most t ≡ nat_lt (most * (whole t).den) (whole t).num
    parts n d = rw (n, d, once) refl

pub few_is : (most t : ℕ) (x : Fraction) → whole t ≡ x → passes x most ≡ false → t ≤ most
few_is most t x is h = ltb-false most t (passes_whole most t x is ∙ h)

-- n over e is the first value, m over d the second
module _ (x y : Fraction) (n d e m : ℕ) (above : whole 0 <ℚ y) (pn : n ≡ x.num) (pd : d ≡ y.den) (pe : e ≡ x.den)
    (pm : m ≡ y.num) where
  pub no_multiple : not (nat_eq (n * d % (e * m)) 0) ≡ not (is_whole (x /ℚ y))
  no_multiple = ap not (both_ways _ _ (λ t. eq-eqb (x /ℚ y).den 1 (divides_whole x y n d e m above pn pd pe pm t))
      (λ t. whole_divides x y n d e m above pn pd pe pm (eqb-true (x /ℚ y).den 1 t)))

  pub times_whole : is_whole (x /ℚ y) ≡ true → whole (n * d / (e * m)) ≡ x /ℚ y
  times_whole h = sym (quotient_whole x y n d e m above pn pd pe pm (eqb-true (x /ℚ y).den 1 h))
