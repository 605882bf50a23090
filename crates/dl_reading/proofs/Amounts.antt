-- An amount of money in whole buckets, and its flaws.
use Rattle.dl_reading.proofs.Common.{ℕ, ◌≡◌, ◌∙◌, ◌*◌, ◌/◌, ◌%◌, ◌<◌, ◌≤◌, nat_lt, not, true, false, Option, sym, ap, subst, arith, inl, inr, cases_lt, lt-ltb, eq-eqb, eqb-true, Fraction, whole, ◌<ℚ◌, over_lt, whole_num, Span, at_if, is_whole, is_above, not_at, not-false, number_of, IsRead, buckets, spans, no_flaws, flaws_of_amount, min, nat_eq, ltb-true, both_ways, lt_over}
use Rattle.dl_severity.proofs.Whole.{same, pos, divides_whole, whole_divides, quotient_whole, whole_lt}
use Rattle.dl_reading.proofs.Agreeing.{agree_same}

yes_above : (x y : Fraction) → y <ℚ x → is_above x y ≡ true
unfolding ◌<ℚ◌
yes_above x y h = lt-ltb (y.num * x.den) (x.num * y.den) h

above_yes : (x y : Fraction) → is_above x y ≡ true → y <ℚ x
unfolding ◌<ℚ◌
above_yes x y h = ltb-true (y.num * x.den) (x.num * y.den) h

-- a whole number that is not above the most
not_far : (most q : ℕ) (x : Fraction) → x ≡ whole q → is_above x (whole most) ≡ false → q ≤ most
not_far most q x e near = elim (cases_lt most q) [
  | inl far ↦ absurd (cc (
    near,
    yes_above x (whole most)
        (subst (λ y. whole most <ℚ y) (sym e) (whole_lt most q far)),
  ))
  | inr few ↦ few
]

-- n over e is the numerator and the denominator of an amount, m over d those of the bucket size
module _ (most : ℕ) (x bs : Fraction) (n d e m : ℕ) (h : whole 0 <ℚ bs) (pn : n ≡ x.num) (pd : d ≡ bs.den)
    (pe : e ≡ x.den) (pm : m ≡ bs.num) where
  off_grid_is : not (nat_eq (n * d % (e * m)) 0) ≡ not (is_whole (buckets bs x))
  off_grid_is = ap not (both_ways _ _ (λ t. eq-eqb (buckets bs x).den 1 (divides_whole x bs n d e m h pn pd pe pm t))
      (λ t. whole_divides x bs n d e m h pn pd pe pm (eqb-true (buckets bs x).den 1 t)))

  far : whole most <ℚ buckets bs x → e * m * most < n * d
  far above = omega (
    arith,
    lt_over most 1 (n * d) (e * m) (omega arith) (pos x bs n d e m h pn pd pe pm) (rw (same x bs n d e m h pn pd pe pm) at above),
  )

  is_far : e * m * most < n * d → whole most <ℚ buckets bs x
  is_far more = rw (same x bs n d e m h pn pd pe pm)
      (over_lt most 1 (n * d) (e * m) (omega arith) (pos x bs n d e m h pn pd pe pm) (omega (arith, more)))

  too_far_is : nat_lt (e * m * most) (n * d) ≡ is_above (buckets bs x) (whole most)
  too_far_is = both_ways _ _ (λ t. yes_above (buckets bs x) (whole most) (is_far (ltb-true _ _ t)))
      (λ t. lt-ltb _ _ (far (above_yes (buckets bs x) (whole most) t)))

  number_is : (q : ℕ) → q ≡ min (n * d / (e * m)) most → not (is_whole (buckets bs x)) ≡ false
      → is_above (buckets bs x) (whole most) ≡ false → q ≡ number_of bs x
  number_is q is on_grid near =
      let k : ℕ = n * d / (e * m) in
      let value : buckets bs x ≡ whole k =
      quotient_whole x bs n d e m h pn pd pe pm (eqb-true (buckets bs x).den 1 (not-false _ on_grid)) in
      let least : min k most ≡ k = omega (arith, not_far most k (buckets bs x) value near) in
      is ∙ least ∙ sym (ap (λ (y : Fraction). y.num) value ∙ whole_num k)

  pub amount_read : (span : Span) (q : ℕ) (off too : Option Span) → q ≡ min (n * d / (e * m)) most
      → off ≡ at_if (not (nat_eq (n * d % (e * m)) 0)) span → too ≡ at_if (nat_lt (e * m * most) (n * d)) span
      → IsRead (flaws_of_amount most bs x span) (number_of bs x)
      (record {
        part = q;
        flaws = record no_flaws { off_grid = off; too_far = too };
      })
  amount_read span q off too is off_is too_is =
      let off_told : off ≡ at_if (not (is_whole (buckets bs x))) span = off_is ∙ ap (λ b. at_if b span) off_grid_is in
      let far_told : too ≡ at_if (is_above (buckets bs x) (whole most)) span =
      too_is ∙ ap (λ b. at_if b span) too_far_is in
      record {
        first = rw (off_told, far_told) (agree_same (spans (flaws_of_amount most bs x span)));
        right = λ clean. number_is q is (not_at _ span clean.1.1.1.1.1.0) (not_at _ span clean.1.1.1.1.1.1.0);
      }
