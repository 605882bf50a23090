-- Values over a bucket size, whole or not.
use Rattle.dl_severity.proofs.Common.{ℕ, ◌≡◌, ◌∙◌, ◌+◌, ◌*◌, ◌/◌, ◌%◌, ◌<◌, List, [], ◌∷◌, ◌++◌, length, map, get_or, take, nat_eq, IsTrue, refl, sym, ap, ap₂, subst, arith, mul-pos, inl, inr, cases_lt, get_or_default, map_more, map-append, Fraction, whole, ◌over◌, ◌<ℚ◌, lt_over, whole_den, IsWhole, buckets, over_lt, num_pos, quotient_is, whole_if, whole_only}

pub zero_test : (a : ℕ) → IsTrue (nat_eq a 0) → a ≡ 0
zero_test a e = grind arith

pub test_zero : (a : ℕ) → a ≡ 0 → IsTrue (nat_eq a 0)
test_zero a e = rw e refl

module _ (x bs : Fraction) (n d e m : ℕ) (h : whole 0 <ℚ bs) (pn : n ≡ x.num) (pd : d ≡ bs.den) (pe : e ≡ x.den)
    (pm : m ≡ bs.num) where
  pub same : buckets bs x ≡ (n * d) over (e * m)
  same = rw (pn, pd, pe, pm) (sym (quotient_is x bs))

  pub pos : 0 < e * m
  pos = mul-pos (subst (λ k. 0 < k) (sym pe) x.positive) (subst (λ k. 0 < k) (sym pm) (num_pos bs h))

  pub divides_whole : IsTrue (nat_eq (n * d % (e * m)) 0) → IsWhole (buckets bs x)
  divides_whole t =
      ap (λ (y : Fraction). y.den) (same ∙ whole_if (n * d) (e * m) pos (zero_test _ t)) ∙ whole_den (n * d / (e * m))

  pub whole_divides : IsWhole (buckets bs x) → IsTrue (nat_eq (n * d % (e * m)) 0)
  whole_divides w = test_zero _ (whole_only (n * d) (e * m) pos (ap (λ (y : Fraction). y.den) (sym same) ∙ w))

  pub quotient_whole : IsWhole (buckets bs x) → buckets bs x ≡ whole (n * d / (e * m))
  quotient_whole w =
      same ∙ whole_if (n * d) (e * m) pos (whole_only (n * d) (e * m) pos (ap (λ (y : Fraction). y.den) (sym same) ∙ w))

pub whole_lt : (m n : ℕ) → m < n → whole m <ℚ whole n
whole_lt m n h = over_lt m 1 n 1 (omega arith) (omega arith) (omega (arith, h))

pub lt_whole : (m n : ℕ) → whole m <ℚ whole n → m < n
lt_whole m n h = omega (arith, lt_over m 1 n 1 (omega arith) (omega arith) h)

-- ---- one value more

pub more_amounts : (bs : Fraction) (values : List Fraction) (i amount : ℕ) (x : Fraction) (made new : List ℕ)
    → i < length values → x ≡ get_or values i x
    → map whole made ≡ map (buckets bs) (take i values) → new ≡ made ++ amount ∷ [] → buckets bs x ≡ whole amount
    → map whole new ≡ map (buckets bs) (take (i + 1) values)
more_amounts bs values i amount x made new h is so_far pushed value =
    ap (map whole) pushed ∙ map-append whole made (amount ∷ [])
    ∙ ap₂ (λ (ys : List Fraction) (y : Fraction). ys ++ y ∷ []) so_far (sym value ∙ ap (buckets bs) is)
    ∙ sym (map_more (buckets bs) values i x h)

pub more_before : (P : Fraction → Type 0) (values : List Fraction) (i : ℕ) (x : Fraction) → i < length values
    → x ≡ get_or values i x
    → ((k : ℕ) (d : Fraction) → k < i → P (get_or values k d)) → P x → (k : ℕ) (d : Fraction) → k < i + 1
    → P (get_or values k d)
more_before P values i x h is so_far here k d below = elim (cases_lt k i) [
  | inl less ↦ so_far k d less
  | inr more ↦
      let same_index : k ≡ i = omega (arith, below, more) in
      subst (λ n. P (get_or values n d)) (sym same_index) (subst P (is ∙ get_or_default values i x d h) here)
]

pub at_index : (P : Fraction → Type 0) (values : List Fraction) (i : ℕ) (x : Fraction) → i < length values
    → x ≡ get_or values i x → P x → (d : Fraction) → P (get_or values i d)
at_index P values i x h is here d = subst P (is ∙ get_or_default values i x d h) here
