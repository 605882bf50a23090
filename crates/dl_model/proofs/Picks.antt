-- Sums that pick one place.
use Rattle.dl_model.proofs.Common.{◌≢◌, Bool, true, false, refl, sym, cases_eq, ◌*ℚ◌, one_times, zero_times, times_zero, sum_to_same, ◌≡◌, inl, inr, ℕ, suc, zero, ◌<◌, ◌≤◌, nat_eq, arith, ap, ap₂, ◌∙◌, ne_eqb, eq-eqb, cases_lt, Fraction, ◌+ℚ◌, whole, sum_to, where_true, plus_zero, zero_plus, sum_to_zero}

pub pick_none : (n x : ℕ) (f : ℕ → Fraction) → n < x → sum_to n (λ s. where_true (nat_eq s x) (f s)) ≡ whole 0
pick_none n x f h = sum_to_zero n _ (λ s b. ap (λ t. where_true t (f s)) (ne_eqb s x (omega arith)))

pub pick : (n x : ℕ) (f : ℕ → Fraction) → x ≤ n → sum_to n (λ s. where_true (nat_eq s x) (f s)) ≡ f x
unfolding sum_to
pick zero x f h = ap (λ t. where_true t (f zero)) (eq-eqb zero x (omega arith)) ∙ ap f (omega arith)
pick (suc n) x f h = elim (cases_lt n x) [
  | inl far ↦
      let e : suc n ≡ x = omega arith in
      ap₂ (λ s t. s +ℚ t) (pick_none n x f far) (ap (λ t. where_true t (f (suc n))) (eq-eqb (suc n) x e) ∙ ap f e)
      ∙ zero_plus _
  | inr near ↦ ap₂ (λ s t. s +ℚ t) (pick n x f near)
      (ap (λ t. where_true t (f (suc n))) (ne_eqb (suc n) x (omega arith))) ∙ plus_zero _
]

pub off : (t y : ℕ) (c : Fraction) → t ≢ y → where_true (nat_eq t y) c ≡ whole 0
off t y c n = ap (λ b. where_true b c) (ne_eqb t y n)

pub on : (t y : ℕ) (c : Fraction) → t ≡ y → where_true (nat_eq t y) c ≡ c
on t y c e = ap (λ b. where_true b c) (eq-eqb t y e)

pub where_turned : (t y : ℕ) (c : Fraction) → where_true (nat_eq t y) c ≡ where_true (nat_eq y t) c
where_turned t y c = elim (cases_eq t y) [
  | inl e ↦ on t y c e ∙ sym (on y t c (sym e))
  | inr e ↦ off t y c e ∙ sym (off y t c (λ i. e (sym i)))
]

-- the same with the place on the left of the test
pub passed : (n t : ℕ) (f : ℕ → Fraction) → t ≤ n → sum_to n (λ y. where_true (nat_eq t y) (f y)) ≡ f t
passed n t f h = sum_to_same n _ _ (λ y b. where_turned t y (f y)) ∙ pick n t f h

-- a factor where the test holds
pub where_factor : (b : Bool) (x : Fraction) → where_true b x ≡ where_true b (whole 1) *ℚ x
where_factor true x = sym (one_times x)
where_factor false x = sym (zero_times x)

pub times_where : (b : Bool) (x y : Fraction) → x *ℚ where_true b y ≡ where_true b (x *ℚ y)
times_where true x y = refl
times_where false x y = times_zero x

pub where_plus : (b : Bool) (x y : Fraction) → where_true b (x +ℚ y) ≡ where_true b x +ℚ where_true b y
where_plus true x y = refl
where_plus false x y = sym (plus_zero _)

pub where_swap : (b c : Bool) (x : Fraction) → where_true b (where_true c x) ≡ where_true c (where_true b x)
where_swap true c x = refl
where_swap false true x = refl
where_swap false false x = refl
