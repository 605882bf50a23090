-- Numbers over one denominator: as numbers of units, of which d make 1.
use Rattle.dl_exact.proofs.Common.{◌≡◌, ℕ, ◌+◌, ◌-◌, ◌*◌, ◌/◌, ◌<◌, ◌≤◌, arith, sym, ap, subst, ◌∙◌, mul-pos, mul_comm, mul-le-mul_right, mul-sub, eq_of_mul-eq-mul_right, div_ceil, Fraction, whole, ◌over◌, ◌+ℚ◌, ◌-ℚ◌, ◌*ℚ◌, ◌≤ℚ◌, ◌<ℚ◌, IsFloor, IsCeiling}
use Rattle.dl_exact.proofs.Over.{over_self, over_same, over_add, over_sub, over_mul, over_le, over_lt, le_over}
use Rattle.dl_exact.proofs.Laws.{one_pos, le_of_eq}
use Rattle.dl_exact.proofs.RoundingLaws.{floor_div, ceiling_div}

pub over_le_over : (m n d : ℕ) → 0 < d → m ≤ n → m over d ≤ℚ n over d
over_le_over m n d h p = over_le m d n d h h (mul-le-mul_right d p)

pub over_plus : (m n d : ℕ) → 0 < d → m over d +ℚ n over d ≡ (m + n) over d
over_plus m n d h = over_add m d n d h h ∙ over_same _ _ _ _ (mul-pos h h) h (omega arith)

-- the same, read from the sum
pub over_split : (m n d : ℕ) → 0 < d → (m + n) over d ≡ m over d +ℚ n over d
over_split m n d h = sym (over_plus m n d h)

pub over_minus : (m n d : ℕ) → 0 < d → (m - n) over d ≡ m over d -ℚ n over d
over_minus m n d h =
    let apart : d * (m - n) ≡ d * m - d * n = mul-sub d m n in
    let turned : m * d - n * d ≡ d * m - d * n = rw (mul_comm m d, mul_comm n d) in
    let same : m * d - n * d ≡ d * (m - n) = turned ∙ sym apart in
    sym (over_sub m d n d h h ∙ over_same _ _ _ _ (mul-pos h h) h (omega (arith, ap (λ t. t * d) same)))

pub over_times : (k n d : ℕ) → 0 < d → whole k *ℚ n over d ≡ (k * n) over d
over_times k n d h = over_mul k 1 n d one_pos h ∙ over_same _ _ _ _ (mul-pos one_pos h) h (omega arith)

pub over_zero : (d : ℕ) → 0 < d → 0 over d ≡ whole 0
over_zero d h = over_same 0 d 0 1 h one_pos (omega arith)

pub over_one : (d : ℕ) → 0 < d → d over d ≡ whole 1
over_one d h = over_same d d 1 1 h one_pos (omega arith)

pub over_pos : (n d : ℕ) → 0 < n → 0 < d → whole 0 <ℚ n over d
over_pos n d hn hd = over_lt 0 1 n d one_pos hd (omega arith)

-- a part and what it leaves of the whole
pub over_rest : (n d : ℕ) → 0 < d → n ≤ d → n over d +ℚ (d - n) over d ≡ whole 1
over_rest n d h le = over_plus n (d - n) d h ∙ ap (λ k. k over d) (omega arith) ∙ over_one d h

-- over one denominator, numbers that give one fraction are one
pub same_num : (n m d : ℕ) → 0 < d → n over d ≡ m over d → n ≡ m
same_num n m d h e =
    let below : n * d ≤ m * d = le_over n d m d h h (le_of_eq _ _ e) in
    let above : m * d ≤ n * d = le_over m d n d h h (le_of_eq _ _ (sym e)) in
    eq_of_mul-eq-mul_right d h n m (omega (arith, below, above))

-- ---- whole units of a fraction

pub units_of : (s : ℕ) (x : Fraction) → (x.num * s) over x.den ≡ whole s *ℚ x
units_of s x =
    sym (ap (λ t. whole s *ℚ t) (sym (over_self x)) ∙ over_times s x.num x.den x.positive
    ∙ ap (λ n. n over x.den) (mul_comm s x.num))

pub floor_units : (s : ℕ) (x : Fraction) → IsFloor (whole s *ℚ x) (x.num * s / x.den)
floor_units s x =
    subst (λ t. IsFloor t (x.num * s / x.den)) (units_of s x) (floor_div (x.num * s) x.den x.positive)

pub ceiling_units : (s : ℕ) (x : Fraction) → IsCeiling (whole s *ℚ x) (div_ceil (x.num * s) x.den)
ceiling_units s x =
    subst (λ t. IsCeiling t (div_ceil (x.num * s) x.den)) (units_of s x)
    (ceiling_div (x.num * s) x.den x.positive)
