-- The laws of fractions, each from one of numbers.
use Rattle.dl_exact.proofs.Common.{◌≡◌, inl, inr, ℕ, suc, zero, ◌+◌, ◌*◌, ◌-◌, ◌<◌, ◌≤◌, arith, sym, ap, subst, subst₂, ◌∙◌, mul-pos, mul-le-mul_right, le_of_mul-le-mul_right, le-mul_of_pos_right, zero-lt-suc, cases_lt, Fraction, ◌over◌, ◌+ℚ◌, ◌-ℚ◌, ◌*ℚ◌, ◌/ℚ◌, ◌≤ℚ◌, ◌<ℚ◌, whole}
use Rattle.std.proofs.Common.{◌⊎◌, mul-le-mul}
use Rattle.dl_exact.proofs.Over.{by_over, over_same, over_add, over_sub, over_mul, over_div, over_le, le_over, over_lt, lt_over}

pub by_two : (P : Fraction → Fraction → Type 0)
    → ((a b c d : ℕ) → 0 < b → 0 < d → P (a over b) (c over d)) → (x y : Fraction) → P x y
by_two P h x y = by_over (λ x. P x y) (λ a b hb. by_over (P (a over b)) (λ c d hd. h a b c d hb hd) y) x

by_three : (P : Fraction → Fraction → Fraction → Type 0)
    → ((a b c d e f : ℕ) → 0 < b → 0 < d → 0 < f → P (a over b) (c over d) (e over f)) → (x y z : Fraction) → P x y z
by_three P h x y z = by_two (λ x y. P x y z)
    (λ a b c d hb hd. by_over (P (a over b) (c over d)) (λ e f hf. h a b c d e f hb hd hf) z) x y

pub one_pos : 0 < 1
one_pos = zero-lt-suc zero

-- ---- sums and products

pub plus_assoc : (x y z : Fraction) → x +ℚ y +ℚ z ≡ x +ℚ (y +ℚ z)
plus_assoc = by_three (λ x y z. x +ℚ y +ℚ z ≡ x +ℚ (y +ℚ z))
    (λ a b c d e f hb hd hf. simp (over_add, mul-pos)
    (over_same _ _ _ _ (search mul-pos) (search mul-pos) (omega arith)))

pub plus_comm : (x y : Fraction) → x +ℚ y ≡ y +ℚ x
plus_comm = by_two (λ x y. x +ℚ y ≡ y +ℚ x)
    (λ a b c d hb hd. simp over_add (over_same _ _ _ _ (search mul-pos) (search mul-pos) (omega arith)))

pub plus_left_comm : (x y z : Fraction) → x +ℚ (y +ℚ z) ≡ y +ℚ (x +ℚ z)
plus_left_comm x y z = sym (plus_assoc x y z) ∙ ap (λ t. t +ℚ z) (plus_comm x y) ∙ plus_assoc y x z

pub times_assoc : (x y z : Fraction) → x *ℚ y *ℚ z ≡ x *ℚ (y *ℚ z)
times_assoc = by_three (λ x y z. x *ℚ y *ℚ z ≡ x *ℚ (y *ℚ z))
    (λ a b c d e f hb hd hf. simp (over_mul, mul-pos)
    (over_same _ _ _ _ (search mul-pos) (search mul-pos) (omega arith)))

pub times_comm : (x y : Fraction) → x *ℚ y ≡ y *ℚ x
times_comm = by_two (λ x y. x *ℚ y ≡ y *ℚ x)
    (λ a b c d hb hd. simp over_mul (over_same _ _ _ _ (search mul-pos) (search mul-pos) (omega arith)))

pub times_left_comm : (x y z : Fraction) → x *ℚ (y *ℚ z) ≡ y *ℚ (x *ℚ z)
times_left_comm x y z = sym (times_assoc x y z) ∙ ap (λ t. t *ℚ z) (times_comm x y) ∙ times_assoc y x z

pub times_plus : (x y z : Fraction) → x *ℚ (y +ℚ z) ≡ x *ℚ y +ℚ x *ℚ z
times_plus = by_three (λ x y z. x *ℚ (y +ℚ z) ≡ x *ℚ y +ℚ x *ℚ z)
    (λ a b c d e f hb hd hf. simp (over_add, over_mul, mul-pos)
    (over_same _ _ _ _ (search mul-pos) (search mul-pos) (omega arith)))

pub plus_times : (x y z : Fraction) → (x +ℚ y) *ℚ z ≡ x *ℚ z +ℚ y *ℚ z
plus_times = by_three (λ x y z. (x +ℚ y) *ℚ z ≡ x *ℚ z +ℚ y *ℚ z)
    (λ a b c d e f hb hd hf. simp (over_add, over_mul, mul-pos)
    (over_same _ _ _ _ (search mul-pos) (search mul-pos) (omega arith)))

pub plus_zero : (x : Fraction) → x +ℚ whole 0 ≡ x
plus_zero = by_over (λ x. x +ℚ whole 0 ≡ x)
    (λ a b hb. over_add a b 0 1 hb one_pos ∙ over_same _ _ _ _ (mul-pos hb one_pos) hb (omega arith))

pub zero_plus : (x : Fraction) → whole 0 +ℚ x ≡ x
zero_plus x = plus_comm (whole 0) x ∙ plus_zero x

pub times_one : (x : Fraction) → x *ℚ whole 1 ≡ x
times_one = by_over (λ x. x *ℚ whole 1 ≡ x)
    (λ a b hb. over_mul a b 1 1 hb one_pos ∙ over_same _ _ _ _ (mul-pos hb one_pos) hb (omega arith))

pub one_times : (x : Fraction) → whole 1 *ℚ x ≡ x
one_times x = times_comm (whole 1) x ∙ times_one x

pub times_zero : (x : Fraction) → x *ℚ whole 0 ≡ whole 0
times_zero = by_over (λ x. x *ℚ whole 0 ≡ whole 0)
    (λ a b hb. over_mul a b 0 1 hb one_pos ∙ over_same _ _ _ _ (mul-pos hb one_pos) one_pos (omega arith))

pub zero_times : (x : Fraction) → whole 0 *ℚ x ≡ whole 0
zero_times x = times_comm (whole 0) x ∙ times_zero x

-- sorts both sides of an equation of sums and products alike
pub ruleset ring = (
  times_plus,
  plus_times,
  plus_zero,
  zero_plus,
  times_one,
  one_times,
  times_zero,
  zero_times,
  times_assoc,
  plus_assoc,
  times_comm,
  times_left_comm,
  plus_comm,
  plus_left_comm,
)

-- ---- order

pub le_refl : (x : Fraction) → x ≤ℚ x
le_refl = by_over (λ x. x ≤ℚ x) (λ a b hb. over_le _ _ _ _ hb hb (omega arith))

pub le_trans : (x y z : Fraction) → x ≤ℚ y → y ≤ℚ z → x ≤ℚ z
le_trans = by_three (λ x y z. x ≤ℚ y → y ≤ℚ z → x ≤ℚ z)
    (λ a b c d e f hb hd hf p q. over_le _ _ _ _ hb hf
    (le_of_mul-le-mul_right {k = d} (omega (
      arith,
      mul-le-mul_right f (le_over _ _ _ _ hb hd p),
      mul-le-mul_right b (le_over _ _ _ _ hd hf q),
    )) hd))

pub le_antisymm : (x y : Fraction) → x ≤ℚ y → y ≤ℚ x → x ≡ y
le_antisymm = by_two (λ x y. x ≤ℚ y → y ≤ℚ x → x ≡ y)
    (λ a b c d hb hd p q. over_same _ _ _ _ hb hd (omega (arith, le_over _ _ _ _ hb hd p, le_over _ _ _ _ hd hb q)))

pub le_of_eq : (x y : Fraction) → x ≡ y → x ≤ℚ y
le_of_eq x y e = subst (λ t. x ≤ℚ t) e (le_refl x)

-- the order is decided
pub lt_or_le : (x y : Fraction) → (x <ℚ y) ⊎ (y ≤ℚ x)
unfolding ◌<ℚ◌ ◌≤ℚ◌
lt_or_le x y = elim (cases_lt (x.num * y.den) (y.num * x.den)) [ inl h ↦ inl h | inr h ↦ inr h ]

pub lt_not_le : (x y : Fraction) → x <ℚ y → y ≤ℚ x → ⊥
unfolding ◌<ℚ◌ ◌≤ℚ◌
lt_not_le x y p q = omega (arith, p, q)

pub le_of_lt : (x y : Fraction) → x <ℚ y → x ≤ℚ y
unfolding ◌<ℚ◌ ◌≤ℚ◌
le_of_lt x y p = omega (arith, p)

pub zero_le : (x : Fraction) → whole 0 ≤ℚ x
zero_le = by_over (λ x. whole 0 ≤ℚ x) (λ a b hb. over_le _ _ _ _ one_pos hb (omega arith))

pub plus_le_plus : (x y z : Fraction) → x ≤ℚ y → x +ℚ z ≤ℚ y +ℚ z
plus_le_plus = by_three (λ x y z. x ≤ℚ y → x +ℚ z ≤ℚ y +ℚ z)
    (λ a b c d e f hb hd hf p. simp over_add
    (over_le _ _ _ _ (mul-pos hb hf) (mul-pos hd hf)
    (omega (arith, mul-le-mul_right (f * f) (le_over _ _ _ _ hb hd p)))))

pub plus_le_both : (x y z w : Fraction) → x ≤ℚ y → z ≤ℚ w → x +ℚ z ≤ℚ y +ℚ w
plus_le_both x y z w p q =
    le_trans _ _ _ (plus_le_plus x y z p) (subst₂ (λ s t. s ≤ℚ t) (plus_comm z y) (plus_comm w y)
    (plus_le_plus z w y q))

pub le_plus : (x y : Fraction) → x ≤ℚ x +ℚ y
le_plus x y = subst (λ t. t ≤ℚ x +ℚ y) (plus_zero x) (plus_le_both x x (whole 0) y (le_refl x) (zero_le y))

pub plus_le_cancel : (x y z : Fraction) → x +ℚ z ≤ℚ y +ℚ z → x ≤ℚ y
plus_le_cancel = by_three (λ x y z. x +ℚ z ≤ℚ y +ℚ z → x ≤ℚ y)
    (λ a b c d e f hb hd hf p.
    let q : (a * f + e * b) over (b * f) ≤ℚ (c * f + e * d) over (d * f) = simp over_add at p in
    over_le _ _ _ _ hb hd (le_of_mul-le-mul_right {k = f * f}
    (omega (arith, le_over _ _ _ _ (mul-pos hb hf) (mul-pos hd hf) q)) (mul-pos hf hf)))

pub times_le_times : (x y z : Fraction) → x ≤ℚ y → x *ℚ z ≤ℚ y *ℚ z
times_le_times = by_three (λ x y z. x ≤ℚ y → x *ℚ z ≤ℚ y *ℚ z)
    (λ a b c d e f hb hd hf p. simp over_mul
    (over_le _ _ _ _ (mul-pos hb hf) (mul-pos hd hf)
    (omega (arith, mul-le-mul_right (e * f) (le_over _ _ _ _ hb hd p)))))

pos_of_lt : (e f : ℕ) → 0 < f → whole 0 <ℚ e over f → 0 < e
pos_of_lt e f hf h = omega (arith, lt_over 0 1 e f one_pos hf h)

pub times_le_cancel : (x y z : Fraction) → whole 0 <ℚ z → x *ℚ z ≤ℚ y *ℚ z → x ≤ℚ y
times_le_cancel = by_three (λ x y z. whole 0 <ℚ z → x *ℚ z ≤ℚ y *ℚ z → x ≤ℚ y)
    (λ a b c d e f hb hd hf h p.
    let q : (a * e) over (b * f) ≤ℚ (c * e) over (d * f) = simp over_mul at p in
    over_le _ _ _ _ hb hd (le_of_mul-le-mul_right {k = e * f}
    (omega (arith, le_over _ _ _ _ (mul-pos hb hf) (mul-pos hd hf) q)) (mul-pos (pos_of_lt e f hf h) hf)))

-- ---- difference and quotient

pub sub_plus : (x y : Fraction) → y ≤ℚ x → x -ℚ y +ℚ y ≡ x
sub_plus = by_two (λ x y. y ≤ℚ x → x -ℚ y +ℚ y ≡ x)
    (λ a b c d hb hd p.
    let q : c * b ≤ a * d = le_over _ _ _ _ hd hb p in
    let e : a * d - c * b + c * b ≡ a * d = omega arith in
    simp (over_sub, over_add, mul-pos) (over_same _ _ _ _ (mul-pos (mul-pos hb hd) hd) hb
    (omega (arith, ap (λ t. t * (d * b)) e))))

pub div_times : (x y : Fraction) → whole 0 <ℚ y → x /ℚ y *ℚ y ≡ x
div_times = by_two (λ x y. whole 0 <ℚ y → x /ℚ y *ℚ y ≡ x)
    (λ a b c d hb hd h.
    let hc : 0 < c = pos_of_lt c d hd h in
    ap (λ t. t *ℚ c over d) (over_div a b c d hb hd hc) ∙ over_mul _ _ _ _ (mul-pos hb hc) hd
    ∙ over_same _ _ _ _ (mul-pos (mul-pos hb hc) hd) hb (omega arith))

pub zero_or_pos : (x : Fraction) → (x ≡ whole 0) ⊎ (whole 0 <ℚ x)
zero_or_pos x = elim (lt_or_le (whole 0) x) [ inl h ↦ inr h | inr h ↦ inl (le_antisymm x (whole 0) h (zero_le x)) ]

pub le_div : (x y z : Fraction) → whole 0 <ℚ y → x *ℚ y ≤ℚ z → x ≤ℚ z /ℚ y
le_div x y z h p = times_le_cancel x (z /ℚ y) y h (subst (λ t. x *ℚ y ≤ℚ t) (sym (div_times z y h)) p)

pub le_sub : (x y z : Fraction) → x +ℚ y ≤ℚ z → x ≤ℚ z -ℚ y
le_sub x y z p =
    let q : y ≤ℚ z = le_trans _ _ _ (subst (λ t. y ≤ℚ t) (plus_comm y x) (le_plus y x)) p in
    plus_le_cancel x (z -ℚ y) y (subst (λ t. x +ℚ y ≤ℚ t) (sym (sub_plus z y q)) p)

pub plus_le_from_sub : (x y z : Fraction) → y ≤ℚ z → x ≤ℚ z -ℚ y → x +ℚ y ≤ℚ z
plus_le_from_sub x y z q p = subst (λ t. x +ℚ y ≤ℚ t) (sub_plus z y q) (plus_le_plus x (z -ℚ y) y p)

pub times_pos : (x y : Fraction) → whole 0 <ℚ x → whole 0 <ℚ y → whole 0 <ℚ x *ℚ y
times_pos = by_two (λ x y. whole 0 <ℚ x → whole 0 <ℚ y → whole 0 <ℚ x *ℚ y)
    (λ a b c d hb hd p q. simp over_mul (over_lt _ _ _ _ one_pos (mul-pos hb hd)
    (omega (arith, mul-pos (pos_of_lt a b hb p) (pos_of_lt c d hd q)))))

pub times_cancel : (x y z : Fraction) → whole 0 <ℚ z → x *ℚ z ≡ y *ℚ z → x ≡ y
times_cancel x y z h e = le_antisymm x y (times_le_cancel x y z h (le_of_eq _ _ e))
    (times_le_cancel y x z h (le_of_eq _ _ (sym e)))

-- ---- whole numbers

pub whole_plus : (m n : ℕ) → whole (m + n) ≡ whole m +ℚ whole n
whole_plus m n = sym (over_add m 1 n 1 one_pos one_pos
    ∙ over_same _ _ _ _ (mul-pos one_pos one_pos) one_pos (omega arith))

pub whole_times : (m n : ℕ) → whole (m * n) ≡ whole m *ℚ whole n
whole_times m n = sym (over_mul m 1 n 1 one_pos one_pos
    ∙ over_same _ _ _ _ (mul-pos one_pos one_pos) one_pos (omega arith))

pub whole_suc : (n : ℕ) → whole (suc n) ≡ whole n +ℚ whole 1
whole_suc n = sym (over_add n 1 1 1 one_pos one_pos ∙ over_same _ _ _ _ (mul-pos one_pos one_pos) one_pos (omega arith))

pub whole_pos : (n : ℕ) → 0 < n → whole 0 <ℚ whole n
whole_pos n h = over_lt 0 1 n 1 one_pos one_pos (omega arith)

pub over_times_whole : (n d : ℕ) → 0 < d → n over d *ℚ whole d ≡ whole n
over_times_whole n d h = over_mul n d d 1 h one_pos ∙ over_same _ _ _ _ (mul-pos h one_pos) one_pos (omega arith)

-- no fraction is so large that repeated steps of d do not pass it
pub archimedes : (x d : Fraction) → whole 0 <ℚ d → (k : ℕ) × (x <ℚ whole k *ℚ d)
archimedes = by_two (λ x d. whole 0 <ℚ d → (k : ℕ) × (x <ℚ whole k *ℚ d))
    (λ a b e f hb hf h.
    let he : 0 < e = pos_of_lt e f hf h in (
      suc (a * f),
      simp (over_mul, one_pos) (over_lt _ _ _ _ hb (mul-pos one_pos hf)
          (omega (arith, mul-le-mul (le-mul_of_pos_right (a * f) he) hb, mul-pos he hb))),
    ))

pub lt_gap : (x y : Fraction) → x <ℚ y → (d : Fraction) × (whole 0 <ℚ d) × (x +ℚ d ≡ y)
lt_gap x y h =
    let e : y -ℚ x +ℚ x ≡ y = sub_plus y x (le_of_lt x y h) in
    elim (zero_or_pos (y -ℚ x)) [
      | inl z ↦ absurd (lt_not_le x y h (le_of_eq y x (sym e ∙ ap (λ t. t +ℚ x) z ∙ zero_plus x)))
      | inr p ↦ (y -ℚ x, p, plus_comm x (y -ℚ x) ∙ e)
    ]

pub lt_of_le_of_lt : (x y z : Fraction) → x ≤ℚ y → y <ℚ z → x <ℚ z
lt_of_le_of_lt x y z p q = elim (lt_or_le x z) [ inl l ↦ l | inr l ↦ absurd (lt_not_le y z q (le_trans z x y l p)) ]

pub div_pos : (x y : Fraction) → whole 0 <ℚ x → whole 0 <ℚ y → whole 0 <ℚ x /ℚ y
div_pos x y p q = elim (zero_or_pos (x /ℚ y)) [
  | inr l ↦ l
  | inl z ↦ absurd (lt_not_le _ _ p (le_of_eq _ _ (sym (div_times x y q) ∙ ap (λ t. t *ℚ y) z ∙ zero_times y)))
]

pub lt_of_lt_of_le : (x y z : Fraction) → x <ℚ y → y ≤ℚ z → x <ℚ z
lt_of_lt_of_le x y z p q = elim (lt_or_le x z) [ inl l ↦ l | inr l ↦ absurd (lt_not_le x y p (le_trans y z x q l)) ]

pub plus_cancel : (x y z : Fraction) → x +ℚ z ≡ y +ℚ z → x ≡ y
plus_cancel x y z e = le_antisymm x y (plus_le_cancel x y z (le_of_eq _ _ e))
    (plus_le_cancel y x z (le_of_eq _ _ (sym e)))

pub pos_of_inverse : (x y : Fraction) → x *ℚ y ≡ whole 1 → whole 0 <ℚ y
pos_of_inverse x y e = elim (zero_or_pos y) [
  | inr l ↦ l
  | inl z ↦ absurd (lt_not_le _ _ (whole_pos 1 one_pos) (le_of_eq _ _ (sym e ∙ ap (λ t. x *ℚ t) z ∙ times_zero x)))
]

-- ---- both sides of an order

pub times_le_both : (x y z w : Fraction) → x ≤ℚ y → z ≤ℚ w → x *ℚ z ≤ℚ y *ℚ w
times_le_both x y z w p q =
    le_trans _ _ _ (times_le_times x y z p)
    (subst₂ (λ s t. s ≤ℚ t) (times_comm z y) (times_comm w y) (times_le_times z w y q))

pub sub_nothing : (x y : Fraction) → x ≤ℚ y → x -ℚ y ≡ whole 0
sub_nothing = by_two (λ x y. x ≤ℚ y → x -ℚ y ≡ whole 0)
    (λ a b c d hb hd p.
    let below : a * d ≤ c * b = le_over _ _ _ _ hb hd p in
    let none : a * d - c * b ≡ 0 = omega arith in
    over_sub a b c d hb hd ∙ ap (λ t. t over (b * d)) none ∙ over_same _ _ 0 1 (mul-pos hb hd) one_pos (omega arith))

-- a difference grows with what is taken from, and falls with what is taken
pub sub_le_both : (x y z w : Fraction) → x ≤ℚ y → w ≤ℚ z → x -ℚ z ≤ℚ y -ℚ w
sub_le_both x y z w p q = elim (lt_or_le x z) [
  | inl less ↦ subst (λ t. t ≤ℚ y -ℚ w) (sym (sub_nothing x z (le_of_lt x z less))) (zero_le _)
  | inr enough ↦ le_sub (x -ℚ z) w y
      (le_trans _ _ _ (subst₂ (λ s t. s ≤ℚ t) (plus_comm w (x -ℚ z)) (plus_comm z (x -ℚ z))
      (plus_le_plus w z (x -ℚ z) q))
      (subst (λ t. t ≤ℚ y) (sym (sub_plus x z enough)) p))
]

-- a quotient grows with what is divided, and falls with the divisor
pub div_le_both : (x y z w : Fraction) → whole 0 <ℚ w → x ≤ℚ y → w ≤ℚ z → x /ℚ z ≤ℚ y /ℚ w
div_le_both x y z w pos p q =
    le_div (x /ℚ z) w y pos
    (le_trans _ _ _ (subst₂ (λ s t. s ≤ℚ t) (times_comm w (x /ℚ z)) (times_comm z (x /ℚ z))
    (times_le_times w z (x /ℚ z) q))
    (subst (λ t. t ≤ℚ y) (sym (div_times x z (lt_of_lt_of_le _ _ _ pos q))) p))
