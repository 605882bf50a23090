-- For each operation on ends the law that its result holds the values, with d units to 1.
use Rattle.dl_iv.proofs.Common.{ℕ, ◌≡◌, ◌+◌, ◌-◌, ◌*◌, ◌/◌, ◌<◌, arith, sym, subst, ◌∙◌, mul-pos, div_ceil, Fraction, ◌over◌, ◌+ℚ◌, ◌≤ℚ◌, le_refl, le_of_eq, whole, ◌-ℚ◌, ◌*ℚ◌, ◌/ℚ◌, ◌<ℚ◌, over_same, over_mul, over_div, plus_le_both, lt_of_lt_of_le, times_le_both, sub_le_both, div_le_both, over_split, over_minus, over_one, over_pos}
use Rattle.dl_iv.proofs.Rounding.{round_down, round_up}

module _ (d : ℕ) (pos : 0 < d) where
  pub add_low : (a b : ℕ) (x y : Fraction) → a over d ≤ℚ x → b over d ≤ℚ y → (a + b) over d ≤ℚ x +ℚ y
  add_low a b x y p q = subst (λ t. t ≤ℚ x +ℚ y) (sym (over_split a b d pos)) (plus_le_both _ _ _ _ p q)

  pub add_high : (a b : ℕ) (x y : Fraction) → x ≤ℚ a over d → y ≤ℚ b over d → x +ℚ y ≤ℚ (a + b) over d
  add_high a b x y p q = subst (λ t. x +ℚ y ≤ℚ t) (sym (over_split a b d pos)) (plus_le_both _ _ _ _ p q)

  pub sub_low : (a b : ℕ) (x y : Fraction) → a over d ≤ℚ x → y ≤ℚ b over d → (a - b) over d ≤ℚ x -ℚ y
  sub_low a b x y p q = subst (λ t. t ≤ℚ x -ℚ y) (sym (over_minus a b d pos)) (sub_le_both _ _ _ _ p q)

  pub sub_high : (a b : ℕ) (x y : Fraction) → x ≤ℚ a over d → b over d ≤ℚ y → x -ℚ y ≤ℚ (a - b) over d
  sub_high a b x y p q = subst (λ t. x -ℚ y ≤ℚ t) (sym (over_minus a b d pos)) (sub_le_both _ _ _ _ p q)

  pub one_low : d over d ≤ℚ whole 1
  one_low = le_of_eq _ _ (over_one d pos)

  pub one_high : whole 1 ≤ℚ d over d
  one_high = le_of_eq _ _ (sym (over_one d pos))

  pub mul_low : (a b : ℕ) (x y : Fraction) → a over d ≤ℚ x → b over d ≤ℚ y → (a * b / d) over d ≤ℚ x *ℚ y
  mul_low a b x y p q =
      round_down _ _ _ _ pos pos (subst (λ t. t ≤ℚ x *ℚ y) (over_mul a d b d pos pos) (times_le_both _ _ _ _ p q))

  pub mul_high : (a b : ℕ) (x y : Fraction) → x ≤ℚ a over d → y ≤ℚ b over d → x *ℚ y ≤ℚ div_ceil (a * b) d over d
  mul_high a b x y p q =
      round_up _ _ _ _ pos pos (subst (λ t. x *ℚ y ≤ℚ t) (over_mul a d b d pos pos) (times_le_both _ _ _ _ p q))

  scaled : (a n e : ℕ) → 0 < e → a over d *ℚ n over e ≡ (a * n) over (e * d)
  scaled a n e h = over_mul a d n e pos h ∙ over_same _ _ _ _ (mul-pos pos h) (mul-pos h pos) (omega arith)

  pub scale_low : (a n e : ℕ) (x : Fraction) → 0 < e → a over d ≤ℚ x → (a * n / e) over d ≤ℚ x *ℚ n over e
  scale_low a n e x h p =
      round_down _ _ _ _ h pos (subst (λ t. t ≤ℚ x *ℚ n over e) (scaled a n e h) (times_le_both _ _ _ _ p (le_refl _)))

  pub scale_high : (a n e : ℕ) (x : Fraction) → 0 < e → x ≤ℚ a over d → x *ℚ n over e ≤ℚ div_ceil (a * n) e over d
  scale_high a n e x h p =
      round_up _ _ _ _ h pos (subst (λ t. x *ℚ n over e ≤ℚ t) (scaled a n e h) (times_le_both _ _ _ _ p (le_refl _)))

  divided : (a b : ℕ) → 0 < b → a over d /ℚ b over d ≡ (a * d) over (b * d)
  divided a b h = over_div a d b d pos pos h ∙ over_same _ _ _ _ (mul-pos pos h) (mul-pos h pos) (omega arith)

  pub div_low : (a b : ℕ) (x y : Fraction) → 0 < b → whole 0 <ℚ y → a over d ≤ℚ x → y ≤ℚ b over d
      → (a * d / b) over d ≤ℚ x /ℚ y
  div_low a b x y h hy p q =
      round_down _ _ _ _ h pos (subst (λ t. t ≤ℚ x /ℚ y) (divided a b h) (div_le_both _ _ _ _ hy p q))

  pub div_high : (a b : ℕ) (x y : Fraction) → 0 < b → x ≤ℚ a over d → b over d ≤ℚ y
      → x /ℚ y ≤ℚ div_ceil (a * d) b over d
  div_high a b x y h p q =
      round_up _ _ _ _ h pos (subst (λ t. x /ℚ y ≤ℚ t) (divided a b h) (div_le_both _ _ _ _ (over_pos b d h pos) p q))

  pub above_zero : (b : ℕ) (y : Fraction) → 0 < b → b over d ≤ℚ y → whole 0 <ℚ y
  above_zero b y h p = lt_of_lt_of_le _ _ _ (over_pos b d h pos) p

  other_units : (a f : ℕ) → 0 < f → a over d ≡ (a * f) over (d * f)
  other_units a f h = over_same _ _ _ _ pos (mul-pos pos h) (omega arith)

  pub print_low : (a f : ℕ) (x : Fraction) → 0 < f → a over d ≤ℚ x → (a * f / d) over f ≤ℚ x
  print_low a f x h p = round_down _ _ _ _ pos h (subst (λ t. t ≤ℚ x) (other_units a f h) p)

  pub print_high : (a f : ℕ) (x : Fraction) → 0 < f → x ≤ℚ a over d → x ≤ℚ div_ceil (a * f) d over f
  print_high a f x h p = round_up _ _ _ _ pos h (subst (λ t. x ≤ℚ t) (other_units a f h) p)

  in_units : (n e : ℕ) → 0 < e → n over e ≡ (d * n) over (e * d)
  in_units n e h = over_same _ _ _ _ h (mul-pos h pos) (omega arith)

  pub enclose_low : (n e : ℕ) → 0 < e → (d * n / e) over d ≤ℚ n over e
  enclose_low n e h = round_down _ _ _ _ h pos (le_of_eq _ _ (sym (in_units n e h)))

  pub enclose_high : (n e : ℕ) → 0 < e → n over e ≤ℚ div_ceil (d * n) e over d
  enclose_high n e h = round_up _ _ _ _ h pos (le_of_eq _ _ (in_units n e h))
