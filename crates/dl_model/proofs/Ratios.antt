-- Fractions as numbers over numbers above 0, not in lowest terms: these compute, so that a closed example is read off
-- them.
use Rattle.dl_model.proofs.Common.{Bool, true, false, ℕ, zero, suc, ◌≡◌, ◌+◌, ◌-◌, ◌*◌, ◌^◌, ◌<◌, ◌∙◌, ap₂, refl, sym, mul-pos, one-le-pow, pow-zero, pow-succ', Fraction, whole, ◌over◌, ◌+ℚ◌, ◌-ℚ◌, ◌*ℚ◌, ◌/ℚ◌, ◌^ℚ◌, one_pos, over_same, over_add, over_mul, over_div, over_sub, sum_to, sum_pairs, where_true, product_below}

pub record Known (x : Fraction) : Type 0 where
  pub num : ℕ
  pub den : ℕ
  pub positive : 0 < den
  pub same : x ≡ num over den

-- x in lowest terms, or in any others, by cross multiplication
pub worked : {x : Fraction} (n d : ℕ) (k : Known x) → 0 < d → k.num * d ≡ n * k.den → x ≡ n over d
worked n d k pos cross = k.same ∙ over_same k.num k.den n d k.positive pos cross

abbrev pub over_is : (n d : ℕ) → 0 < d → Known (n over d)
over_is n d pos = record { num = n; den = d; positive = pos; same = refl }

abbrev pub whole_is : (n : ℕ) → Known (whole n)
whole_is n = over_is n 1 one_pos

-- ---- sums, differences, products, quotients and powers

module _ {x y : Fraction} (p : Known x) (q : Known y) where
  abbrev pub plus_is : Known (x +ℚ y)
  plus_is = record {
    num = p.num * q.den + q.num * p.den;
    den = p.den * q.den;
    positive = mul-pos p.positive q.positive;
    same = ap₂ (λ a b. a +ℚ b) p.same q.same ∙ over_add p.num p.den q.num q.den p.positive q.positive;
  }

  abbrev pub minus_is : Known (x -ℚ y)
  minus_is = record {
    num = p.num * q.den - q.num * p.den;
    den = p.den * q.den;
    positive = mul-pos p.positive q.positive;
    same = ap₂ (λ a b. a -ℚ b) p.same q.same ∙ over_sub p.num p.den q.num q.den p.positive q.positive;
  }

  abbrev pub times_is : Known (x *ℚ y)
  times_is = record {
    num = p.num * q.num;
    den = p.den * q.den;
    positive = mul-pos p.positive q.positive;
    same = ap₂ (λ a b. a *ℚ b) p.same q.same ∙ over_mul p.num p.den q.num q.den p.positive q.positive;
  }

  abbrev pub divided_is : 0 < q.num → Known (x /ℚ y)
  divided_is pos = record {
    num = p.num * q.den;
    den = p.den * q.num;
    positive = mul-pos p.positive pos;
    same = ap₂ (λ a b. a /ℚ b) p.same q.same ∙ over_div p.num p.den q.num q.den p.positive q.positive pos;
  }

pub power_same : {x : Fraction} (p : Known x) (n : ℕ) → x ^ℚ n ≡ p.num ^ n over (p.den ^ n)
unfolding ◌^ℚ◌
power_same p zero = ap₂ (λ s t. s over t) (sym (pow-zero p.num)) (sym (pow-zero p.den))
power_same p (suc n) =
    ap₂ (λ a b. a *ℚ b) p.same (power_same p n)
    ∙ over_mul p.num p.den (p.num ^ n) (p.den ^ n) p.positive (one-le-pow n p.den p.positive)
    ∙ ap₂ (λ s t. s over t) (sym (pow-succ' p.num n)) (sym (pow-succ' p.den n))

abbrev pub power_is : {x : Fraction} → Known x → (n : ℕ) → Known (x ^ℚ n)
power_is p n = record {
  num = p.num ^ n;
  den = p.den ^ n;
  positive = one-le-pow n p.den p.positive;
  same = power_same p n;
}

-- ---- choices, finite sums and products

abbrev pub where_is : {x : Fraction} (b : Bool) → Known x → Known (where_true b x)
where_is true p = p
where_is false p = whole_is 0

unfoldable pub through_is : {f : ℕ → Fraction} → ((k : ℕ) → Known (f k)) → (n : ℕ) → Known (sum_to n f)
unfolding sum_to
through_is p zero = p zero
through_is p (suc n) = plus_is (through_is p n) (p (suc n))

unfoldable pub product_is : {f : ℕ → Fraction} → ((k : ℕ) → Known (f k)) → (n : ℕ) → Known (product_below n f)
unfolding product_below
product_is p zero = whole_is 1
product_is p (suc n) = times_is (product_is p n) (p n)

unfoldable pub pairs_is : {f : ℕ → ℕ → Fraction} → ((i j : ℕ) → Known (f i j)) → (n : ℕ) → Known (sum_pairs n f)
unfolding sum_pairs
pairs_is p zero = p zero zero
pairs_is p (suc n) = plus_is (p zero (suc n)) (pairs_is (λ i j. p (suc i) j) n)
