-- The budget of a price by whole numbers: it passes that of its tail means by little, since the weights sum to 1.
use Rattle.dl_budget.proofs.Common.{ℕ, ◌≡◌, ◌+◌, ◌-◌, ◌*◌, ◌^◌, ◌<◌, ◌≤◌, List, [], ◌∷◌, length, arith, inl, inr, refl, ap, sym, subst, ◌∙◌, div_ceil, mul-le-mul, mul-le-mul_left, mul-le-mul_right, le_of_mul-le-mul_right, div_ceil_least, sum_by, take_all, one_pos, up, up_quotient, Fraction, whole, ◌/◌, map, get_or, take, div-mul_cancel, eq-zero-or-pos, get_or-map, length-map, div_ceil_times, All-cons, All-head, All-tail, sum_by-cons, sum_by_more, All, ◌*ℚ◌, over_self, over_mul, sum_over_map, Term, common_denominator, numerator_over, ArePriced, most_weight_parts, common_pos, den_divides, part_within, sum_one, weight_more}
use Prim.Native.Nat.{◌∣◌}

-- a part of x, rounded up
pub up_part : (w : Fraction) (x : ℕ) → up (w *ℚ whole x) ≡ div_ceil (w.num * x) w.den
up_part w x =
    ap up (ap (λ y. y *ℚ whole x) (sym (over_self w)) ∙ over_mul w.num w.den x 1 w.positive one_pos)
    ∙ up_quotient (w.num * x) (w.den * 1) (omega (arith, w.positive)) ∙ ap (div_ceil (w.num * x)) (one w.den)
  where
    one : (a : ℕ) → a * 1 ≡ a
    one a = omega arith

-- one part over a common denominator L
module _ (L T : ℕ) (pos : 0 < L) where
  one_part : (w : Fraction) (x : ℕ) → w.den ∣ L → x ≤ T
      → (up (w *ℚ whole x) + 2) * L ≤ numerator_over L w * T + 3 * L
  one_part w x divides small =
      let d = w.den in
      let q = L / d in
      let c = div_ceil (w.num * x) d in
      let back : q * d ≡ L = div-mul_cancel d divides in
      let most : c * d ≤ w.num * x + d = omega (arith, (div_ceil_times (w.num * x) d w.positive).1) in
      let times : q * (c * d) ≤ q * (w.num * x + d) = mul-le-mul_left q most in
      let share : w.num * q * x ≤ w.num * q * T = mul-le-mul_left (w.num * q) small in
      let all : c * L ≤ w.num * q * T + L = omega (arith, times, share, ap (λ t. c * t) back, back) in
      omega (arith, all, ap (λ t. t * L) (up_part w x))

  all_parts : (tail : Fraction → ℕ) (terms : List Term) → All (λ (t : Term). t.weight.den ∣ L) terms
      → All (λ (t : Term). tail t.p ≤ T) terms
      → sum_by (λ (t : Term). up (t.weight *ℚ whole (tail t.p)) + 2) terms * L
      ≤ sum_by (λ (t : Term). numerator_over L t.weight) terms * T + 3 * length terms * L
  all_parts tail [] divides small = omega arith
  all_parts tail (t ∷ terms) divides small =
      let first = one_part t.weight (tail t.p) (All-head (λ (t : Term). t.weight.den ∣ L) t terms divides)
      (All-head (λ (t : Term). tail t.p ≤ T) t terms small) in
      let rest = all_parts tail terms (All-tail (λ (t : Term). t.weight.den ∣ L) t terms divides)
      (All-tail (λ (t : Term). tail t.p ≤ T) t terms small) in
      omega (
        arith,
        ap (λ n. n * L) (sum_by-cons (λ (t : Term). up (t.weight *ℚ whole (tail t.p)) + 2) t terms),
        ap (λ n. n * T) (sum_by-cons (λ (t : Term). numerator_over L t.weight) t terms),
      )

sum_of_weights : (L : ℕ) (terms : List Term)
    → sum_by (λ (t : Term). numerator_over L t.weight) terms ≡ sum_by (numerator_over L) (map (λ (t : Term). t.weight) terms)
sum_of_weights L [] = refl
sum_of_weights L (t ∷ terms) =
    sum_by-cons (λ (t : Term). numerator_over L t.weight) t terms
    ∙ ap (λ n. numerator_over L t.weight + n) (sum_of_weights L terms)
    ∙ sym (sum_by-cons (numerator_over L) t.weight (map (λ (t : Term). t.weight) terms))

weights_divide : (L : ℕ) (terms : List Term) → All (λ (x : Fraction). x.den ∣ L) (map (λ (t : Term). t.weight) terms)
    → All (λ (t : Term). t.weight.den ∣ L) terms
weights_divide L [] h = λ k d inside. absurd (omega (arith, inside))
weights_divide L (t ∷ terms) h = All-cons (λ (t : Term). t.weight.den ∣ L) t terms
    (All-head (λ (x : Fraction). x.den ∣ L) t.weight (map (λ (t : Term). t.weight) terms) h)
    (weights_divide L terms (All-tail (λ (x : Fraction). x.den ∣ L) t.weight (map (λ (t : Term). t.weight) terms) h))

module _ (terms : List Term) (priced : ArePriced terms) where
  abbrev common : ℕ
  common = common_denominator (map (λ (t : Term). t.weight) terms)

  sum_is_one : sum_by (λ (t : Term). numerator_over common t.weight) terms ≡ common
  sum_is_one =
      sum_of_weights common terms ∙ sum_one (map (λ (t : Term). t.weight) terms) common refl
      (sum_over_map (λ (t : Term). t.weight) (λ x. x) terms ∙ priced.total)

  divide : All (λ (t : Term). t.weight.den ∣ common) terms
  divide = weights_divide common terms (den_divides 1 (map (λ (t : Term). t.weight) terms))

  -- where each tail mean is at most T wide, the price is at most T + 24
  pub price_small : (tail : Fraction → ℕ) (T : ℕ) → All (λ (t : Term). tail t.p ≤ T) terms
      → sum_by (λ (t : Term). up (t.weight *ℚ whole (tail t.p)) + 2) terms ≤ T + 24
  price_small tail T small =
      let pos : 0 < common = common_pos (map (λ (t : Term). t.weight) terms) in
      let sum = all_parts common T pos tail terms divide small in
      let count : 3 * length terms * common ≤ 24 * common = mul-le-mul_right common (omega (arith, priced.few)) in
      le_of_mul-le-mul_right {k = common} (omega (arith, sum, count, ap (λ n. n * T) sum_is_one)) pos

  -- a weight has a numerator of at most the common denominator
  pub weight_small : (i : ℕ) (t : Term) → i < length terms → t ≡ get_or terms i t → t.weight.num ≤ most_weight_parts
  weight_small i t inside is =
      let xs = map (λ (t : Term). t.weight) terms in
      let x = t.weight in
      let d = x.den in
      let q = common / d in
      let here : x ≡ get_or xs i x = ap (λ (t : Term). t.weight) is ∙ sym (get_or-map (λ (t : Term). t.weight) terms i t x inside) in
      let long : length xs ≡ length terms = length-map terms (λ (t : Term). t.weight) in
      let total = sum_over_map (λ (t : Term). t.weight) (λ x. x) terms ∙ priced.total in
      let within : x.num * q ≤ common =
      omega (
        arith,
        weight_more xs common i x (omega (arith, inside, long)) here,
        part_within xs common (i + 1) refl total,
      ) in
      let divides : d ∣ common = subst (λ (t : Term). t.weight.den ∣ common) (sym is) (divide i t inside) in
      let back : q * d ≡ common = div-mul_cancel d divides in
      let some : 0 < q = quotient_pos q d common back (common_pos xs) in
      omega (arith, within, mul-le-mul_left x.num some, priced.fine)
    where
      quotient_pos : (q d c : ℕ) → q * d ≡ c → 0 < c → 0 < q
      quotient_pos q d c e pos = elim (eq-zero-or-pos q)
          [ inl none ↦ absurd (omega (arith, e, pos, ap (λ t. t * d) none)) | inr some ↦ some ]

-- one more term
pub price_next : (part : Term → ℕ) (terms : List Term) (i sum x : ℕ) (t : Term) → i < length terms → t ≡ get_or terms i t
    → sum ≡ sum_by part (take i terms) → x ≡ part t → sum + x ≡ sum_by part (take (i + 1) terms)
price_next part terms i sum x t inside is before here =
    omega (arith, before, here, ap part is, sum_by_more part terms i t inside)

pub price_all : (part : Term → ℕ) (terms : List Term) (i sum : ℕ) → length terms ≤ i
    → sum ≡ sum_by part (take i terms) → sum ≡ sum_by part terms
price_all part terms i sum past so_far = so_far ∙ ap (sum_by part) (take_all i terms past)
