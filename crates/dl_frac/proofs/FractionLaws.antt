-- Sums and products of fractions by parts from which the common divisors were taken out first.
use Rattle.dl_frac.proofs.Common.{◌≡◌, ℕ, ◌+◌, ◌*◌, ◌<◌, ◌≤◌, arith, sym, ap, ap₂, subst, ◌∙◌, ◌^◌, pow-le-pow_right, gcd, ◌over◌, gcd_is, gcd_pos, cut_pos, cut_lowest, lowest_swap}
use Rattle.std.proofs.Common.{◌/◌, mul-pos, add_comm, ◌%◌}
use Rattle.std.proofs.Math.Nat.{dvd-mul_left, dvd-mul_right, div-mul_cancel, eq_of_mul-eq-mul_right, pos_of_dvd_of_pos, mod-eq_of_lt}
use Prim.Native.Nat.{◌∣◌}
use Rattle.std.proofs.lemmas.Nat.Gcd.{dvd_trans, dvd_refl}
use Rattle.dl_exact.proofs.GcdLaws.{cut_left, cut_right}
use Rattle.dl_exact.proofs.Over.{over_same}
use Rattle.dl_exact.proofs.Multiples.{lowest_parts, lowest_times, lowest_plus, lowest_product, part_divides}

-- ---- products, cut across

abbrev pub product_num : ℕ → ℕ → ℕ → ℕ → ℕ
product_num a b c d = a / gcd a d * (c / gcd c b)

abbrev pub product_den : ℕ → ℕ → ℕ → ℕ → ℕ
product_den a b c d = b / gcd c b * (d / gcd a d)

cut_product : (A B C D g h : ℕ) → A * C * (B * h * (D * g)) ≡ A * g * (C * h) * (B * D)
cut_product A B C D g h = omega arith

module _ (a b c d : ℕ) (hb : 0 < b) (hd : 0 < d) where
  pub product_pos : 0 < product_den a b c d
  product_pos = mul-pos (cut_pos c b hb) (cut_pos a d hd)

  pub product_lowest : gcd a b ≡ 1 → gcd c d ≡ 1 → gcd (product_num a b c d) (product_den a b c d) ≡ 1
  product_lowest e f =
      let g = gcd a d in
      let h = gcd c b in
      let A : a / g ∣ a = part_divides a g (gcd_is a d).0 in
      let B : b / h ∣ b = part_divides b h (gcd_is c b).1 in
      let C : c / h ∣ c = part_divides c h (gcd_is c b).0 in
      let D : d / g ∣ d = part_divides d g (gcd_is a d).1 in
      let left : gcd (a / g) (b / h * (d / g)) ≡ 1 =
      lowest_times (a / g) (b / h) (d / g) (cut_pos a d hd) (lowest_parts a b _ _ e A B) (cut_lowest a d hd) in
      let right : gcd (c / h) (b / h * (d / g)) ≡ 1 =
      lowest_times (c / h) (b / h) (d / g) (cut_pos a d hd) (cut_lowest c b hb) (lowest_parts c d _ _ f C D) in
      lowest_product (a / g) (c / h) (b / h * (d / g)) product_pos left right

  pub product_same : product_num a b c d over product_den a b c d ≡ (a * c) over (b * d)
  product_same =
      let g = gcd a d in
      let h = gcd c b in
      over_same _ _ _ _ product_pos (mul-pos hb hd)
      (ap₂ (λ s t. a / g * (c / h) * (s * t)) (sym (cut_right c b)) (sym (cut_right a d))
      ∙ cut_product (a / g) (b / h) (c / h) (d / g) g h
      ∙ ap₂ (λ s t. s * t * (b / h * (d / g))) (cut_left a d) (cut_left c b))

-- ---- sums over the least common multiple, cut by the part that both denominators share

abbrev pub sum_top : ℕ → ℕ → ℕ → ℕ → ℕ
sum_top a b c d = a * (d / gcd b d) + c * (b / gcd b d)

abbrev pub sum_cut : ℕ → ℕ → ℕ → ℕ → ℕ
sum_cut a b c d = gcd (sum_top a b c d) (gcd b d)

abbrev pub sum_num : ℕ → ℕ → ℕ → ℕ → ℕ
sum_num a b c d = sum_top a b c d / sum_cut a b c d

abbrev pub sum_den : ℕ → ℕ → ℕ → ℕ → ℕ
sum_den a b c d = b / gcd b d * (d / sum_cut a b c d)

cut_sum : (a c B G D E T k : ℕ) → a * D + c * B ≡ T * k → D * G ≡ E * k
    → T * (B * G * (D * G)) ≡ (a * (D * G) + c * (B * G)) * (B * E)
cut_sum a c B G D E T k p q =
    omega (arith, ap (λ t. t * (G * B * E)) p, ap (λ t. T * B * G * t) q)

-- a divisor of a divisor cuts the number as it cuts that divisor
cut_twice : (d g k : ℕ) → 0 < k → g ∣ d → k ∣ g → d / k ≡ d / g * (g / k)
cut_twice d g k h p q =
    eq_of_mul-eq-mul_right k h _ _
    (div-mul_cancel k (dvd_trans k q p) ∙ sym (div-mul_cancel g p) ∙ ap (λ t. d / g * t) (sym (div-mul_cancel k q))
    ∙ omega arith)

module _ (a b c d : ℕ) (hb : 0 < b) (hd : 0 < d) where
  sum_cut_pos : 0 < sum_cut a b c d
  sum_cut_pos = gcd_pos (sum_top a b c d) (gcd b d) (gcd_pos b d hd)

  sum_rest_pos : 0 < d / sum_cut a b c d
  sum_rest_pos =
      let k = sum_cut a b c d in
      let e : d / k * k ≡ d = div-mul_cancel k (dvd_trans k (gcd_is (sum_top a b c d) (gcd b d)).1 (gcd_is b d).1) in
      pos_of_dvd_of_pos (subst (λ n. d / k ∣ n) e (dvd-mul_right (d / k) k)) hd

  left_pos : 0 < b / gcd b d
  left_pos = pos_of_dvd_of_pos (part_divides b (gcd b d) (gcd_is b d).0) hb

  pub sum_pos : 0 < sum_den a b c d
  sum_pos = mul-pos left_pos sum_rest_pos

  pub sum_lowest : gcd a b ≡ 1 → gcd c d ≡ 1 → gcd (sum_num a b c d) (sum_den a b c d) ≡ 1
  sum_lowest e f =
      let g = gcd b d in
      let t = sum_top a b c d in
      let k = sum_cut a b c d in
      let B : b / g ∣ b = part_divides b g (gcd_is b d).0 in
      let D : d / g ∣ d = part_divides d g (gcd_is b d).1 in
      let T : t / k ∣ t = part_divides t k (gcd_is t g).0 in
      let apart : gcd (b / g) (d / g) ≡ 1 = cut_lowest b d hd in
      let one : gcd (a * (d / g)) (b / g) ≡ 1 =
      lowest_product a (d / g) (b / g) left_pos (lowest_parts a b _ _ e (dvd_refl a) B) (lowest_swap _ _ apart) in
      let two : gcd (c * (b / g)) (d / g) ≡ 1 =
      lowest_product c (b / g) (d / g) (cut_pos b d hd) (lowest_parts c d _ _ f (dvd_refl c) D) apart in
      let left : gcd t (b / g) ≡ 1 = lowest_plus (a * (d / g)) (c * (b / g)) (b / g) (dvd-mul_left (b / g) c) one in
      let right : gcd (c * (b / g) + a * (d / g)) (d / g) ≡ 1 =
      lowest_plus (c * (b / g)) (a * (d / g)) (d / g) (dvd-mul_left (d / g) a) two in
      let turned : gcd t (d / g) ≡ 1 = ap (λ n. gcd n (d / g)) (add_comm (a * (d / g)) (c * (b / g))) ∙ right in
      let rest : d / k ≡ d / g * (g / k) = cut_twice d g k sum_cut_pos (gcd_is b d).1 (gcd_is t g).1 in
      let inner : gcd (t / k) (d / k) ≡ 1 =
      ap (λ n. gcd (t / k) n) rest
      ∙ lowest_times (t / k) (d / g) (g / k) (cut_pos t g (gcd_pos b d hd))
      (lowest_parts t (d / g) _ _ turned T (dvd_refl (d / g))) (cut_lowest t g (gcd_pos b d hd)) in
      lowest_times (t / k) (b / g) (d / k) sum_rest_pos (lowest_parts t (b / g) _ _ left T (dvd_refl (b / g))) inner

  pub sum_same : sum_num a b c d over sum_den a b c d ≡ (a * d + c * b) over (b * d)
  sum_same =
      let g = gcd b d in
      let t = sum_top a b c d in
      let k = sum_cut a b c d in
      let T : t / k * k ≡ t = cut_left t g in
      let E : d / k * k ≡ d = div-mul_cancel k (dvd_trans k (gcd_is t g).1 (gcd_is b d).1) in
      let B : b / g * g ≡ b = cut_left b d in
      let D : d / g * g ≡ d = cut_right b d in
      over_same _ _ _ _ sum_pos (mul-pos hb hd)
      (ap₂ (λ s u. t / k * (s * u)) (sym B) (sym D)
      ∙ cut_sum a c (b / g) g (d / g) (d / k) (t / k) k (sym T) (D ∙ sym E)
      ∙ ap₂ (λ s u. (a * s + c * u) * (b / g * (d / k))) D B)

-- ---- the same, of the fractions themselves

-- a unit of up to 56 bits, written as a shift
pub unit_fits : (b : ℕ) → b ≤ 56 → 1 * 2 ^ b % 2 ^ 128 ≡ 2 ^ b
unit_fits b h =
    let top : 2 ^ b ≤ 2 ^ 56 = pow-le-pow_right (omega arith) h in
    let same : 1 * 2 ^ b ≡ 2 ^ b = omega arith in
    ap (λ n. n % 2 ^ 128) same ∙ mod-eq_of_lt (omega arith)
