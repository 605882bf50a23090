-- More laws of the greatest common divisor: its steps, numbers without a common divisor, least common multiples.
use Rattle.dl_exact.proofs.Common.{◌≡◌, ℕ, ◌+◌, ◌*◌, ◌-◌, ◌/◌, ◌%◌, ◌<◌, arith, sym, ap, subst, ◌∙◌, mul_comm, eq-one_of_dvd-one, div-mul_cancel, inl, inr, IsGcd-from_mod, IsGcd-from_zero, gcd, dvd-mul_left, dvd-mul_right, dvd-mul_right_of_dvd, dvd-sub, mul-dvd-mul_left, mul-dvd-mul_right, dvd_of_mul-dvd-mul_right, eq-zero-or-pos, IsGcd-swap, same_from_IsGcd, dvd_trans, dvd-zero, dvd_antisymm, IsLcm, lcm}
use Prim.Native.Nat.{◌∣◌}
use Rattle.dl_exact.proofs.GcdLaws.{gcd_is, gcd_pos, gcd-scale, cut_left, cut_right}

-- ---- Euclid's steps

pub gcd-zero : (a b : ℕ) → b ≡ 0 → gcd a b ≡ a
gcd-zero a b e = same_from_IsGcd a b (gcd a b) a (gcd_is a b) (IsGcd-from_zero a b e)

pub gcd-mod : (a b : ℕ) → gcd b (a % b) ≡ gcd a b
gcd-mod a b = same_from_IsGcd a b (gcd b (a % b)) (gcd a b) (IsGcd-from_mod a b (gcd b (a % b)) (gcd_is b (a % b)))
    (gcd_is a b)

pub gcd-swap : (a b : ℕ) → gcd a b ≡ gcd b a
gcd-swap a b = same_from_IsGcd a b (gcd a b) (gcd b a) (gcd_is a b) (IsGcd-swap b a (gcd b a) (gcd_is b a))

-- ---- numbers with no common divisor but 1

pub lowest_by : (a b : ℕ) → ((d : ℕ) → d ∣ a → d ∣ b → d ∣ 1) → gcd a b ≡ 1
lowest_by a b h = eq-one_of_dvd-one (h (gcd a b) (gcd_is a b).0 (gcd_is a b).1)

pub lowest_says : (a b d : ℕ) → gcd a b ≡ 1 → d ∣ a → d ∣ b → d ∣ 1
lowest_says a b d e p q = subst (λ n. d ∣ n) e ((gcd_is a b).2 d p q)

pub lowest_swap : (a b : ℕ) → gcd a b ≡ 1 → gcd b a ≡ 1
lowest_swap a b e = gcd-swap b a ∙ e

-- divisors of the two have none either
pub lowest_parts : (a b c d : ℕ) → gcd a b ≡ 1 → c ∣ a → d ∣ b → gcd c d ≡ 1
lowest_parts a b c d e p q = lowest_by c d (λ k u v. lowest_says a b k e (dvd_trans k u p) (dvd_trans k v q))

-- a number that has none with two numbers has none with their product
pub lowest_times : (a b c : ℕ) → 0 < c → gcd a b ≡ 1 → gcd a c ≡ 1 → gcd a (b * c) ≡ 1
lowest_times a b c h p q =
    let e : gcd (a * c) (b * c) ≡ c = gcd-scale a b c h ∙ ap (λ n. n * c) p ∙ (omega arith) in
    lowest_by a (b * c) (λ k u v. lowest_says a c k q u
    (subst (λ n. k ∣ n) e ((gcd_is (a * c) (b * c)).2 k (dvd-mul_right_of_dvd k u c) v)))

pub lowest_product : (a c b : ℕ) → 0 < b → gcd a b ≡ 1 → gcd c b ≡ 1 → gcd (a * c) b ≡ 1
lowest_product a c b h p q = elim (eq-zero-or-pos c) [
  | inl none ↦
      let one : b ≡ 1 = sym (gcd-zero b c none) ∙ lowest_swap c b q in
      lowest_by (a * c) b (λ k u v. subst (λ n. k ∣ n) one v)
  | inr pos ↦ lowest_swap b (a * c) (lowest_times b a c pos (lowest_swap a b p) (lowest_swap c b q))
]

-- a multiple of b may be added
pub lowest_plus : (a m b : ℕ) → b ∣ m → gcd a b ≡ 1 → gcd (a + m) b ≡ 1
lowest_plus a m b d e = lowest_by (a + m) b (λ k u v.
    let back : a + m - m ≡ a = omega arith in
    lowest_says a b k e (subst (λ n. k ∣ n) back (dvd-sub k u (dvd_trans k v d))) v)

-- what is left after a divisor is taken out divides the number
pub part_divides : (a g : ℕ) → g ∣ a → a / g ∣ a
part_divides a g d = subst (λ n. a / g ∣ n) (div-mul_cancel g d) (dvd-mul_right (a / g) g)

-- ---- least common multiples

pub lcm_left : (a b : ℕ) → a ∣ lcm a b
unfolding lcm
lcm_left a b =
    let g = gcd a b in
    let p : a / g * g ≡ a = cut_left a b in
    let q : b / g * g ≡ b = cut_right a b in
    let r : a / g * (b / g * g) ≡ a / g * b = ap (λ t. a / g * t) q in
    let s : a / g * g * (b / g) ≡ a * (b / g) = ap (λ t. t * (b / g)) p in
    let e : a * (b / g) ≡ a / g * b = omega (arith, r, s) in
    subst (λ n. a ∣ n) e (dvd-mul_right a (b / g))

pub lcm_right : (a b : ℕ) → b ∣ lcm a b
unfolding lcm
lcm_right a b = dvd-mul_left b (a / gcd a b)

-- the product of the two is that of their multiple and their divisor
pub lcm_gcd : (a b : ℕ) → lcm a b * gcd a b ≡ a * b
unfolding lcm
lcm_gcd a b = omega (arith, ap (λ t. t * b) (cut_left a b))

pub lcm_least : (a b n : ℕ) → 0 < b → a ∣ n → b ∣ n → lcm a b ∣ n
lcm_least a b n h p q = elim (eq-zero-or-pos n) [
  | inl none ↦ subst (λ k. lcm a b ∣ k) (sym none) (dvd-zero (lcm a b))
  | inr pos ↦
      let g = gcd a b in
      let u : a * b ∣ a * n = mul-dvd-mul_left b a q in
      let v : a * b ∣ b * n = subst (λ k. a * b ∣ k) (mul_comm n b) (mul-dvd-mul_right a p b) in
      let w : a * b ∣ gcd (a * n) (b * n) = (gcd_is (a * n) (b * n)).2 (a * b) u v in
      let x : lcm a b * g ∣ n * g = subst (λ k. lcm a b * g ∣ k) (gcd-scale a b n pos ∙ mul_comm g n)
      (subst (λ k. k ∣ gcd (a * n) (b * n)) (sym (lcm_gcd a b)) w) in
      dvd_of_mul-dvd-mul_right (lcm a b) (gcd_pos a b h) x
]

pub lcm_is : (a b : ℕ) → 0 < b → IsLcm a b (lcm a b)
lcm_is a b h = record { left = lcm_left a b; right = lcm_right a b; least = λ n p q. lcm_least a b n h p q }

pub lcm_one : (a b m n : ℕ) → IsLcm a b m → IsLcm a b n → m ≡ n
lcm_one a b m n p q = dvd_antisymm (p.least n q.left q.right) (q.least m p.left p.right)
