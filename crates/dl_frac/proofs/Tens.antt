-- Numbers over divisors of powers of ten, cut by the factors 2 and 5 alone.
use Rattle.dl_frac.proofs.Common.{◌≡◌, ℕ, ◌*◌, ◌<◌, ◌≤◌, ◌^◌, arith, refl, sym, ap, subst, ◌∙◌, gcd, ◌over◌, gcd_is, gcd-mod}
use Rattle.std.proofs.Common.{zero, suc, ◌/◌, ◌%◌, mod-lt, mul-le-mul_left, le_of_mul-le-mul_right}
use Rattle.std.proofs.Math.Nat.{div-mul_cancel, one-le-pow, eq_of_mul-eq-mul_right, eq-one_of_dvd-one, pos_of_dvd_of_pos}
use Rattle.std.proofs.lemmas.Nat.Gcd.{dvd_of_mod-eq-zero, dvd_refl, dvd_trans, le_of_dvd}
use Prim.Native.Nat.{◌∣◌}
use native.Mathlib.Numerals.{unary_clauses}
use Rattle.dl_exact.specs.Gcd.{euclid}
use Rattle.dl_frac.specs.Cuts.{IsCut}
use Rattle.dl_exact.proofs.Over.{over_same}
use Rattle.dl_exact.proofs.Multiples.{lowest_says, lowest_times, part_divides}

-- ---- one cut more

module _ (P : ℕ) {n d m e : ℕ} (factor : 1 < P) (cut : IsCut n d m e) (x : m % P ≡ 0) (y : e % P ≡ 0) where
  num_back : m / P * P ≡ m
  num_back = div-mul_cancel P (dvd_of_mod-eq-zero P x)

  den_back : e / P * P ≡ e
  den_back = div-mul_cancel P (dvd_of_mod-eq-zero P y)

  den_part : e / P ∣ e
  den_part = part_divides e P (dvd_of_mod-eq-zero P y)

  pub cut_more : IsCut n d (m / P) (e / P)
  cut_more = record {
    num = dvd_trans (m / P) (part_divides m P (dvd_of_mod-eq-zero P x)) cut.num;
    den = dvd_trans (e / P) den_part cut.den;
    same = eq_of_mul-eq-mul_right P (omega (arith, factor)) _ _
        (omega (arith, cut.same, ap (λ t. t * d) num_back, ap (λ t. n * t) den_back));
    above = pos_of_dvd_of_pos den_part cut.above;
  }

  pub cut_falls : e / P < e
  cut_falls = omega (arith, den_back, cut_more.above, mul-le-mul_left (e / P) factor)

-- ---- what 2 and 5 do not divide has no divisor with a power of ten

rest_two : (r : ℕ) → r < 2 → ¬ (r ≡ 0) → gcd 2 r ≡ 1
unfolding gcd euclid
rest_two zero h some = absurd (some refl)
rest_two (suc zero) h some = refl
rest_two (suc (suc r)) h some = absurd (omega (arith, h))

rest_five : (r : ℕ) → r < 5 → ¬ (r ≡ 0) → gcd 5 r ≡ 1
unfolding gcd euclid
rest_five zero h some = absurd (some refl)
rest_five (suc zero) h some = refl
rest_five (suc (suc zero)) h some = refl
rest_five (suc (suc (suc zero))) h some = refl
rest_five (suc (suc (suc (suc zero)))) h some = refl
rest_five (suc (suc (suc (suc (suc r))))) h some = absurd (omega (arith, h))

module _ (g : ℕ) (two : ¬ (2 ∣ g)) (five : ¬ (5 ∣ g)) where
  apart_ten : gcd g 10 ≡ 1
  apart_ten =
      let first : gcd g 2 ≡ 1 = sym (gcd-mod g 2)
      ∙ rest_two (g % 2) (mod-lt g (omega arith)) (λ e. two (dvd_of_mod-eq-zero 2 e)) in
      let second : gcd g 5 ≡ 1 = sym (gcd-mod g 5)
      ∙ rest_five (g % 5) (mod-lt g (omega arith)) (λ e. five (dvd_of_mod-eq-zero 5 e)) in
      lowest_times g 2 5 (omega arith) first second

  apart_tens : (k : ℕ) → gcd g (10 ^ k) ≡ 1
  apart_tens zero = eq-one_of_dvd-one (gcd_is g 1).1
  apart_tens (suc k) =
      let more : 10 ^ suc k ≡ 10 ^ k * 10 = simp unary_clauses in
      rw more (lowest_times g (10 ^ k) 10 (omega arith) (apart_tens k) apart_ten)

-- ---- cut by 2, and then by 5

cut_over : {n d m e : ℕ} → 0 < d → IsCut n d m e → (m over e ≡ n over d) × (m ≤ n) × (e ≤ d)
cut_over {n = n} {d = d} {m = m} {e = e} pos cut =
    let less : e ≤ d = le_of_dvd pos cut.den in (
      over_same m e n d cut.above pos cut.same,
      le_of_mul-le-mul_right (omega (arith, cut.same, mul-le-mul_left n less)) pos,
      less,
    )

-- of the quotient and of the parts
pub tens_over : (k : ℕ) {n d n2 d2 n5 d5 : ℕ} → d ≡ 10 ^ k → IsCut n d n2 d2 → IsCut n2 d2 n5 d5
    → (n5 over d5 ≡ n over (10 ^ k)) × (n5 ≤ n) × (d5 ≤ 10 ^ k)
tens_over k {n = n} is first second =
    let one = cut_over (rw is (one-le-pow k 10 (omega arith))) first in
    let two = cut_over first.above second in
    (two.0 ∙ one.0 ∙ ap (λ t. n over t) is, omega (arith, one.1, two.1), omega (arith, is, one.2, two.2))

pub tens_lowest : (k : ℕ) {n d n2 d2 n5 d5 : ℕ} → d ≡ 10 ^ k → IsCut n d n2 d2 → (2 ∣ n2 → ¬ (2 ∣ d2)) → IsCut n2 d2 n5 d5
    → (5 ∣ n5 → ¬ (5 ∣ d5)) → gcd n5 d5 ≡ 1
tens_lowest k {d2 = d2} {n5 = n5} {d5 = d5} is first two second five =
    let g = gcd n5 d5 in
    let a : g ∣ n5 = (gcd_is n5 d5).0 in
    let b : g ∣ d5 = (gcd_is n5 d5).1 in
    let none_two : ¬ (2 ∣ g) = λ e. two (dvd_trans 2 e (dvd_trans g a second.num)) (dvd_trans 2 e (dvd_trans g b second.den)) in
    let none_five : ¬ (5 ∣ g) = λ e. five (dvd_trans 5 e a) (dvd_trans 5 e b) in
    eq-one_of_dvd-one (lowest_says g (10 ^ k) g (apart_tens g none_two none_five k) (dvd_refl g)
    (dvd_trans g b (dvd_trans d5 second.den (subst (λ t. d2 ∣ t) is first.den))))
