-- The parts of a numeral that is not bad are small.
use Rattle.dl_frac.proofs.Common.{◌≡◌, inl, inr, ℕ, suc, ◌-◌, ◌*◌, ◌^◌, ◌<◌, ◌≤◌, true, false, List, [], ◌∷◌, arith, refl, sym, ap, ◌∙◌, ◌==◌, nat_lt, IsTrue, list_any, list_all, before_first, after_first, is_ascii_digit, pow-le-pow_right, nat_tests, Fraction, ◌over◌, is_point, is_slash, is_percent, digits_in, digit_count, number_in, decimals_in, numeral_value, is_bad}
use Rattle.std.specs.Prelude.{◌||◌}
use Rattle.std.proofs.Math.Nat.{one-le-pow}
use Rattle.std.proofs.lemmas.Int.Digits.{digits_value-lt}
use Rattle.std.proofs.lemmas.Bool.{cases_Bool, ltb-false}
use Rattle.dl_bytes.proofs.FirstSign.{after_none, after_yes}
use Rattle.dl_frac.proofs.NumeralLaws.{count-append, plain_value, plain_bad, hundredth}
use Rattle.dl_bytes.proofs.DigitLaws.{digits_pass}
use Rattle.dl_exact.proofs.Parts.{over_num_le as num_of_over-le, over_den_le as den_of_over-le}

-- both parts have at most as much as d digits write
pub record IsSmall (d : ℕ) (x : Fraction) : Type 0 where
  pub num : x.num < 10 ^ d
  pub den : x.den ≤ 10 ^ d

small_over : (d n m : ℕ) → 0 < m → n < 10 ^ d → m ≤ 10 ^ d → IsSmall d (n over m)
small_over d n m pos num den = record {
  num = omega (arith, num_of_over-le n m pos, num);
  den =
      omega (arith, den_of_over-le n m pos, den);
}

tens : (k d : ℕ) → k ≤ d → 10 ^ k ≤ 10 ^ d
tens k d h = pow-le-pow_right (omega arith) h

digits_all : (text : List ℕ) → IsTrue (list_all is_ascii_digit (digits_in text))
digits_all [] = refl
digits_all (x ∷ xs) = elim (cases_Bool (is_ascii_digit x)) [
  | inl digit ↦ rw (digit, digit) (digits_all xs)
  | inr other ↦ rw other (digits_all xs)
]

number_small : (text : List ℕ) (d : ℕ) → digit_count text ≤ d → number_in text < 10 ^ d
number_small text d few =
    omega (
      arith,
      digits_value-lt 10 (digits_in text) ((digits_pass (digits_in text)).0 (digits_all text)),
      tens (digit_count text) d few,
    )

-- no more digits stand behind the point than in all
decimals_le : (text : List ℕ) → decimals_in text ≤ digit_count text
decimals_le [] = omega arith
decimals_le (x ∷ xs) = elim (cases_Bool (is_point x)) [
  | inl point ↦
      let rest : decimals_in (x ∷ xs) ≡ digit_count xs = ap digit_count (after_yes is_point x xs point) in
      omega (arith, rest, count-append (x ∷ []) xs)
  | inr other ↦
      let rest : decimals_in (x ∷ xs) ≡ decimals_in xs = ap digit_count (after_none is_point (x ∷ []) xs (rw other)) in
      omega (arith, rest, count-append (x ∷ []) xs, decimals_le xs)
]

fraction_within : (d m n k : ℕ) → (nat_lt d m || nat_lt d n || k == 0) ≡ false → (m ≤ d) × (n ≤ d) × (0 < k)
fraction_within d m n k h = grind (arith, nat_tests, h)

fraction_small : (d : ℕ) (text : List ℕ) → list_any is_slash text ≡ true → is_bad d text ≡ false
    → IsSmall d (numeral_value text)
unfolding numeral_value is_bad
fraction_small d text slash good =
    let front = before_first is_slash text in
    let back = after_first is_slash text in
    let few = fraction_within d (digit_count front) (digit_count back) (number_in back) (rw slash at good) in
    let den : number_in back < 10 ^ d = number_small back d few.1 in
    rw slash (small_over d (number_in front) (number_in back) few.2 (number_small front d few.0) (omega (arith, den)))

percent_small : (e : ℕ) (text : List ℕ) → list_any is_slash text ≡ false → list_any is_percent text ≡ true
    → is_bad (suc (suc e)) text ≡ false
    → IsSmall (suc (suc e)) (numeral_value text)
percent_small e text slash percent good =
    let few : digit_count text ≤ suc (suc e) - 2 = ltb-false (suc (suc e) - 2) (digit_count text)
    (rw percent at (sym (plain_bad (suc (suc e)) text slash) ∙ good)) in
    let more : 10 ^ suc (suc e) ≡ 100 * 10 ^ e = omega arith in
    let decimals : 10 ^ decimals_in text ≤ 10 ^ e = tens (decimals_in text) e (omega (arith, few, decimals_le text)) in
    let pos : 0 < 10 ^ decimals_in text = one-le-pow (decimals_in text) 10 (omega arith) in
    rw (plain_value text slash, percent, ← hundredth (number_in text) (10 ^ decimals_in text) pos)
    (small_over (suc (suc e)) (number_in text) (100 * 10 ^ decimals_in text) (omega (arith, pos))
    (number_small text (suc (suc e)) (omega (arith, few)))
    (omega (arith, decimals, more)))

decimal_small : (d : ℕ) (text : List ℕ) → list_any is_slash text ≡ false → list_any is_percent text ≡ false
    → is_bad d text ≡ false
    → IsSmall d (numeral_value text)
decimal_small d text slash percent good =
    let few : digit_count text ≤ d = ltb-false d (digit_count text)
    (rw percent at (sym (plain_bad d text slash) ∙ good)) in
    let decimals : 10 ^ decimals_in text ≤ 10 ^ d = tens (decimals_in text) d (omega (arith, few, decimals_le text)) in
    let pos : 0 < 10 ^ decimals_in text = one-le-pow (decimals_in text) 10 (omega arith) in
    rw (plain_value text slash, percent) (small_over d (number_in text) (10 ^ decimals_in text) pos
    (number_small text d few) decimals)

pub numeral_small : (e : ℕ) (text : List ℕ) → is_bad (suc (suc e)) text ≡ false
    → IsSmall (suc (suc e)) (numeral_value text)
numeral_small e text good = elim (cases_Bool (list_any is_slash text)) [
  | inl slash ↦ fraction_small (suc (suc e)) text slash good
  | inr none ↦ elim (cases_Bool (list_any is_percent text)) [
    | inl percent ↦ percent_small e text none percent good
    | inr plain ↦ decimal_small (suc (suc e)) text none plain good
  ]
]
