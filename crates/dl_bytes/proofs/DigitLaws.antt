-- Digits, and the number that they write, digit by digit.
use Rattle.dl_bytes.proofs.Common.{Bool, rules, ℕ, true, false, ◌≡◌, ◌∙◌, ◌+◌, ◌-◌, ◌*◌, ◌<◌, ◌≤◌, ◌^◌, arith, refl, sym, List, [], ◌∷◌, length, take, get_or, nat_tests, IsTrue, ◌&&◌, ◌↔◌, is_ascii_digit, digit_value, list_all, list_any, digits_value, is_point, is_percent, is_slash}
use Rattle.std.specs.Str.Parse.{AllDigits}
use Rattle.std.proofs.lemmas.Int.Digits.{digits_value_more}
use Rattle.std.proofs.lemmas.List.Folds.{list_any_none}
use Rattle.std.proofs.lemmas.List.Sums.{AllPass-from_list_all}
use Rattle.std.proofs.lemmas.Str.Parse.{IsNumeralModel, digits_value-take-le, digits_value_short, numerals_by_value}

pub own : IsNumeralModel (λ ds. list_all is_ascii_digit ds ≡ true) (digits_value 10)
own = numerals_by_value _ (search rules)

-- digits have none of what no digit is
pub no_sign : (p : ℕ → Bool) → ((byte : ℕ) → is_ascii_digit byte ≡ true → p byte ≡ false) → (ds : List ℕ)
    → list_all is_ascii_digit ds ≡ true → list_any p ds ≡ false
no_sign p h ds all = list_any_none p ds (λ k d inside. h _ (AllPass-from_list_all is_ascii_digit ds all k d inside))

pub point_no_digit : (b : ℕ) → is_ascii_digit b ≡ true → is_point b ≡ false
point_no_digit b h = grind (arith, nat_tests, h)

pub percent_no_digit : (b : ℕ) → is_ascii_digit b ≡ true → is_percent b ≡ false
percent_no_digit b h = grind (arith, nat_tests, h)

pub slash_no_digit : (b : ℕ) → is_ascii_digit b ≡ true → is_slash b ≡ false
slash_no_digit b h = grind (arith, nat_tests, h)

-- ---- digits by their values

digit_tells : (b : ℕ) → is_ascii_digit b ≡ true → digit_value b < 10
digit_tells b h = grind (arith, nat_tests, h)

pub digit_or_not : (b : ℕ) → digit_value b < 10 → is_ascii_digit b ≡ true
digit_or_not b h = grind (arith, nat_tests, h)

pub digits_pass : (text : List ℕ) → IsTrue (list_all is_ascii_digit text) ↔ AllDigits 10 text
digits_pass [] = (λ _. tt, λ _. refl)
digits_pass (x ∷ xs) = one_more (is_ascii_digit x) refl (digits_pass xs)
  where
    one_more : (b : Bool) → is_ascii_digit x ≡ b → IsTrue (list_all is_ascii_digit xs) ↔ AllDigits 10 xs
        → IsTrue (b && list_all is_ascii_digit xs) ↔ AllDigits 10 (x ∷ xs)
    one_more true e rest = (λ h. (digit_tells x e, rest.0 h), λ h. rest.1 h.1)
    one_more false e rest = (λ h. absurd (cc), λ h. absurd (let f : false ≡ true = sym e ∙ digit_or_not x h.0 in cc))

-- ---- the number that digits write

-- each byte of digits is one
pub digit_at : (text : List ℕ) (i : ℕ) → list_all is_ascii_digit text ≡ true → i < length text
    → is_ascii_digit (get_or text i 0) ≡ true
digit_at text i all inside = AllPass-from_list_all is_ascii_digit text all i 0 inside

pub digit_worth : (byte : ℕ) → is_ascii_digit byte ≡ true → digit_value byte + 48 ≡ byte
digit_worth byte h = grind (arith, nat_tests)

-- what the digits so far and one more write
pub one_more_digit : (text : List ℕ) (i : ℕ) → list_all is_ascii_digit text ≡ true → i < length text
    → digits_value 10 (take i text) * 10 + (get_or text i 0 - 48) ≡ digits_value 10 (take (i + 1) text)
one_more_digit text i all inside =
    let worth = digit_worth (get_or text i 0) (digit_at text i all inside) in
    omega (arith, digits_value_more 10 text i inside, worth)

-- at most 17 digits write less than 10^17
pub value_fits : (text : List ℕ) (i : ℕ) → list_all is_ascii_digit text ≡ true → length text ≤ 17
    → digits_value 10 (take i text) < 10 ^ 17
value_fits text i all few =
    omega (arith, digits_value-take-le 10 text i (omega arith), digits_value_short own text 17 all few)

pub number_below : (text : List ℕ) (most : ℕ) → list_all is_ascii_digit text ≡ true → length text ≤ most
    → digits_value 10 text < 10 ^ most
number_below text most all few = digits_value_short own text most all few
