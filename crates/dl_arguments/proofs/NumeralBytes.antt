-- The bytes of a numeral are digits, `.`, `%` and `/`.
use Rattle.dl_arguments.proofs.Common.{◌≡◌, ℕ, Bool, true, [], ◌∷◌, ◌++◌, All, sym, subst, IsTrue, list_all, is_ascii_digit, All-nil, All-cons, IsNumeral, Text, is_numeral, All-append, IsDecimal, digits, digits_point, point_digits, a_decimal, a_percent, a_fraction, percent, fraction, numeral_test, and_parts}

-- two texts of such bytes with a sign between them
pub joined : (P : ℕ → Type 0) (a b : Text) (sign : ℕ) → P sign → All P a → All P b → All P (a ++ sign ∷ b)
joined P a b sign s front back = All-append P a (sign ∷ b) front (All-cons P sign b s back)

-- what passes a test has what the test tells
pub passed : (P : ℕ → Type 0) (p : ℕ → Bool) → ((b : ℕ) → p b ≡ true → P b) → (text : Text) → IsTrue (list_all p text)
    → All P text
passed P p each [] h = All-nil P
passed P p each (b ∷ text) h =
    let t = and_parts (p b) (list_all p text) h in All-cons P b text (each b t.0) (passed P p each text t.1)

module _ (P : ℕ → Type 0) (digit : (b : ℕ) → is_ascii_digit b ≡ true → P b) (point_sign : P 46) (percent_sign : P 37)
    (slash_sign : P 47) where
  digits_each : (text : Text) → IsTrue (list_all is_ascii_digit text) → All P text
  digits_each = passed P is_ascii_digit digit

  decimal_each : (text : Text) → IsDecimal text → All P text
  decimal_each text (digits n) = digits_each text n.1
  decimal_each text (digits_point front back cut a b) =
      subst (All P) (sym cut) (joined P front back 46 point_sign (digits_each front a.1) (digits_each back b))
  decimal_each text (point_digits back cut b) =
      subst (All P) (sym cut) (All-cons P 46 back point_sign (digits_each back b.1))

  numeral_each : (text : Text) → IsNumeral text → All P text
  numeral_each text (a_decimal d) = decimal_each text d
  numeral_each text (a_percent (percent front cut d)) =
      subst (All P) (sym cut) (joined P front [] 37 percent_sign (decimal_each front d) (All-nil P))
  numeral_each text (a_fraction (fraction first second cut a b)) =
      subst (All P) (sym cut) (joined P first second 47 slash_sign (digits_each first a.1) (digits_each second b.1))

  pub written_each : (text : Text) → IsTrue (is_numeral text) → All P text
  written_each text h = numeral_each text ((numeral_test text).0 h)
