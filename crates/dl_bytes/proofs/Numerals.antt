-- Decimals and their signs.
use Rattle.dl_bytes.proofs.Common.{◌≡◌, ℕ, ◌+◌, ◌<◌, false, List, [], ◌∷◌, ◌++◌, length, arith, refl, ap, ◌∙◌, list_any, AreDigits, IsDigits, IsDecimal, digits, digits_point, point_digits, is_point, is_percent, is_slash}
use Rattle.dl_bytes.proofs.FirstSign.{any_at, any_none_cons, clash}
use Rattle.dl_bytes.proofs.DigitLaws.{no_sign, percent_no_digit, slash_no_digit}

-- digits round a point, with one on one side at least
pub pointed : {text : List ℕ} (front back : List ℕ) → AreDigits front → AreDigits back
    → 0 < length front + length back → text ≡ front ++ 46 ∷ back → IsDecimal text
pointed [] back a b some cut = point_digits back cut (omega (arith, some), b)
pointed (x ∷ xs) back a b some cut = digits_point (x ∷ xs) back cut (omega arith, a) b

module _ (text front back : List ℕ) (a : AreDigits front) (b : AreDigits back) (cut : text ≡ front ++ 46 ∷ back) where
  no_slash : list_any is_slash text ≡ false
  no_slash = rw cut (any_none_cons is_slash 46 front back refl (no_sign is_slash slash_no_digit front a)
      (no_sign is_slash slash_no_digit back b))

  no_percent : list_any is_percent text ≡ false
  no_percent = rw cut (any_none_cons is_percent 46 front back refl (no_sign is_percent percent_no_digit front a)
      (no_sign is_percent percent_no_digit back b))

-- a decimal has no slash and no percent sign
pub decimal_marks : (text : List ℕ) → IsDecimal text
    → (list_any is_slash text ≡ false) × (list_any is_percent text ≡ false)
decimal_marks text (digits n) = (no_sign is_slash slash_no_digit text n.1, no_sign is_percent percent_no_digit text n.1)
decimal_marks text (digits_point front back cut a b) =
    (no_slash text front back a.1 b cut, no_percent text front back a.1 b cut)
decimal_marks text (point_digits back cut b) =
    (no_slash text [] back refl b.1 cut, no_percent text [] back refl b.1 cut)

pub unpointed : (text : List ℕ) → list_any is_point text ≡ false → IsDecimal text → IsDigits text
unpointed text none (digits n) = n
unpointed text none (digits_point front back cut a b) =
    clash (list_any is_point text) (ap (list_any is_point) cut ∙ any_at is_point 46 refl front back) none
unpointed text none (point_digits back cut b) =
    clash (list_any is_point text) (ap (list_any is_point) cut ∙ any_at is_point 46 refl [] back) none
