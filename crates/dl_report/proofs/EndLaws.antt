-- An end is told by its text.
use Rattle.dl_report.proofs.Common.{ℕ, ◌≡◌, ◌≢◌, true, false, ◌∙◌, ◌+◌, ◌/◌, ◌%◌, ◌^◌, ◌<◌, zero, suc, List, [], ◌∷◌, ◌++◌, refl, sym, ap, ap₂, subst, length, get_or, All, arith, codes, append_assoc, length-append, leb-true, one-le-pow, All-append, All-push, All-weaker, decimal, last_digits, with_digits, end_text, IsPlainByte, low_plain, ◌*◌, ◌≤◌, nat_le, ◌&&◌, and_from, both_ways, le-leb, mod-mul, get_or-append, div-le_self, div-add-mod, mod-one, pow-succ', get_or-append_seam, decimal_by_steps_wide, decimal_is_IsNumeral_wide, All-nil, All-cons, AllPass-from_list_all, digits_value, high_plain, IsInRange, End, Number, Whole, Beyond, Absent}
use Rattle.dl_report.proofs.Parting.{parted}

record IsDigit (byte : ℕ) : Type 0 where
  from : 48 ≤ byte
  to : byte ≤ 57

digit_is : (n : ℕ) → n < 10 → IsDigit (48 + n)
digit_is n h = record { from = omega arith; to = omega arith }

decimal_digits : (n : ℕ) → n < 10 ^ 64 → All IsDigit (decimal n)
decimal_digits = decimal_by_steps_wide (λ n ds. All IsDigit ds)
    (λ n h. All-cons IsDigit (48 + n) [] (digit_is n h) (All-nil IsDigit))
    (λ n ds h all. All-push IsDigit ds (48 + n % 10) all (digit_is (n % 10) (omega arith)))

last_digits_are : (d n : ℕ) → All IsDigit (last_digits d n)
unfolding last_digits
last_digits_are zero n = All-nil IsDigit
last_digits_are (suc d) n = All-cons IsDigit _ _ (digit_is (n / 10 ^ d % 10) (omega arith)) (last_digits_are d n)

pub decimal_told : (m n : ℕ) → m < 10 ^ 64 → n < 10 ^ 64 → decimal m ≡ decimal n → m ≡ n
decimal_told m n p q e = sym (decimal_is_IsNumeral_wide m p).1 ∙ ap (digits_value 10) e
    ∙ (decimal_is_IsNumeral_wide n q).1

first_is : (n : ℕ) (rest : List ℕ) → n < 10 ^ 64 → IsDigit (get_or (decimal n ++ rest) 0 0)
first_is n rest h =
    let some : 0 < length (decimal n) = (decimal_is_IsNumeral_wide n h).0.0 in
    subst IsDigit (sym (get_or-append (decimal n) rest 0 0 some)) (decimal_digits n h 0 0 some)

digits_plain : (text : List ℕ) → All IsDigit text → All IsPlainByte text
digits_plain text all = All-weaker IsDigit IsPlainByte
    (λ byte digit. low_plain byte (omega (arith, digit.from)) (omega (arith, digit.to))) text all

pub decimal_plain : (n : ℕ) → n < 10 ^ 64 → All IsPlainByte (decimal n)
decimal_plain n h = digits_plain (decimal n) (decimal_digits n h)

pointless : (n : ℕ) → n < 10 ^ 64 → All (λ byte. byte ≢ 46) (decimal n)
pointless n h = All-weaker IsDigit (λ byte. byte ≢ 46) (λ byte digit e. omega (arith, digit.from)) (decimal n)
    (decimal_digits n h)

-- digits with a point among them are not a whole number
no_point : (n : ℕ) (front rest : List ℕ) → n < 10 ^ 64 → front ++ 46 ∷ rest ≡ decimal n → ⊥
no_point n front rest h e =
    let there : get_or (decimal n) (length front) 0 ≡ 46 =
    subst (λ text. get_or text (length front) 0 ≡ 46) e (get_or-append_seam front 46 rest 0) in
    let within : length front < length (decimal n) = subst (λ text. length front < length text) e
    (omega (arith, length-append front (46 ∷ rest))) in
    let digit = decimal_digits n h (length front) 0 within in
    omega (arith, digit.from)

digits_told : (d f m n : ℕ) → last_digits d m ≡ last_digits f n → (d ≡ f) × (m % 10 ^ d ≡ n % 10 ^ f)
unfolding last_digits
digits_told zero zero m n e = (refl, omega (arith, mod-one m, mod-one n))
digits_told zero (suc f) m n e = absurd (cc)
digits_told (suc d) zero m n e = absurd (cc)
digits_told (suc d) (suc f) m n e =
    let first : 48 + m / 10 ^ d % 10 ≡ 48 + n / 10 ^ f % 10 = cc in
    let rest = digits_told d f m n (cc) in
    let power : 10 ^ d ≡ 10 ^ f = ap (λ k. 10 ^ k) rest.0 in
    let low : m / 10 ^ d % 10 * 10 ^ d + m % 10 ^ d ≡ n / 10 ^ f % 10 * 10 ^ f + n % 10 ^ f = ap₂ (λ x y. x + y)
    (ap₂ (λ x y. x * y) (omega (arith, first)) power) rest.1 in
    let left : m % 10 ^ suc d ≡ m / 10 ^ d % 10 * 10 ^ d + m % 10 ^ d = ap (λ k. m % k) (pow-succ' 10 d)
    ∙ mod-mul m {m = 10} {c = 10 ^ d}
    (omega arith) (one-le-pow d 10 (omega arith)) in
    let right : n % 10 ^ suc f ≡ n / 10 ^ f % 10 * 10 ^ f + n % 10 ^ f = ap (λ k. n % k) (pow-succ' 10 f)
    ∙ mod-mul n {m = 10} {c = 10 ^ f}
    (omega arith) (one-le-pow f 10 (omega arith)) in
    (ap suc rest.0, left ∙ low ∙ sym right)

-- a number is told by its whole part and its digits
with_digits_told : (d f m n : ℕ) → m < 2 ^ 128 → n < 2 ^ 128 → with_digits d m ≡ with_digits f n → m ≡ n
with_digits_told d f m n p q e =
    let whole_m : m / 10 ^ d < 10 ^ 64 = omega (arith, div-le_self m (10 ^ d)) in
    let whole_n : n / 10 ^ f < 10 ^ 64 = omega (arith, div-le_self n (10 ^ f)) in
    let cut = parted 46 (decimal (m / 10 ^ d)) (decimal (n / 10 ^ f)) (last_digits d m) (last_digits f n)
    (pointless (m / 10 ^ d) whole_m)
    (pointless (n / 10 ^ f) whole_n)
    (sym (append_assoc (decimal (m / 10 ^ d)) (46 ∷ []) (last_digits d m)) ∙ e
    ∙ append_assoc (decimal (n / 10 ^ f)) (46 ∷ []) (last_digits f n)) in
    let rest = digits_told d f m n cut.1 in
    let whole = decimal_told (m / 10 ^ d) (n / 10 ^ f) whole_m whole_n cut.0 in
    sym (div-add-mod m (10 ^ d)) ∙ ap₂ (λ x y. x + y) (ap₂ (λ x y. x * y) (ap (λ k. 10 ^ k) rest.0) whole) rest.1
    ∙ div-add-mod n (10 ^ f)

-- the first byte of a number, and of a whole one, is a digit
with_digits_first : (d n : ℕ) → n < 2 ^ 128 → IsDigit (get_or (with_digits d n) 0 0)
with_digits_first d n h =
    let whole : n / 10 ^ d < 10 ^ 64 = omega (arith, div-le_self n (10 ^ d)) in
    subst (λ text. IsDigit (get_or text 0 0)) (sym (append_assoc (decimal (n / 10 ^ d)) (46 ∷ []) (last_digits d n)))
    (first_is (n / 10 ^ d) (46 ∷ last_digits d n) whole)

decimal_first : (n : ℕ) → n < 2 ^ 32 → IsDigit (get_or (decimal n) 0 0)
decimal_first n h = decimal_digits n (omega arith) 0 0 (decimal_is_IsNumeral_wide n (omega arith)).0.0

-- no text that begins with a digit is one that does not
no_digit : (text other : List ℕ) → IsDigit (get_or text 0 0) → text ≡ other
    → (nat_le 48 (get_or other 0 0) && nat_le (get_or other 0 0) 57) ≡ false → ⊥
no_digit text other digit e low =
    let first : IsDigit (get_or other 0 0) = subst (λ t. IsDigit (get_or t 0 0)) e digit in
    both_ways _ low (and_from _ _ (le-leb 48 _ first.from) (le-leb _ 57 first.to))

with_digits_not_decimal : (d m n : ℕ) → n < 2 ^ 32 → with_digits d m ≡ decimal n → ⊥
with_digits_not_decimal d m n h e = no_point n (decimal (m / 10 ^ d)) (last_digits d m) (omega arith)
    (sym (append_assoc (decimal (m / 10 ^ d)) (46 ∷ []) (last_digits d m)) ∙ e)

-- the ends are told by their texts
pub end_told : (d f : ℕ) (a b : End) → IsInRange a → IsInRange b → end_text d a ≡ end_text f b → a ≡ b
unfolding end_text
end_told d f (Number m) (Number n) p q e = ap Number (with_digits_told d f m n p q e)
end_told d f (Number m) (Whole y) p q e = absurd (with_digits_not_decimal d m y q e)
end_told d f (Number m) _ p q e = absurd (no_digit _ _ (with_digits_first d m p) e refl)
end_told d f (Whole x) (Number n) p q e = absurd (with_digits_not_decimal f n x p (sym e))
end_told d f (Whole x) (Whole y) p q e = ap Whole (decimal_told x y (omega arith) (omega arith) e)
end_told d f (Whole x) _ p q e = absurd (no_digit _ _ (decimal_first x p) e refl)
end_told d f _ (Number n) p q e = absurd (no_digit _ _ (with_digits_first f n q) (sym e) refl)
end_told d f _ (Whole y) p q e = absurd (no_digit _ _ (decimal_first y q) (sym e) refl)
end_told d f Beyond Beyond p q e = refl
end_told d f Absent Absent p q e = refl
end_told d f _ _ p q e = absurd (cc)

-- each byte of an end is plain
pub end_plain : (d : ℕ) (a : End) → IsInRange a → All IsPlainByte (end_text d a)
unfolding end_text
end_plain d (Number n) h =
    let whole : n / 10 ^ d < 10 ^ 64 = omega (arith, div-le_self n (10 ^ d)) in
    let front = All-push IsPlainByte (decimal (n / 10 ^ d)) 46 (decimal_plain (n / 10 ^ d) whole)
    (low_plain 46 (omega arith) (omega arith)) in
    All-append IsPlainByte (decimal (n / 10 ^ d) ++ codes ".") (last_digits d n) front
    (digits_plain _ (last_digits_are d n))
end_plain d (Whole x) h = decimal_plain x (omega arith)
end_plain d Beyond h =
    All-weaker (λ byte. nat_le 97 byte ≡ true) IsPlainByte (λ byte e. high_plain byte (leb-true 97 byte e))
    (codes "beyond")
    (AllPass-from_list_all (nat_le 97) (codes "beyond") refl)
end_plain d Absent h = All-cons IsPlainByte 45 [] (low_plain 45 (omega arith) (omega arith)) (All-nil IsPlainByte)
