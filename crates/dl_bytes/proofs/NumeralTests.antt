-- The test of a numeral passes exactly what is spelled as one.
use Rattle.dl_bytes.proofs.Common.{◌≡◌, ◌∙◌, inl, inr, ℕ, ◌<◌, Bool, true, false, List, [], ◌∷◌, ◌++◌, length, arith, refl, ap, ◌==◌, ◌&&◌, ◌↔◌, nat_lt, IsTrue, list_any, list_all, before_first, after_first, is_ascii_digit, nat_tests, and_from, and_parts, cases_Bool, lt-ltb, ltb-true, length-append, AreDigits, IsDigits, is_number, IsDecimal, digits, digits_point, point_digits, IsNumeral, a_decimal, a_percent, a_fraction, percent, fraction, is_decimal, is_numeral, is_point, is_percent, is_slash}
use Rattle.dl_bytes.proofs.FirstSign.{after_at, any_at, any_push_no, before_at, clash, cut_first}
use Rattle.dl_bytes.proofs.DigitLaws.{no_sign, point_no_digit, slash_no_digit}
use Rattle.dl_bytes.proofs.Numerals.{decimal_marks, pointed, unpointed}

pub number_test : (text : List ℕ) → IsTrue (is_number text) ↔ IsDigits text
number_test text = grind (arith, and_parts, ltb-true, and_from, lt-ltb)

-- ---- decimals

module _ (text : List ℕ) (point : list_any is_point text ≡ true) where
  abbrev pointed_test : Bool
  pointed_test = nat_lt 1 (length text) && list_all is_ascii_digit (before_first is_point text)
      && list_all is_ascii_digit (after_first is_point text)

  pointed_to : IsTrue pointed_test → IsDecimal text
  pointed_to h =
      let t = and_parts _ _ h in
      let u = and_parts _ _ t.0 in
      let cut = cut_first 46 text point in
      let size = ap length cut ∙ length-append (before_first is_point text) (46 ∷ after_first is_point text) in
      let long = ltb-true 1 (length text) u.0 in
      pointed _ _ u.1 t.1 (omega (arith, size, long)) cut

  round_back : (front back : List ℕ) → text ≡ front ++ 46 ∷ back → AreDigits front → AreDigits back
      → 1 < length (front ++ 46 ∷ back) → IsTrue pointed_test
  round_back front back cut a b long =
      let none = no_sign is_point point_no_digit front a in
      rw (cut, before_at is_point front back 46 none refl, after_at is_point front back 46 none refl)
      (and_from _ _ (and_from _ _ (lt-ltb 1 (length (front ++ 46 ∷ back)) long) a) b)

  pointed_back : IsDecimal text → IsTrue pointed_test
  pointed_back (digits n) = clash (list_any is_point text) point (no_sign is_point point_no_digit text n.1)
  pointed_back (digits_point front back cut a b) =
      round_back front back cut a.1 b (omega (arith, length-append front (46 ∷ back), a.0))
  pointed_back (point_digits back cut b) = round_back [] back cut refl b.1 (omega (arith, b.0))

pub decimal_test : (text : List ℕ) → IsTrue (is_decimal text) ↔ IsDecimal text
decimal_test text = elim (cases_Bool (list_any is_point text)) [
  | inl point ↦ rw point (pointed_to text point, pointed_back text point)
  | inr none ↦ rw none (λ h. digits ((number_test text).0 h), λ h. (number_test text).1 (unpointed text none h))
]

-- ---- numerals

module _ (text : List ℕ) (slash : list_any is_slash text ≡ true) where
  abbrev slash_test : Bool
  slash_test = is_number (before_first is_slash text) && is_number (after_first is_slash text)

  slash_to : IsTrue slash_test → IsNumeral text
  slash_to h =
      let t = and_parts _ _ h in
      a_fraction (fraction _ _ (cut_first 47 text slash) ((number_test _).0 t.0) ((number_test _).0 t.1))

  slash_back : IsNumeral text → IsTrue slash_test
  slash_back (a_decimal d) = clash (list_any is_slash text) slash (decimal_marks text d).0
  slash_back (a_percent (percent front cut d)) = clash (list_any is_slash text) slash
      (ap (list_any is_slash) cut ∙ any_push_no is_slash front 37 refl ∙ (decimal_marks front d).0)
  slash_back (a_fraction (fraction first second cut a b)) =
      let none = no_sign is_slash slash_no_digit first a.1 in
      rw (cut, before_at is_slash first second 47 none refl, after_at is_slash first second 47 none refl)
      (and_from _ _ ((number_test first).1 a) ((number_test second).1 b))

no_length : (text : List ℕ) → IsTrue (length text == 0) → text ≡ []
no_length [] h = refl
no_length (x ∷ xs) h = absurd (grind (arith, nat_tests, h))

module _ (text : List ℕ) (slash : list_any is_slash text ≡ false) where
  no_fraction : {P : Type 0} (first second : List ℕ) → text ≡ first ++ 47 ∷ second → P
  no_fraction first second cut = clash (list_any is_slash text)
      (ap (list_any is_slash) cut ∙ any_at is_slash 47 refl first second) slash

  abbrev percent_test : Bool
  percent_test = is_decimal (before_first is_percent text) && length (after_first is_percent text) == 0

  percent_to : list_any is_percent text ≡ true → IsTrue percent_test → IsNumeral text
  percent_to sign h =
      let t = and_parts _ _ h in
      let front = before_first is_percent text in
      a_percent (percent front (cut_first 37 text sign ∙ ap (λ b. front ++ 37 ∷ b) (no_length _ t.1))
      ((decimal_test front).0 t.0))

  percent_back : list_any is_percent text ≡ true → IsNumeral text → IsTrue percent_test
  percent_back sign (a_decimal d) = clash (list_any is_percent text) sign (decimal_marks text d).1
  percent_back sign (a_percent (percent front cut d)) =
      let none = (decimal_marks front d).1 in
      rw (cut, before_at is_percent front [] 37 none refl, after_at is_percent front [] 37 none refl)
      (and_from _ _ ((decimal_test front).1 d) refl)
  percent_back sign (a_fraction (fraction first second cut a b)) = no_fraction first second cut

  decimal_back : list_any is_percent text ≡ false → IsNumeral text → IsDecimal text
  decimal_back none (a_decimal d) = d
  decimal_back none (a_percent (percent front cut d)) = clash (list_any is_percent text)
      (ap (list_any is_percent) cut ∙ any_at is_percent 37 refl front []) none
  decimal_back none (a_fraction (fraction first second cut a b)) = no_fraction first second cut

pub numeral_test : (text : List ℕ) → IsTrue (is_numeral text) ↔ IsNumeral text
numeral_test text = elim (cases_Bool (list_any is_slash text)) [
  | inl slash ↦ rw slash (slash_to text slash, slash_back text slash)
  | inr none ↦ elim (cases_Bool (list_any is_percent text)) [
    | inl sign ↦ rw (none, sign) (percent_to text none sign, percent_back text none sign)
    | inr other ↦
        let d = decimal_test text in
        rw (none, other) (λ h. a_decimal (d.0 h), λ h. d.1 (decimal_back text none other h))
  ]
]

-- a test that is this one
pub numeral_is : (text : List ℕ) (r : Bool) → r ≡ is_numeral text → IsTrue r ↔ IsNumeral text
numeral_is text r same = rw same (numeral_test text)
