-- How the digits, the places and the parts of a text change with one more byte.
use Rattle.dl_frac.proofs.Common.{◌≡◌, inl, inr, ℕ, ◌+◌, ◌*◌, ◌-◌, ◌^◌, ◌<◌, ◌≤◌, Bool, true, false, cond, ◌||◌, List, [], ◌∷◌, ◌++◌, length, take, drop, get_or, arith, refl, sym, ap, ap₂, ◌∙◌, ◌==◌, nat_lt, IsTrue, ◌↔◌, list_any, before_first, after_first, is_ascii_digit, digit_value, AllDigits, length-append, append-nil, take-append-drop, take_more, nat_tests, pow-le-pow_right, whole, ◌over◌, ◌/ℚ◌, rest_whole, is_point, is_percent, is_slash, digits_in, digit_count, number_in, decimals_in, numeral_value, is_bad, IsDecimal, digits}
use Rattle.std.proofs.Common.{◌≢◌, ◌⊎◌, append_assoc, mul_comm}
use Rattle.std.proofs.lemmas.Nat.{pow-add}
use Rattle.std.proofs.Math.Nat.{one-le-pow}
use Rattle.std.specs.Str.Parse.{IsNumeral as IsNumber, digits_value}
use Rattle.std.proofs.lemmas.List.Elements.{filter-append}
use Rattle.std.proofs.lemmas.List.Folds.{list_any-append}
use Rattle.std.proofs.lemmas.Int.Digits.{digits_value_push}
use Rattle.dl_exact.proofs.Over.{over_div}
use Rattle.dl_exact.proofs.Laws.{one_pos}
use Rattle.dl_bytes.proofs.DigitLaws.{digit_or_not, digits_pass, no_sign, point_no_digit, slash_no_digit}
use Rattle.dl_bytes.proofs.FirstSign.{after_no, after_none, after_yes, any_push, any_push_no, before_none}
use Rattle.dl_bytes.proofs.Numerals.{decimal_marks, pointed}
use Rattle.dl_frac.specs.Numerals.{decimal_value}
use Rattle.std.proofs.Math.Bool.{or-true}
use Rattle.std.proofs.lemmas.Bool.{cases_Bool, lt-ltb, ltb-true}

-- ---- one more byte, after the first that passes and before it
pub after_push_yes : (p : ℕ → Bool) (text : List ℕ) (b : ℕ) → list_any p text ≡ true
    → after_first p (text ++ b ∷ []) ≡ after_first p text ++ b ∷ []
after_push_yes p [] b h = absurd (cc)
after_push_yes p (x ∷ xs) b h = elim (cases_Bool (p x)) [
  | inl hit ↦ after_yes p x (xs ++ b ∷ []) hit ∙ ap (λ t. t ++ b ∷ []) (sym (after_yes p x xs hit))
  | inr miss ↦
      let rest : list_any p xs ≡ true = sym (ap (λ t. t || list_any p xs) miss) ∙ h in
      after_no p x (xs ++ b ∷ []) miss ∙ after_push_yes p xs b rest ∙ ap (λ t. t ++ b ∷ []) (sym (after_no p x xs miss))
]

pub after_push_no : (p : ℕ → Bool) (text : List ℕ) (b : ℕ) → list_any p text ≡ false
    → after_first p (text ++ b ∷ []) ≡ []
after_push_no p text b h = after_none p text (b ∷ []) h
    ∙ elim (cases_Bool (p b)) [ inl hit ↦ after_yes p b [] hit | inr miss ↦ after_no p b [] miss ]

pub after_nothing : (p : ℕ → Bool) (text : List ℕ) → list_any p text ≡ false → after_first p text ≡ []
after_nothing p text h = sym (ap (λ t. after_first p t) (append-nil text)) ∙ after_none p text [] h

-- ---- one more byte that is a digit, and one that is not

pub digit_is : (d : ℕ) → d < 10 → is_ascii_digit (48 + d) ≡ true
digit_is d h = grind (arith, nat_tests)

pub digit_worth : (d : ℕ) → d < 10 → digit_value (48 + d) ≡ d
digit_worth d h = grind (arith, nat_tests)

pub digits_push_yes : (text : List ℕ) (b : ℕ) → is_ascii_digit b ≡ true
    → digits_in (text ++ b ∷ []) ≡ digits_in text ++ b ∷ []
digits_push_yes text b h = filter-append is_ascii_digit text (b ∷ []) ∙ ap (λ t. digits_in text ++ cond t (b ∷ []) []) h

pub digits_push_no : (text : List ℕ) (b : ℕ) → is_ascii_digit b ≡ false → digits_in (text ++ b ∷ []) ≡ digits_in text
digits_push_no text b h = filter-append is_ascii_digit text (b ∷ []) ∙ ap (λ t. digits_in text ++ cond t (b ∷ []) []) h
    ∙ append-nil (digits_in text)

pub count_push : (text : List ℕ) (b : ℕ) → is_ascii_digit b ≡ true → digit_count (text ++ b ∷ []) ≡ digit_count text + 1
count_push text b h = ap length (digits_push_yes text b h) ∙ length-append (digits_in text) (b ∷ [])

pub number_push : (text : List ℕ) (d : ℕ) → d < 10 → number_in (text ++ (48 + d) ∷ []) ≡ 10 * number_in text + d
number_push text d h =
    ap (λ t. digits_value 10 t) (digits_push_yes text (48 + d) (digit_is d h))
    ∙ digits_value_push 10 (digits_in text) (48 + d) ∙ ap (λ t. number_in text * 10 + t) (digit_worth d h) ∙ omega arith

pub decimals_push_yes : (text : List ℕ) (d : ℕ) → d < 10 → list_any is_point text ≡ true
    → decimals_in (text ++ (48 + d) ∷ []) ≡ decimals_in text + 1
decimals_push_yes text d h hit = ap digit_count (after_push_yes is_point text (48 + d) hit)
    ∙ count_push (after_first is_point text) (48 + d) (digit_is d h)

pub decimals_push_no : (text : List ℕ) (b : ℕ) → list_any is_point text ≡ false
    → decimals_in (text ++ b ∷ []) ≡ decimals_in text
decimals_push_no text b miss =
    ap digit_count (after_push_no is_point text b miss) ∙ sym (ap digit_count (after_nothing is_point text miss))

pub decimals_push_other : (text : List ℕ) (b : ℕ) → is_ascii_digit b ≡ false → decimals_in (text ++ b ∷ []) ≡ decimals_in text
decimals_push_other text b h = elim (cases_Bool (list_any is_point text)) [
  | inl hit ↦ ap digit_count (after_push_yes is_point text b hit)
      ∙ ap length (digits_push_no (after_first is_point text) b h)
  | inr miss ↦ decimals_push_no text b miss
]

pub no_mark : (d : ℕ) → d < 10 → (is_point (48 + d) ≡ false) × (is_percent (48 + d) ≡ false) ×
    (is_slash (48 + d) ≡ false)
no_mark d h = (grind (arith, nat_tests), grind (arith, nat_tests), grind (arith, nat_tests))

-- a digit behind the point has a place
pub places_push : (text : List ℕ) (d m n : ℕ) → d < 10 → m ≡ decimals_in text
    → ((list_any is_point text ≡ true) × (n ≡ m + 1)) ⊎ ((list_any is_point text ≡ false) × (n ≡ m))
    → n ≡ decimals_in (text ++ (48 + d) ∷ [])
places_push text d m n h e (inl hit) = hit.1 ∙ ap (λ k. k + 1) e ∙ sym (decimals_push_yes text d h hit.0)
places_push text d m n h e (inr miss) = miss.1 ∙ e ∙ sym (decimals_push_no text (48 + d) miss.0)

-- ---- bounds

-- a number below as many tens as there may be digits
pub few_tens : (k : ℕ) → k ≤ 11 → 10 ^ k ≤ 10 ^ 11
few_tens k h = pow-le-pow_right (omega arith) h

pub count-append : (front back : List ℕ) → digit_count (front ++ back) ≡ digit_count front + digit_count back
count-append front back =
    ap length (filter-append is_ascii_digit front back) ∙ length-append (digits_in front) (digits_in back)

-- more digits than the limit in front are too many
pub too_many : (d : ℕ) (front back : List ℕ) → d < digit_count front → nat_lt d (digit_count (front ++ back)) ≡ true
too_many d front back h = lt-ltb d _ (omega (arith, count-append front back))

-- ---- values

-- the text in front of a byte, that byte, and the text behind it
pub cut_at : (text : List ℕ) (i : ℕ) → i < length text → text ≡ take i text ++ get_or text i 0 ∷ drop (i + 1) text
cut_at text i h =
    sym (take-append-drop (i + 1) text) ∙ ap (λ t. t ++ drop (i + 1) text) (take_more text i 0 h)
    ∙ append_assoc (take i text) (get_or text i 0 ∷ []) (drop (i + 1) text)

module _ (front back : List ℕ) (h : list_any is_slash front ≡ false) where
  has_slash : list_any is_slash (front ++ 47 ∷ back) ≡ true
  has_slash = list_any-append is_slash front (47 ∷ back) ∙ ap (λ t. t || true) h

  first_part : before_first is_slash (front ++ 47 ∷ back) ≡ front
  first_part = before_none is_slash front (47 ∷ back) h ∙ append-nil front

  second_part : after_first is_slash (front ++ 47 ∷ back) ≡ back
  second_part = after_none is_slash front (47 ∷ back) h

  pub slash_value : numeral_value (front ++ 47 ∷ back) ≡ number_in front over number_in back
  unfolding numeral_value
  slash_value = rw (has_slash, first_part, second_part)

  pub slash_bad : (d : ℕ) → is_bad d (front ++ 47 ∷ back) ≡
      (nat_lt d (digit_count front) || nat_lt d (digit_count back) || number_in back == 0)
  unfolding is_bad
  slash_bad d = rw (has_slash, first_part, second_part)

pub early_bad : (d : ℕ) (front back : List ℕ) → list_any is_slash front ≡ false → d < digit_count front
    → is_bad d (front ++ back) ≡ true
unfolding is_bad
early_bad d front back h far = elim (cases_Bool (list_any is_slash (front ++ back))) [
  | inl hit ↦ rw (hit, before_none is_slash front back h, too_many d front (before_first is_slash back) far)
  | inr miss ↦ elim (cases_Bool (list_any is_percent (front ++ back))) [
    | inl percent ↦ rw (miss, percent) (too_many (d - 2) front back (omega arith))
    | inr decimal ↦ rw (miss, decimal) (too_many d front back far)
  ]
]

pub plain_value : (text : List ℕ) → list_any is_slash text ≡ false
    → numeral_value text ≡ cond (list_any is_percent text) (decimal_value text /ℚ whole 100) (decimal_value text)
unfolding numeral_value
plain_value text h = rw h

pub plain_bad : (d : ℕ) (text : List ℕ) → list_any is_slash text ≡ false
    → is_bad d text ≡ cond (list_any is_percent text) (nat_lt (d - 2) (digit_count text)) (nat_lt d (digit_count text))
unfolding is_bad
plain_bad d text h = rw h

-- a hundredth of a decimal has a hundred times its second part
pub hundredth : (n s : ℕ) → 0 < s → n over (100 * s) ≡ (n over s) /ℚ whole 100
hundredth n s h =
    sym (over_div n s 100 1 h one_pos (omega arith) ∙ ap₂ (λ a b. a over b) (omega arith) (mul_comm s 100))

pub percent_places : (n k : ℕ) → n over (10 ^ (k + 2)) ≡ (n over (10 ^ k)) /ℚ whole 100
percent_places n k =
    ap (λ t. n over t) (pow-add 10 k 2 ∙ mul_comm (10 ^ k) 100) ∙ hundredth n (10 ^ k) (one-le-pow k 10 (omega arith))

module _ (text : List ℕ) (i : ℕ) (h : i < length text) (slash : get_or text i 0 ≡ 47)
    (whole_front : list_any is_slash (take i text) ≡ false) where
  cut_there : take i text ++ 47 ∷ take (length text - (i + 1)) (drop (i + 1) text) ≡ text
  cut_there = ap₂ (λ b t. take i text ++ b ∷ t) (sym slash) (rest_whole text (i + 1)) ∙ sym (cut_at text i h)

  pub slash_value_at : number_in (take i text) over number_in
      (take (length text - (i + 1)) (drop (i + 1) text)) ≡ numeral_value text
  slash_value_at = sym (slash_value (take i text) (take (length text - (i + 1)) (drop (i + 1) text)) whole_front)
      ∙ ap numeral_value cut_there

  pub slash_bad_at : (d : ℕ) → (nat_lt d (digit_count (take i text)) || nat_lt d
      (digit_count (take (length text - (i + 1)) (drop (i + 1) text))) || number_in
      (take (length text - (i + 1)) (drop (i + 1) text)) == 0) ≡ is_bad d text
  slash_bad_at d = sym (slash_bad (take i text) (take (length text - (i + 1)) (drop (i + 1) text)) whole_front d)
      ∙ ap (is_bad d) cut_there

-- no slash in front of a byte that is none either
pub front_push : (text : List ℕ) (i : ℕ) → i < length text → list_any is_slash (take i text) ≡ false
    → get_or text i 0 ≢ 47 → list_any is_slash (take (i + 1) text) ≡ false
front_push text i h miss other =
    let none : is_slash (get_or text i 0) ≡ false = grind (arith, nat_tests) in
    ap (list_any is_slash) (take_more text i 0 h) ∙ any_push_no is_slash (take i text) (get_or text i 0) none ∙ miss

pub within_limit : (d n : ℕ) → n ≤ d → nat_lt d n ≡ false
within_limit d n h = grind (arith, nat_tests, h)

-- ---- each kind by its parts

pub all_digits : (text : List ℕ) → AllDigits 10 text → digits_in text ≡ text
all_digits [] h = refl
all_digits (x ∷ xs) h = rw (digit_or_not x h.0, all_digits xs h.1)

-- digits have none of what no digit is
none_in : (p : ℕ → Bool) → ((b : ℕ) → is_ascii_digit b ≡ true → p b ≡ false) → (text : List ℕ) → AllDigits 10 text
    → list_any p text ≡ false
none_in p f text h = no_sign p f text ((digits_pass text).1 h)

digits_round : (b : ℕ) (front back : List ℕ) → is_ascii_digit b ≡ false → AllDigits 10 front → AllDigits 10 back
    → digits_in (front ++ b ∷ back) ≡ front ++ back
digits_round b front back e f g =
    filter-append is_ascii_digit front (b ∷ back) ∙ rw (e, all_digits front f, all_digits back g)

decimal_is : (text : List ℕ) → IsDecimal text → numeral_value text ≡ decimal_value text
decimal_is text h = plain_value text (decimal_marks text h).0
    ∙ ap (λ b. cond b (decimal_value text /ℚ whole 100) (decimal_value text)) (decimal_marks text h).1

-- a percent sign behind it changes neither the digits nor the places
percent_slash : (front : List ℕ) → IsDecimal front → list_any is_slash (front ++ 37 ∷ []) ≡ false
percent_slash front h = any_push_no is_slash front 37 refl ∙ (decimal_marks front h).0

percent_there : (front : List ℕ) → list_any is_percent (front ++ 37 ∷ []) ≡ true
percent_there front = any_push is_percent front 37 ∙ or-true (list_any is_percent front)

percent_decimal : (front : List ℕ) → decimal_value (front ++ 37 ∷ []) ≡ decimal_value front
percent_decimal front =
    ap₂ (λ n k. digits_value 10 n over 10 ^ k) (digits_push_no front 37 refl) (decimals_push_other front 37 refl)

pub plain_law : (text : List ℕ) → IsNumber 10 text → numeral_value text ≡ whole (digits_value 10 text)
plain_law text h =
    decimal_is text (digits (h.0, (digits_pass text).1 h.1))
    ∙ ap₂ (λ n k. digits_value 10 n over 10 ^ k) (all_digits text h.1)
    (ap digit_count (after_nothing is_point text (none_in is_point point_no_digit text h.1)))

pub pointed_law : (front back : List ℕ) → AllDigits 10 front → AllDigits 10 back → 0 < length front + length back
    → numeral_value (front ++ 46 ∷ back) ≡ digits_value 10 (front ++ back) over 10 ^ length back
pointed_law front back f g some =
    decimal_is (front ++ 46 ∷ back) (pointed front back ((digits_pass front).1 f) ((digits_pass back).1 g) some refl)
    ∙ ap₂ (λ n k. digits_value 10 n over 10 ^ k) (digits_round 46 front back refl f g)
    (ap digit_count (after_none is_point front (46 ∷ back) (none_in is_point point_no_digit front f))
    ∙ ap length (all_digits back g))

pub percent_law : (front : List ℕ) → IsDecimal front
    → numeral_value (front ++ 37 ∷ []) ≡ numeral_value front /ℚ whole 100
percent_law front h =
    plain_value (front ++ 37 ∷ []) (percent_slash front h)
    ∙ ap (λ b. cond b (decimal_value (front ++ 37 ∷ []) /ℚ whole 100) (decimal_value (front ++ 37 ∷ [])))
    (percent_there front)
    ∙ ap (λ x. x /ℚ whole 100) (percent_decimal front ∙ sym (decimal_is front h))

pub fraction_law : (first second : List ℕ) → AllDigits 10 first → AllDigits 10 second
    → numeral_value (first ++ 47 ∷ second) ≡ digits_value 10 first over digits_value 10 second
fraction_law first second f g =
    slash_value first second (none_in is_slash slash_no_digit first f)
    ∙ ap₂ (λ a b. digits_value 10 a over digits_value 10 b) (all_digits first f) (all_digits second g)

-- ---- when each kind is bad

pub decimal_bad_law : (d : ℕ) (text : List ℕ) → IsDecimal text → IsTrue (is_bad d text) ↔ (d < digit_count text)
decimal_bad_law d text h =
    let e : is_bad d text ≡ nat_lt d (digit_count text) =
    plain_bad d text (decimal_marks text h).0
    ∙ ap (λ b. cond b (nat_lt (d - 2) (digit_count text)) (nat_lt d (digit_count text))) (decimal_marks text h).1 in
    (λ bad. ltb-true d _ (sym e ∙ bad), λ far. e ∙ lt-ltb d _ far)

pub percent_bad_law : (d : ℕ) (front : List ℕ) → IsDecimal front
    → IsTrue (is_bad d (front ++ 37 ∷ [])) ↔ (d - 2 < digit_count front)
percent_bad_law d front h =
    let text = front ++ 37 ∷ [] in
    let e : is_bad d text ≡ nat_lt (d - 2) (digit_count front) =
    plain_bad d text (percent_slash front h)
    ∙ ap (λ b. cond b (nat_lt (d - 2) (digit_count text)) (nat_lt d (digit_count text))) (percent_there front)
    ∙ ap (λ t. nat_lt (d - 2) (length t)) (digits_push_no front 37 refl) in
    (λ bad. ltb-true _ _ (sym e ∙ bad), λ far. e ∙ lt-ltb _ _ far)

fraction_tests : (d m n k : ℕ) → IsTrue (nat_lt d m || nat_lt d n || k == 0) ↔ ((d < m) ⊎ (d < n) ⊎ (k ≡ 0))
fraction_tests d m n k = (λ h. grind (arith, nat_tests, h), λ h. grind (arith, nat_tests, h))

pub fraction_bad_law : (d : ℕ) (first second : List ℕ) → AllDigits 10 first → AllDigits 10 second
    → IsTrue (is_bad d (first ++ 47 ∷ second)) ↔
    ((d < length first) ⊎ (d < length second) ⊎ (digits_value 10 second ≡ 0))
fraction_bad_law d first second f g =
    let e : is_bad d (first ++ 47 ∷ second) ≡
    (nat_lt d (length first) || nat_lt d (length second) || digits_value 10 second == 0) =
    slash_bad first second (none_in is_slash slash_no_digit first f) d
    ∙ ap₂ (λ a b. nat_lt d (length a) || nat_lt d (length b) || digits_value 10 b == 0) (all_digits first f)
    (all_digits second g) in
    let t = fraction_tests d (length first) (length second) (digits_value 10 second) in
    (λ bad. t.0 (sym e ∙ bad), λ far. e ∙ t.1 far)
