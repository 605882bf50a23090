-- Words of a text: what stands before the first blank, and what follows.
use Rattle.dl_cert.proofs.Common.{ap₂, ℕ, zero, suc, true, false, ◌≡◌, ◌⊎◌, ◌+◌, ◌<◌, ◌≤◌, ◌∙◌, inl, inr, sym, ap, subst, arith, Bool, List, [], ◌∷◌, ◌++◌, length, take, drop, get_or, append-nil, subst₂, ◌^◌, ◌≢◌, Option, Some, None, MatchOption, if◌then◌else◌, ◌==◌, ◌||◌, IsTrue, nat_lt, nat_le, list_all, list_any, before_first, after_first, position_or_len, is_ascii_digit, digits_value, cases_Bool, and_parts, or_parts, cases_lt, nat_tests, take-append-drop, drop_more, drop_all, drop-drop, list_any-append, list_any_none, position_or_len_is, passes_at_first, fails_before_first, split_at_first, Iv, one, is_number, is_number_of, is_comma, IsNumber, IsCell, AreCells, is_blank, first_word, after_word, before_none, no_sign, number_below, append_cancel_left}

-- the first place of a byte
pub at_first : (text : List ℕ) (sign i : ℕ) → i ≤ length text
    → ((k : ℕ) → k < i → (get_or text k 0 == sign) ≡ false)
    → (i < length text → (get_or text i 0 == sign) ≡ true)
    → position_or_len (λ byte. byte == sign) text ≡ i
at_first text sign i inside before here = position_or_len_is (λ byte. byte == sign) text i 0 inside before here

-- ---- a word and a rest that is nothing, or begins with a blank

abbrev pub IsTail : List ℕ → Type 0
IsTail rest = (rest ≡ []) ⊎ ((more : List ℕ) × (rest ≡ 32 ∷ more))

word_before : (front rest : List ℕ) → list_any is_blank front ≡ false → IsTail rest → first_word (front ++ rest) ≡ front
word_before front rest none (inl e) = rw e (before_none is_blank front [] none ∙ append-nil front)
word_before front rest none (inr (more, e)) =
    rw e (before_none is_blank front (32 ∷ more) none ∙ append-nil front)

-- a text is its first word and what follows
pub by_word : (text : List ℕ) → text ≡ first_word text ++ after_word text
by_word text = sym (take-append-drop (position_or_len is_blank text) text)

pub cut : (front rest : List ℕ) → list_any is_blank front ≡ false → IsTail rest
    → (first_word (front ++ rest) ≡ front) × (after_word (front ++ rest) ≡ rest)
cut front rest none tail =
    let word = word_before front rest none tail in (
      word,
      append_cancel_left front (after_word (front ++ rest)) rest
          (ap (λ t. t ++ after_word (front ++ rest)) (sym word) ∙ sym (by_word (front ++ rest))),
    )

-- ---- numbers and cells have no blank

pub any_fails : (p : ℕ → Bool) (text : List ℕ) → list_any p text ≡ false → (k d : ℕ) → k < length text
    → p (get_or text k d) ≡ false
any_fails p [] h k d inside = absurd (omega (arith, inside))
any_fails p (x ∷ xs) h zero d inside = (or_parts (p x) (list_any p xs) h).0
any_fails p (x ∷ xs) h (suc k) d inside = any_fails p xs (or_parts (p x) (list_any p xs) h).1 k d (omega (arith, inside))

number_digits : (most : ℕ) (text : List ℕ) → IsTrue (is_number_of most text) → list_all is_ascii_digit text ≡ true
number_digits most text h =
    (and_parts (nat_lt 0 (length text)) (list_all is_ascii_digit text)
    (and_parts (is_number text) (nat_le (length text) most) h).0).1

pub number_front : {most : ℕ} {text : List ℕ} {n : ℕ} → IsNumber most text n → list_any is_blank text ≡ false
number_front {most} {text} h =
    no_sign is_blank (λ byte digit. grind (arith, nat_tests)) text (number_digits most text h.digits)

comma_is : (byte : ℕ) → is_comma byte ≡ true → byte ≡ 44
comma_is byte h = grind (arith, nat_tests)

comma_split : (text : List ℕ) → IsTrue (list_any is_comma text)
    → text ≡ before_first is_comma text ++ 44 ∷ after_first is_comma text
comma_split text h = elim (cases_lt (position_or_len is_comma text) (length text)) [
  | inl inside ↦ split_at_first is_comma text 0 inside
      ∙ ap (λ b. before_first is_comma text ++ b ∷ after_first is_comma text)
      (comma_is _ (passes_at_first is_comma text 0 inside))
  | inr past ↦
      let none : list_any is_comma text ≡ false =
      list_any_none is_comma text (λ k d inside. fails_before_first is_comma text k d (omega (arith, past, inside))) in
      absurd (cc)
]

pub cell_front : {text : List ℕ} {cell : Iv 56} → IsCell text cell → list_any is_blank text ≡ false
cell_front {text = text} h =
    ap (list_any is_blank) (comma_split text h.comma)
    ∙ list_any-append is_blank (before_first is_comma text) (44 ∷ after_first is_comma text)
    ∙ ap₂ (λ s t. s || t) (number_front h.low) (number_front h.high)

-- ---- cells

pub cells_tail : (rest : List ℕ) (cells : List (Iv 56)) → AreCells rest cells → IsTail rest
unfolding AreCells
cells_tail rest [] e = inl e
cells_tail rest (cell ∷ cells) (spelled, more, h, later, e) = inr (spelled ++ more, e)

-- ---- what is read

pub number_read : (most : ℕ) (text : List ℕ) {n : ℕ}
    → Some n ≡ (if is_number_of most text then Some (digits_value 10 text) else None) → IsNumber most text n
number_read most text e = elim (cases_Bool (is_number_of most text)) [
  | inl is ↦ record { digits = is; value = cc }
  | inr other ↦ absurd (cc)
]

pub drop_by : (text : List ℕ) (from n : ℕ) → drop (from + n) text ≡ drop n (drop from text)
drop_by text from n = sym (drop-drop n from text)

-- a text whose byte at a place is a blank
pub at_blank : (text : List ℕ) (from : ℕ) → from < length text → get_or text from 0 ≡ 32
    → drop from text ≡ 32 ∷ drop (from + 1) text
at_blank text from inside is = drop_more text from 0 inside ∙ ap (λ b. b ∷ drop (from + 1) text) is

pub not_blank : (text : List ℕ) (from : ℕ) → from < length text → get_or text from 0 ≢ 32
    → (rest : List ℕ) → ¬ (drop from text ≡ 32 ∷ rest)
not_blank text from inside differs rest e = let split = drop_more text from 0 inside in differs (cc)

pub none_left : (text : List ℕ) (from : ℕ) → length text ≤ from → (rest : List ℕ) → ¬ (drop from text ≡ 32 ∷ rest)
none_left text from past rest e = let over = drop_all from text past in cc

has_comma : (text : List ℕ) → position_or_len is_comma text < length text → IsTrue (list_any is_comma text)
has_comma text inside = elim (cases_Bool (list_any is_comma text)) [
  | inl is ↦ is
  | inr other ↦
      let here = passes_at_first is_comma text 0 inside in
      let none = any_fails is_comma text other _ 0 inside in
      absurd (cc)
]

pub cell_spelled : (text : List ℕ) {back : List ℕ} {comma lo hi : ℕ} (o : Option (Iv 56)) → comma ≡ position_or_len is_comma text
    → comma < length text → back ≡ drop (comma + 1) text
    → Some lo ≡ (if is_number_of 17 (take comma text) then Some (digits_value 10 (take comma text)) else None)
    → Some hi ≡ (if is_number_of 17 back then Some (digits_value 10 back) else None)
    → MatchOption o (¬ ((lo ≤ hi) × (hi ≤ one))) (λ cell. (cell.lo ≡ lo) × (cell.hi ≡ hi) × (hi ≤ one))
    → MatchOption o ((cell : Iv 56) → ¬ IsCell text cell) (IsCell text)
cell_spelled text {back = back} {comma = comma} {lo = lo} {hi = hi} None at inside rest low high bad = λ cell h.
    let first = number_read 17 (take comma text) low in
    let second = number_read 17 back high in
    let lo_is : cell.lo ≡ lo = sym h.low.value ∙ ap (λ n. digits_value 10 (take n text)) (sym at) ∙ first.value in
    let hi_is : cell.hi ≡ hi = sym h.high.value ∙ ap (λ n. digits_value 10 (drop (n + 1) text)) (sym at)
    ∙ ap (digits_value 10) (sym rest) ∙ second.value in
    bad (omega (arith, cell.ordered, lo_is, hi_is), omega (arith, h.small, hi_is))
cell_spelled text {back = back} {comma = comma} (Some cell) at inside rest low high (lo_is, hi_is, small) = record {
  comma = has_comma text (omega (arith, at, inside));
  low = subst₂ (λ n m. IsNumber 17 (take n text) m) at (sym lo_is) (number_read 17 (take comma text) low);
  high = subst₂ (λ t m. IsNumber 17 t m) (rest ∙ ap (λ n. drop (n + 1) text) at) (sym hi_is)
      (number_read 17 back high);
  small = omega (arith, hi_is, small);
}

-- a word from a place of a line on, and what follows
module _ (line : List ℕ) {rest : List ℕ} (from : ℕ) {end : ℕ} (is : rest ≡ drop from line)
    (at : end ≡ position_or_len is_blank rest) where
  pub word_is : take end rest ≡ first_word (drop from line)
  word_is = ap (λ n. take n rest) at ∙ ap first_word is

  pub behind_is : drop (from + end) line ≡ after_word (drop from line)
  behind_is = drop_by line from end ∙ ap (drop end) (sym is) ∙ ap (λ n. drop n rest) at ∙ ap after_word is

-- a line that begins with a word of so many bytes
pub begins_with : (front line rest : List ℕ) → line ≡ front ++ rest → rest ≡ drop (length front) line
    → line ≡ front ++ drop (length front) line
begins_with front line rest e is = e ∙ ap (λ t. front ++ t) is
