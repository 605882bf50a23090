-- What bytes that spell a token begin with, so that they spell a token of one kind, and where the longest one ends.
use Rattle.dl_lexer.proofs.Common.{ℕ, zero, suc, ◌≡◌, ◌≢◌, ◌∙◌, ◌<◌, ◌≤◌, ◌⊎◌, List, [], ◌∷◌, ◌++◌, length, take, Bool, true, false, ◌||◌, ◌==◌, inl, inr, refl, sym, ap, arith, append_assoc, Some, slice_get, subst, list_all, nat_tests, length-take-le, append-nil, slice_get_within, Keyword, Sign, Open, Close, Colon, Comma, Bang, Kind, is_letter, is_ascii_digit, is_word_byte, spelling, IsDecimal, digits, digits_point, point_digits, percent, fraction, IsNumeral, a_decimal, a_percent, a_fraction, begins_with_letter, IsWord, IsNote, note, IsRef, ref, sign_byte, IsSpelled, IsToken, IsLongest, NoToken, and_parts, if◌then◌else◌, ◌&&◌, and_left, and_right, both_ways, IsDigits}
use Rattle.dl_lexer.specs.declared.token.Kind.TheVariants as kind
use Rattle.dl_lexer.proofs.Longest.{either}
use Rattle.dl_lexer.proofs.Spellings.{spelling_one, keyword_is_word}
use Rattle.dl_lexer.proofs.WordLengths.{begins_take, word_parts}

-- a digit or a point
abbrev pub begins_numeral : List ℕ → Bool
begins_numeral [] = false
begins_numeral (b ∷ bs) = is_ascii_digit b || b == 46

digits_begin : (a rest : List ℕ) → IsDigits a → begins_numeral (a ++ rest) ≡ true
digits_begin [] rest d = absurd (omega (arith, d.0))
digits_begin (b ∷ a) rest d = rw (and_parts (is_ascii_digit b) (list_all is_ascii_digit a) d.1).0 refl

decimal_begins : (bs rest : List ℕ) → IsDecimal bs → begins_numeral (bs ++ rest) ≡ true
decimal_begins bs rest (digits d) = digits_begin bs rest d
decimal_begins bs rest (digits_point a b e all_a all_b) =
    let h : begins_numeral ((a ++ 46 ∷ b) ++ rest) ≡ true =
    rw (append_assoc a (46 ∷ b) rest) (digits_begin a (46 ∷ (b ++ rest)) all_a) in
    ap (λ ys. begins_numeral (ys ++ rest)) e ∙ h
decimal_begins bs rest (point_digits b e all_b) = ap (λ ys. begins_numeral (ys ++ rest)) e

pub numeral_begins : (bs : List ℕ) → IsNumeral bs → begins_numeral bs ≡ true
numeral_begins bs (a_decimal t) = subst (λ ys. begins_numeral ys ≡ true) (append-nil bs) (decimal_begins bs [] t)
numeral_begins bs (a_percent (percent d e t)) = ap begins_numeral e ∙ decimal_begins d (37 ∷ []) t
numeral_begins bs (a_fraction (fraction a b e all_a all_b)) = ap begins_numeral e ∙ digits_begin a (47 ∷ b) all_a

pub no_letter_byte : (b : ℕ) → (is_ascii_digit b || b == 46) ≡ true → is_letter b ≡ false
no_letter_byte b h = grind (arith, nat_tests)

no_letter : (bs : List ℕ) → begins_numeral bs ≡ true → begins_with_letter bs ≡ false
no_letter [] h = refl
no_letter (b ∷ bs) h = no_letter_byte b h

note_begins_letter : (bs : List ℕ) → IsNote bs → begins_with_letter bs ≡ true
note_begins_letter bs (note text e all) = ap begins_with_letter e

-- a note is no word: its brace is no byte of a word
note_no_word : (bs : List ℕ) → IsNote bs → list_all is_word_byte bs ≡ false
note_no_word bs (note text e all) = ap (list_all is_word_byte) e

ref_begins_letter : (bs : List ℕ) → IsRef bs → begins_with_letter bs ≡ true
ref_begins_letter bs (ref name e word) = ap begins_with_letter e

-- nor is a reference: its point is none
ref_no_word : (bs : List ℕ) → IsRef bs → list_all is_word_byte bs ≡ false
ref_no_word bs (ref name e word) = ap (list_all is_word_byte) e

-- a note begins with an `n`, and a reference does not
begins_with_n : List ℕ → Bool
begins_with_n [] = false
begins_with_n (b ∷ bs) = b == 110

note_begins_n : (bs : List ℕ) → IsNote bs → begins_with_n bs ≡ true
unfolding begins_with_n
note_begins_n bs (note text e all) = ap begins_with_n e

ref_begins_s : (bs : List ℕ) → IsRef bs → begins_with_n bs ≡ false
unfolding begins_with_n
ref_begins_s bs (ref name e word) = ap begins_with_n e

pub sign_no_letter : (s : Sign) (bs : List ℕ) → bs ≡ sign_byte s ∷ [] → begins_with_letter bs ≡ false
sign_no_letter Open bs e = ap begins_with_letter e
sign_no_letter _ bs e = ap begins_with_letter e

pub sign_no_numeral : (s : Sign) (bs : List ℕ) → bs ≡ sign_byte s ∷ [] → begins_numeral bs ≡ false
sign_no_numeral Open bs e = ap begins_numeral e
sign_no_numeral _ bs e = ap begins_numeral e

word_spelled : (k : Keyword) (bs : List ℕ) → bs ≡ spelling k → IsWord bs
word_spelled k bs e = subst IsWord (sym e) (keyword_is_word k)

-- the kind of bytes that spell no keyword, by how they begin
sign_of : List ℕ → Sign
sign_of [] = Bang
sign_of (n ∷ bs) = if n == 91 then Open else if n == 93 then Close else if n == 58 then Colon
    else if n == 44 then Comma else Bang

kind_of : List ℕ → Kind
kind_of bs =
    if begins_with_letter bs then (if list_all is_word_byte bs then kind.Name
    else if begins_with_n bs then kind.Note else kind.Ref)
    else (if begins_numeral bs then kind.Numeral else kind.Sign (sign_of bs))

sign_told : (s : Sign) → sign_of (sign_byte s ∷ []) ≡ s
unfolding sign_of
sign_told Open = refl
sign_told _ = refl

-- bytes that are no word spell no keyword
no_keyword : (bs : List ℕ) → (begins_with_letter bs && list_all is_word_byte bs) ≡ false → (j : Keyword) → spelling j ≢ bs
no_keyword bs other j e = both_ways _ other (word_spelled j bs (sym e))

-- bytes spell a keyword, or they have the kind that they show
kind_told : (k : Kind) (bs : List ℕ) → IsSpelled k bs
    → ((j : Keyword) × (k ≡ kind.Word j) × (bs ≡ spelling j)) ⊎ ((k ≡ kind_of bs) × ((j : Keyword) → spelling j ≢ bs))
unfolding kind_of
kind_told (kind.Word j) bs t = inl (j, refl, t)
kind_told kind.Name bs t = let w = word_parts bs t.word in inr (rw (w.0, w.1) refl, t.no_keyword)
kind_told kind.Note bs t =
    let other = note_no_word bs t in
    inr (rw (note_begins_letter bs t, other, note_begins_n bs t) refl, no_keyword bs (and_right _ _ other))
kind_told kind.Ref bs t =
    let other = ref_no_word bs t in
    inr (rw (ref_begins_letter bs t, other, ref_begins_s bs t) refl, no_keyword bs (and_right _ _ other))
kind_told kind.Numeral bs t =
    let other = no_letter bs (numeral_begins bs t) in
    inr (rw (other, numeral_begins bs t) refl, no_keyword bs (and_left _ _ other))
kind_told (kind.Sign s) bs t =
    let other = sign_no_letter s bs t in
    let sign = ap kind.Sign (sym (ap sign_of t ∙ sign_told s)) in
    inr (rw (other, sign_no_numeral s bs t) sign, no_keyword bs (and_left _ _ other))

-- bytes spell a token of at most one kind
pub kind_one : (a b : Kind) (bs : List ℕ) → IsSpelled a bs → IsSpelled b bs → a ≡ b
kind_one a b bs s t = elim (kind_told a bs s) [
  | inl x ↦ elim (kind_told b bs t) [
    | inl y ↦ x.1 ∙ ap kind.Word (spelling_one x.0 y.0 (sym x.2 ∙ y.2)) ∙ sym y.1
    | inr y ↦ absurd (y.1 x.0 (sym x.2))
  ]
  | inr x ↦ elim (kind_told b bs t) [
    | inl y ↦ absurd (x.1 y.0 (sym y.2))
    | inr y ↦ x.0 ∙ sym y.0
  ]
]

-- no bytes spell no token
pub token_some : (k : Kind) → IsSpelled k [] → ⊥
token_some (kind.Word k) t = let w = (word_parts [] (word_spelled k [] t)).0 in cc
token_some kind.Name t = let w = (word_parts [] t.word).0 in cc
token_some kind.Note t = let h = note_begins_letter [] t in cc
token_some kind.Ref t = let h = ref_begins_letter [] t in cc
token_some kind.Numeral t = let h = numeral_begins [] t in cc
token_some (kind.Sign s) t = cc

-- a token that begins with a letter is a word, a note or a reference
lettered : (k : Kind) (bs : List ℕ) → begins_with_letter bs ≡ true → IsSpelled k bs
    → IsWord bs ⊎ (IsNote bs ⊎ IsRef bs)
lettered (kind.Word k) bs h t = inl (word_spelled k bs t)
lettered kind.Name bs h t = inl t.word
lettered kind.Note bs h t = inr (inl t)
lettered kind.Ref bs h t = inr (inr t)
lettered kind.Numeral bs h t = let other = no_letter bs (numeral_begins bs t) in absurd cc
lettered (kind.Sign s) bs h t = let other = sign_no_letter s bs t in absurd cc

-- any other token is a numeral or a sign
unlettered : (k : Kind) (bs : List ℕ) → begins_with_letter bs ≡ false → IsSpelled k bs
    → IsNumeral bs ⊎ ((s : Sign) × (bs ≡ sign_byte s ∷ []))
unlettered (kind.Word k) bs h t = let other = (word_parts bs (word_spelled k bs t)).0 in absurd cc
unlettered kind.Name bs h t = let other = (word_parts bs t.word).0 in absurd cc
unlettered kind.Note bs h t = let other = note_begins_letter bs t in absurd cc
unlettered kind.Ref bs h t = let other = ref_begins_letter bs t in absurd cc
unlettered kind.Numeral bs h t = inl t
unlettered (kind.Sign s) bs h t = inr (s, t)

-- a token at the front takes at least one byte, and begins as the bytes do
front_some : (bytes : List ℕ) (m : ℕ) → IsToken (take m bytes) → 0 < m
front_some bytes zero t = absurd (token_some t.kind t.spelled)
front_some bytes (suc m) t = omega arith

front_lettered : (bytes : List ℕ) (m : ℕ) → begins_with_letter bytes ≡ true → IsToken (take m bytes)
    → IsWord (take m bytes) ⊎ (IsNote (take m bytes) ⊎ IsRef (take m bytes))
front_lettered bytes m h t = lettered t.kind (take m bytes) (begins_take m bytes (front_some bytes m t) ∙ h) t.spelled

front_unlettered : (bytes : List ℕ) (m : ℕ) → begins_with_letter bytes ≡ false → IsToken (take m bytes)
    → IsNumeral (take m bytes) ⊎ ((s : Sign) × (take m bytes ≡ sign_byte s ∷ []))
front_unlettered bytes m h t =
    unlettered t.kind (take m bytes) (begins_take m bytes (front_some bytes m t) ∙ h) t.spelled

-- the longest token at the front: a word, a note or a reference, whichever is longest
pub longest_lettered : (bytes : List ℕ) (w n r most : ℕ) (k : Kind) → begins_with_letter bytes ≡ true
    → IsLongest IsWord bytes w → IsLongest IsNote bytes n → IsLongest IsRef bytes r
    → (w ≤ most) × (n ≤ most) × (r ≤ most) → most ≤ length bytes → (0 < most → IsSpelled k (take most bytes))
    → IsLongest IsToken bytes most
longest_lettered bytes w n r most k letter word a_note a_ref le within t = record {
  within = within;
  spelled = λ some. record { kind = k; spelled = t some };
  longest = λ m h t. either (front_lettered bytes m letter t)
      (λ x. let far : m ≤ w = word.longest m h x in omega (arith, le.0))
      (λ x. either x (λ y. let far : m ≤ n = a_note.longest m h y in omega (arith, le.1))
      (λ y. let far : m ≤ r = a_ref.longest m h y in omega (arith, le.2)));
}

sign_length : (bytes : List ℕ) (m : ℕ) (s : Sign) → m ≤ length bytes → take m bytes ≡ sign_byte s ∷ [] → m ≡ 1
sign_length bytes m s h e = sym (length-take-le m bytes h) ∙ ap length e

pub longest_numeral : (bytes : List ℕ) (n : ℕ) → begins_with_letter bytes ≡ false
    → IsLongest IsNumeral bytes n → 0 < n
    → IsLongest IsToken bytes n
longest_numeral bytes n letter numeral some = record {
  within = numeral.within;
  spelled = λ some. record { kind = kind.Numeral; spelled = numeral.spelled some };
  longest = λ m h t. either (front_unlettered bytes m letter t) (λ x. numeral.longest m h x)
      (λ x. let one : m ≡ 1 = sign_length bytes m x.0 h x.1 in omega arith);
}

sign_front : (bytes : List ℕ) (s : Sign) → slice_get bytes 0 ≡ Some (sign_byte s) → take 1 bytes ≡ sign_byte s ∷ []
sign_front [] s e = absurd cc
sign_front (b ∷ bytes) s e = let same : b ≡ sign_byte s = cc in ap (λ x. x ∷ []) same

sign_behind : (bytes : List ℕ) (m : ℕ) (s : Sign) → take m bytes ≡ sign_byte s ∷ []
    → slice_get bytes 0 ≡ Some (sign_byte s)
sign_behind bytes zero s e = absurd cc
sign_behind [] (suc m) s e = absurd cc
sign_behind (b ∷ bytes) (suc m) s e = let same : b ≡ sign_byte s = cc in ap Some same

pub longest_sign : (bytes : List ℕ) (s : Sign) → begins_with_letter bytes ≡ false → IsLongest IsNumeral bytes 0
    → slice_get bytes 0 ≡ Some (sign_byte s) → IsLongest IsToken bytes 1
longest_sign bytes s letter numeral e = record {
  within = slice_get_within bytes 0 (sign_byte s) e;
  spelled = λ some. record { kind = kind.Sign s; spelled = sign_front bytes s e };
  longest = λ m h t. either (front_unlettered bytes m letter t)
      (λ x. let most : m ≤ 0 = numeral.longest m h x in omega arith)
      (λ x. let one : m ≡ 1 = sign_length bytes m x.0 h x.1 in omega arith);
}

pub longest_nothing : (bytes : List ℕ) → begins_with_letter bytes ≡ false → IsLongest IsNumeral bytes 0
    → ((s : Sign) → slice_get bytes 0 ≢ Some (sign_byte s)) → NoToken bytes
longest_nothing bytes letter numeral other = record {
  within = omega arith;
  spelled = λ some. absurd (omega arith);
  longest = λ m h t. either (front_unlettered bytes m letter t) (λ x. numeral.longest m h x)
      (λ x. absurd (other x.0 (sign_behind bytes m x.0 x.1)));
}
