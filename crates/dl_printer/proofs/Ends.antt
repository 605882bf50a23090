-- A token is the longest that begins where it stands, whatever follows a sign, and where a blank, `:` or `]` follows
-- any other token.
use Rattle.dl_printer.proofs.Common.{ℕ, suc, ◌≡◌, ◌∙◌, ◌+◌, ◌<◌, List, [], ◌∷◌, ◌++◌, length, take, Bool, true, false, ◌||◌, refl, sym, ap, arith, subst, append_assoc, length-append, Some, codes, sign_byte, IsSpelled, IsToken, is_tight_behind, Option, None, get_or, zero, ◌≢◌, ◌≤◌, ◌==◌, slice_get, take-append_seam, Kind, is_ascii_digit, list_all, prefix_len, nat_tests, list_all-append, AllPass-from_list_all, list_all-from_AllPass, prefix_most, prefix_ends, get_behind, longest_none, keyword_is_word, word_parts, word_longest, word_some, note_none, note_closed, ref_none, ref_longest, begins_numeral, numeral_begins, longest_lettered, longest_numeral, longest_sign, sign_no_letter, sign_no_numeral, no_letter_byte, and_from}
use Rattle.dl_lexer.specs.Prelude.{is_white, is_word_byte, is_note_byte, begins_with_letter, IsWord, IsNote, note, IsRef, ref, IsLongest, IsDecimal, digits, digits_point, point_digits, percent, fraction, IsNumeral, a_decimal, a_percent, a_fraction}
use Rattle.dl_lexer.specs.declared.token.Sign.{Sign}
use Rattle.dl_lexer.specs.declared.token.Kind.TheVariants as kinds

-- a blank, `:` or `]`
abbrev pub is_stop : ℕ → Bool
is_stop b = is_white b || b == 58 || b == 93

-- bytes that begin with such a byte
pub record Stops (rest : List ℕ) : Type 0 where
  pub byte : ℕ
  pub more : List ℕ
  pub whole : rest ≡ byte ∷ more
  pub stop : is_stop byte ≡ true

-- what numerals are made of
abbrev is_numeral_byte : ℕ → Bool
is_numeral_byte b = is_ascii_digit b || b == 46 || b == 37 || b == 47

no_word_byte : (b : ℕ) → is_stop b ≡ true → is_word_byte b ≡ false
no_word_byte b h = grind (arith, nat_tests)

no_numeral_byte : (b : ℕ) → is_stop b ≡ true → is_numeral_byte b ≡ false
no_numeral_byte b h = grind (arith, nat_tests)

digit_passes : (b : ℕ) → is_ascii_digit b ≡ true → is_numeral_byte b ≡ true
digit_passes b h = rw h refl

-- digits, and parts that pass
digits_pass : (bs : List ℕ) → list_all is_ascii_digit bs ≡ true → list_all is_numeral_byte bs ≡ true
digits_pass bs h = list_all-from_AllPass is_numeral_byte bs
    (λ k d lt. digit_passes (get_or bs k d) (AllPass-from_list_all is_ascii_digit bs h k d lt))

parts_pass : (a b : List ℕ) → list_all is_numeral_byte a ≡ true → list_all is_numeral_byte b ≡ true
    → list_all is_numeral_byte (a ++ b) ≡ true
parts_pass a b g h =
    list_all-append is_numeral_byte a b ∙ and_from (list_all is_numeral_byte a) (list_all is_numeral_byte b) g h

decimal_passes : (bs : List ℕ) → IsDecimal bs → list_all is_numeral_byte bs ≡ true
decimal_passes bs (digits d) = digits_pass bs d.1
decimal_passes bs (digits_point a b e all_a all_b) = ap (list_all is_numeral_byte) e
    ∙ parts_pass a (46 ∷ b) (digits_pass a all_a.1) (digits_pass b all_b)
decimal_passes bs (point_digits b e all_b) = ap (list_all is_numeral_byte) e ∙ digits_pass b all_b.1

numeral_passes : (bs : List ℕ) → IsNumeral bs → list_all is_numeral_byte bs ≡ true
numeral_passes bs (a_decimal t) = decimal_passes bs t
numeral_passes bs (a_percent (percent d e t)) = grind (arith, parts_pass d (37 ∷ []) (decimal_passes d t) refl)
numeral_passes bs (a_fraction (fraction a b e all_a all_b)) = ap (list_all is_numeral_byte) e
    ∙ parts_pass a (47 ∷ b) (digits_pass a all_a.1) (digits_pass b all_b.1)

-- words

letter_stays : (text rest : List ℕ) → begins_with_letter text ≡ true → begins_with_letter (text ++ rest) ≡ true
letter_stays [] rest h = absurd cc
letter_stays (b ∷ text) rest h = h

-- a word that a stop follows is not the start of what has another byte behind its first word
no_front : (text more front after : List ℕ) (byte mark size : ℕ) → list_all is_word_byte text ≡ true
    → is_stop byte ≡ true → prefix_len is_word_byte (front ++ after) ≡ size
    → slice_get (front ++ after) size ≡ Some mark → is_stop mark ≡ false
    → text ++ byte ∷ more ≢ front ++ after
no_front text more front after byte mark size all stop count at other e =
    grind (arith, prefix_ends is_word_byte byte text more (no_word_byte byte stop) all, get_behind text more byte)

word_ends : (k : Kind) (text more : List ℕ) (byte : ℕ) → IsWord text → IsSpelled k text → is_stop byte ≡ true
    → IsLongest IsToken (text ++ byte ∷ more) (length text)
word_ends k text more byte word spelled stop =
    let bytes : List ℕ = text ++ byte ∷ more in
    let parts = word_parts text word in
    let letter : begins_with_letter bytes ≡ true = letter_stays text (byte ∷ more) parts.0 in
    let run : prefix_len is_word_byte bytes ≡ length text = prefix_ends is_word_byte byte text more
    (no_word_byte byte stop) parts.1 in
    let a_word = word_longest bytes (length text) letter (sym run) in
    let a_note = note_none bytes
    (λ after. no_front text more (codes "note{") after byte 123 4 parts.1 stop refl refl refl) in
    let a_ref = ref_none bytes
    (λ after. no_front text more (codes "sev.") after byte 46 3 parts.1 stop refl refl refl) in
    longest_lettered bytes (length text) 0 0 (length text) k letter a_word a_note a_ref
    (omega arith, omega arith, omega arith) a_word.within
    (λ some. subst (IsSpelled k) (sym (take-append_seam text (byte ∷ more))) spelled)

-- references

ref_ends_here : (name more : List ℕ) (byte : ℕ) → IsWord name → is_stop byte ≡ true
    → IsLongest IsToken (codes "sev." ++ (name ++ byte ∷ more)) (length name + 4)
ref_ends_here name more byte word stop =
    let behind : List ℕ = name ++ byte ∷ more in
    let bytes : List ℕ = codes "sev." ++ behind in
    let parts = word_parts name word in
    let letter : begins_with_letter behind ≡ true = letter_stays name (byte ∷ more) parts.0 in
    let run : prefix_len is_word_byte behind ≡ length name = prefix_ends is_word_byte byte name more
    (no_word_byte byte stop) parts.1 in
    let a_name = word_longest behind (length name) letter (sym run) in
    let a_ref = ref_longest behind (length name) a_name (word_some behind (length name) letter a_name) in
    let a_word = word_longest bytes 3 refl refl in
    let a_note = note_none bytes (λ after e. cc) in
    longest_lettered bytes 3 0 (length name + 4) (length name + 4) kinds.Ref refl a_word a_note a_ref
    (omega arith, omega arith, omega arith) a_ref.within (λ some. a_ref.spelled some)

ref_ends : (text more : List ℕ) (byte : ℕ) → IsRef text → is_stop byte ≡ true
    → IsLongest IsToken (text ++ byte ∷ more) (length text)
ref_ends text more byte (ref name e word) stop = grind (arith, ref_ends_here name more byte word stop)

-- numerals

numeral_no_letter : (text rest : List ℕ) → begins_numeral text ≡ true → begins_with_letter (text ++ rest) ≡ false
numeral_no_letter [] rest h = absurd cc
numeral_no_letter (b ∷ text) rest h = no_letter_byte b h

numeral_some : (text : List ℕ) → begins_numeral text ≡ true → 0 < length text
numeral_some [] h = absurd cc
numeral_some (b ∷ text) h = omega arith

numeral_ends : (text more : List ℕ) (byte : ℕ) → IsNumeral text → is_stop byte ≡ true
    → IsLongest IsToken (text ++ byte ∷ more) (length text)
numeral_ends text more byte spelled stop =
    let run : prefix_len is_numeral_byte (text ++ byte ∷ more)
    ≡ length text =
    prefix_ends is_numeral_byte byte text more (no_numeral_byte byte stop) (numeral_passes text spelled) in
    let size : length (text ++ byte ∷ more) ≡ length text + length (byte ∷ more) = length-append text (byte ∷ more) in
    longest_numeral (text ++ byte ∷ more) (length text)
    (numeral_no_letter text (byte ∷ more) (numeral_begins text spelled)) (record {
      within = omega arith;
      spelled = λ some. subst IsNumeral (sym (take-append_seam text (byte ∷ more))) spelled;
      longest = λ m h t.
          let most : m ≤ prefix_len is_numeral_byte (text ++ byte ∷ more) =
          prefix_most is_numeral_byte (text ++ byte ∷ more) m h
          (numeral_passes _ t) in
          omega arith;
    }) (numeral_some text (numeral_begins text spelled))

-- notes

other_first : (o : Option ℕ) → o ≡ Some 110 → o ≡ Some 115 → ⊥
other_first None h g = absurd cc
other_first (Some n) h g = let one : n ≡ 110 = cc in let other : n ≡ 115 = cc in absurd (omega arith)

-- an `n` is no `s`
no_ref : (xs after : List ℕ) → codes "note{" ++ xs ≢ codes "sev." ++ after
no_ref xs after e = other_first (slice_get (codes "sev." ++ after) 0) (sym (ap (λ ys. slice_get ys 0) e)) refl

note_ends_here : (inside rest : List ℕ) → list_all is_note_byte inside ≡ true
    → IsLongest IsToken (codes "note{" ++ (inside ++ 125 ∷ rest)) (length inside + 6)
note_ends_here inside rest all =
    let run : prefix_len is_note_byte (inside ++ 125 ∷ rest) ≡ length inside =
    prefix_ends is_note_byte 125 inside rest refl all in
    let a_note = note_closed (inside ++ 125 ∷ rest) (length inside) (sym run) (get_behind inside rest 125) in
    let a_word = word_longest (codes "note{" ++ (inside ++ 125 ∷ rest)) 4 refl refl in
    let a_ref = ref_none (codes "note{" ++ (inside ++ 125 ∷ rest)) (λ after. no_ref (inside ++ 125 ∷ rest) after) in
    longest_lettered (codes "note{" ++ (inside ++ 125 ∷ rest)) 4 (length inside + 6) 0 (length inside + 6) kinds.Note refl
    a_word a_note a_ref (omega arith, omega arith, omega arith) a_note.within (λ some. a_note.spelled some)

note_ends : (text rest : List ℕ) → IsNote text → IsLongest IsToken (text ++ rest) (length text)
note_ends text rest (note inside e all) =
    grind (arith, length-append inside (125 ∷ []), append_assoc inside (125 ∷ []) rest, note_ends_here inside rest all)

-- signs

sign_ends : (s : Sign) (rest : List ℕ) → IsLongest IsToken (sign_byte s ∷ rest) 1
sign_ends s rest =
    longest_sign (sign_byte s ∷ rest) s (sign_no_letter s _ refl)
    (longest_none IsNumeral (sign_byte s ∷ rest) none) refl
  where
    none : (m : ℕ) → m ≤ length (sign_byte s ∷ rest) → IsNumeral (take m (sign_byte s ∷ rest)) → ⊥
    none zero h t = let begins : begins_numeral [] ≡ true = numeral_begins [] t in cc
    none (suc m) h t = grind (arith, numeral_begins (sign_byte s ∷ take m rest) t, sign_no_numeral)

behind_stop : (text rest : List ℕ) → ((more : List ℕ) (byte : ℕ) → is_stop byte ≡ true
    → IsLongest IsToken (text ++ byte ∷ more) (length text)) → Stops rest → IsLongest IsToken (text ++ rest) (length text)
behind_stop text rest ends s = rw s.whole (ends s.more s.byte s.stop)

-- any token, where a stop follows if it is not a sign behind which nothing stands
pub token_ends : (k : Kind) (text rest : List ℕ) → IsSpelled k text → (is_tight_behind k ≡ false → Stops rest)
    → IsLongest IsToken (text ++ rest) (length text)
token_ends (kinds.Word k) text rest spelled follows = behind_stop text rest (λ more byte.
    word_ends (kinds.Word k) text more byte (subst IsWord (sym spelled) (keyword_is_word k)) spelled) (follows refl)
token_ends kinds.Name text rest spelled follows =
    behind_stop text rest (λ more byte. word_ends kinds.Name text more byte spelled.word spelled) (follows refl)
token_ends kinds.Ref text rest spelled follows =
    behind_stop text rest (λ more byte. ref_ends text more byte spelled) (follows refl)
token_ends kinds.Numeral text rest spelled follows =
    behind_stop text rest (λ more byte. numeral_ends text more byte spelled) (follows refl)
token_ends kinds.Note text rest spelled follows = note_ends text rest spelled
token_ends (kinds.Sign s) text rest spelled follows = rw spelled (sign_ends s rest)
