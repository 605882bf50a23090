-- Where a blank stands no token begins, and how long a comment is.
use Rattle.dl_lexer.proofs.Common.{ℕ, zero, suc, ◌≡◌, ◌≢◌, ◌+◌, ◌<◌, ◌≤◌, List, [], ◌∷◌, length, take, drop, ◌-◌, true, false, ◌||◌, ◌==◌, refl, arith, Some, slice_get, prefix_len, nat_tests, Sign, Open, is_letter, is_ascii_digit, IsNumeral, sign_byte, NoToken, blank_length, take_all, is_white, is_comment_byte}
use Rattle.dl_lexer.proofs.Longest.{longest_none}
use Rattle.dl_lexer.proofs.TokenKinds.{begins_numeral, numeral_begins, longest_nothing}

-- what a blank begins with
blank_first : (b : ℕ) (bytes : List ℕ) → 0 < blank_length (b ∷ bytes) → (is_white b || b == 35) ≡ true
blank_first b bytes some = grind arith

no_letter : (b : ℕ) → (is_white b || b == 35) ≡ true → is_letter b ≡ false
no_letter b h = grind (arith, nat_tests)

no_numeral : (b : ℕ) → (is_white b || b == 35) ≡ true → (is_ascii_digit b || b == 46) ≡ false
no_numeral b h = grind (arith, nat_tests)

no_sign : (s : Sign) → (is_white (sign_byte s) || sign_byte s == 35) ≡ false
no_sign Open = refl
no_sign _ = refl

pub blank_no_token : (bytes : List ℕ) → 0 < blank_length bytes → NoToken bytes
blank_no_token [] some = absurd (omega arith)
blank_no_token (b ∷ bytes) some =
    let first : (is_white b || b == 35) ≡ true = blank_first b bytes some in
    longest_nothing (b ∷ bytes) (no_letter b first)
    (longest_none IsNumeral (b ∷ bytes) (numeral first)) (sign first)
  where
    numeral : (is_white b || b == 35) ≡ true → (m : ℕ) → m ≤ length (b ∷ bytes)
        → IsNumeral (take m (b ∷ bytes)) → ⊥
    numeral first zero h t = let begins : begins_numeral [] ≡ true = numeral_begins [] t in cc
    numeral first (suc m) h t = grind (arith, numeral_begins (b ∷ take m bytes) t, no_numeral b first)

    sign : (is_white b || b == 35) ≡ true → (s : Sign) → slice_get (b ∷ bytes) 0 ≢ Some (sign_byte s)
    sign first s e = grind (arith, no_sign s)

pub comment_length : (bytes : List ℕ) (n : ℕ) → slice_get bytes 0 ≡ Some 35
    → n ≡ prefix_len is_comment_byte (take (length bytes - 1) (drop 1 bytes)) → 1 + n ≡ blank_length bytes
comment_length [] n h e = absurd cc
comment_length (b ∷ bytes) n h e = grind (arith, take_all (length (b ∷ bytes) - 1) bytes (omega arith))
