-- The tokens that cover a text lie in it, are no more than its bytes, and are real.
use Rattle.dl_parser.proofs.Common.{◌≡◌, ℕ, suc, ◌+◌, ◌-◌, ◌≤◌, Bool, true, false, List, [], ◌∷◌, length, take, drop, sym, subst, arith, length-append, All, ◌==◌, All-nil, lexeme, IsReal, length-drop, if◌then◌else◌, prefix_len, map-append, prefix_len-le-length, All-push, most_text, Token, lexemes, Inside, AllInside, token_takes}
use Rattle.dl_lexer.specs.Prelude.{is_white, is_comment_byte, IsSpelled, Covers, nothing, blank, token, blank_length, token_of}

blank_cases : (white comment : Bool) (run all : ℕ) → run ≤ all
    → (if white then 1 else if comment then 1 + run else 0) ≤ suc all
blank_cases true comment run all h = omega arith
blank_cases false true run all h = omega arith
blank_cases false false run all h = omega arith

blank_within : (bytes : List ℕ) → blank_length bytes ≤ length bytes
blank_within [] = omega arith
blank_within (b ∷ bytes) = blank_cases (is_white b) (b == 35) (prefix_len is_comment_byte bytes) (length bytes)
    (prefix_len-le-length is_comment_byte bytes)

reaches : (bytes : List ℕ) (at : ℕ) (tokens : List Token) → Covers bytes at tokens → at ≤ length bytes
reaches bytes at tokens nothing = omega arith
reaches bytes at tokens (blank from _ c some none) =
    omega (arith, reaches bytes from tokens c, blank_within (drop from bytes), length-drop from bytes)
reaches bytes at tokens (token from n kind before c spelled longest) =
    omega (arith, reaches bytes from before c, longest.within, length-drop from bytes)

pub covered_inside : (bytes : List ℕ) (at : ℕ) (tokens : List Token) → Covers bytes at tokens → AllInside bytes tokens
covered_inside bytes at tokens nothing = All-nil (λ t. Inside bytes t.span)
covered_inside bytes at tokens (blank from _ c some none) = covered_inside bytes from tokens c
covered_inside bytes at tokens (token from n kind before c spelled longest) =
    All-push (λ t. Inside bytes t.span) before (token_of kind from n) (covered_inside bytes from before c)
    (omega arith, omega (arith, reaches bytes from before c, longest.within, length-drop from bytes))

pub covered_count : (bytes : List ℕ) (at : ℕ) (tokens : List Token) → Covers bytes at tokens → length tokens ≤ at
covered_count bytes at tokens nothing = omega arith
covered_count bytes at tokens (blank from _ c some none) = omega (arith, covered_count bytes from tokens c)
covered_count bytes at tokens (token from n kind before c spelled longest) =
    omega (
      arith,
      covered_count bytes from before c,
      token_takes kind n (drop from bytes) spelled,
      length-append before
          (token_of kind from n ∷ []),
    )

back : (at n : ℕ) → (at + n) - at ≡ n
back at n = omega arith

pub covered_real : (bytes : List ℕ) (at : ℕ) (tokens : List Token) → Covers bytes at tokens
    → All IsReal (lexemes bytes tokens)
covered_real bytes at tokens nothing = All-nil IsReal
covered_real bytes at tokens (blank from _ c some none) = covered_real bytes from tokens c
covered_real bytes at tokens (token from n kind before c spelled longest) =
    subst (All IsReal) (sym (map-append (lexeme bytes) before (token_of kind from n ∷ [])))
    (All-push IsReal (lexemes bytes before) (lexeme bytes (token_of kind from n)) (covered_real bytes from before c)
    (subst (λ m. IsSpelled kind (take m (drop from bytes))) (sym (back from n)) spelled))

-- so they are few
pub covered_few : (bytes : List ℕ) (tokens : List Token) → Covers bytes (length bytes) tokens
    → length bytes ≤ most_text → length tokens ≤ most_text
covered_few bytes tokens c short = omega (arith, covered_count bytes (length bytes) tokens c)
