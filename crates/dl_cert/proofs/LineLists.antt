-- The lines of a text, one after the other.
use Rattle.dl_cert.proofs.Common.{ℕ, suc, false, true, ◌≡◌, ◌+◌, ◌<◌, ◌≤◌, ◌∙◌, refl, sym, ap, ap₂, arith, inl, inr, List, [], ◌∷◌, ◌++◌, length, take, drop, get_or, ◌-◌, ◌⊎◌, position_or_len, cases_lt, cases_Bool, nat_tests, take_all, drop_all, drop-drop, length-take, get_or-take, length-drop, split_at_first, passes_at_first, fails_before_first, lines_of, with_byte, is_newline, line_from}

other_byte : (x : ℕ) (xs : List ℕ) → is_newline x ≡ false → lines_of (x ∷ xs) ≡ with_byte x (lines_of xs)
unfolding lines_of
other_byte x xs h = rw h refl

-- a line, its newline and what follows
pub line_and_rest : (front rest : List ℕ) → ((k : ℕ) → k < length front → is_newline (get_or front k 0) ≡ false)
    → lines_of (front ++ 10 ∷ rest) ≡ front ∷ lines_of rest
unfolding lines_of
line_and_rest [] rest none = refl
line_and_rest (x ∷ xs) rest none =
    other_byte x (xs ++ 10 ∷ rest) (none 0 (omega arith))
    ∙ ap (with_byte x) (line_and_rest xs rest (λ k inside. none (suc k) (omega (arith, inside))))

-- a last line without a newline
last_line : (x : ℕ) (xs : List ℕ) → ((k : ℕ) → k < length (x ∷ xs) → is_newline (get_or (x ∷ xs) k 0) ≡ false)
    → lines_of (x ∷ xs) ≡ (x ∷ xs) ∷ []
unfolding lines_of
last_line x [] none = other_byte x [] (none 0 (omega arith))
last_line x (y ∷ ys) none =
    other_byte x (y ∷ ys) (none 0 (omega arith))
    ∙ ap (with_byte x) (last_line y ys (λ k inside. none (suc k) (omega (arith, inside))))

pub no_lines : lines_of [] ≡ []
unfolding lines_of
no_lines = refl

module _ (text : List ℕ) {rest : List ℕ} (offset : ℕ) {end : ℕ} (inside : offset < length text) (is : rest ≡ drop offset text)
    (at : end ≡ position_or_len is_newline rest) where
  left : length rest ≡ length text - offset
  left = ap length is ∙ length-drop offset text

  -- a newline ends the line
  pub ended_line : offset + end < length text
      → lines_of (drop offset text) ≡ line_from text offset ∷ lines_of (drop (offset + end + 1) text)
  ended_line more =
      let here : position_or_len is_newline rest < length rest = omega (arith, at, left, more) in
      let n : ℕ = position_or_len is_newline rest in
      let front : List ℕ = take n rest in
      let split : rest ≡ front ++ 10 ∷ drop (n + 1) rest =
      split_at_first is_newline rest 0 here
      ∙ ap (λ b. front ++ b ∷ drop (n + 1) rest) (newline_is _ (passes_at_first is_newline rest 0 here)) in
      let behind : drop (n + 1) rest ≡ drop (offset + end + 1) text =
      ap (drop (n + 1)) is ∙ drop-drop (n + 1) offset text ∙ ap (λ k. drop k text) (omega (arith, at)) in
      ap lines_of (sym is ∙ split) ∙ line_and_rest front (drop (n + 1) rest) front_plain
      ∙ ap₂ (λ l t. l ∷ lines_of t) (ap (λ t. take (position_or_len is_newline t) t) is) behind
    where
      newline_is : (b : ℕ) → is_newline b ≡ true → b ≡ 10
      newline_is b h = grind (arith, nat_tests)

      front_plain : (k : ℕ) → k < length (take (position_or_len is_newline rest) rest)
          → is_newline (get_or (take (position_or_len is_newline rest) rest) k 0) ≡ false
      front_plain k near =
          let few : k < position_or_len is_newline rest =
          omega (arith, near, length-take (position_or_len is_newline rest) rest) in
          ap is_newline (get_or-take (position_or_len is_newline rest) rest k 0 few)
          ∙ fails_before_first is_newline rest k 0 few

  -- the text ends the line
  pub open_line : length text ≤ offset + end
      → lines_of (drop offset text) ≡ line_from text offset ∷ lines_of (drop (offset + end) text)
  open_line over =
      let n : ℕ = position_or_len is_newline rest in
      let all : take n rest ≡ rest = take_all n rest (omega (arith, at, left, over, inside)) in
      ap lines_of (sym is) ∙ whole_line rest (omega (arith, left, inside)) (λ k near.
      fails_before_first is_newline rest k 0 (omega (arith, near, at, left, over, inside)))
      ∙ ap₂ (λ l t. l ∷ t) (sym all ∙ ap (λ t. take (position_or_len is_newline t) t) is)
      (sym (ap lines_of (drop_all (offset + end) text over) ∙ no_lines))
    where
      whole_line : (xs : List ℕ) → 0 < length xs → ((k : ℕ) → k < length xs → is_newline (get_or xs k 0) ≡ false)
          → lines_of xs ≡ xs ∷ []
      whole_line [] some none = absurd (omega (arith, some))
      whole_line (x ∷ xs) some none = last_line x xs none

-- a place inside a text is where a line begins, and behind it the others follow
pub next_there : (text : List ℕ) (offset : ℕ) → offset < length text
    → (next : ℕ) × (lines_of (drop offset text) ≡ line_from text offset ∷ lines_of (drop next text))
next_there text offset inside =
    let rest : List ℕ = drop offset text in
    let end : ℕ = position_or_len is_newline rest in
    elim (cases_lt (offset + end) (length text)) [
      | inl more ↦ (offset + end + 1, ended_line text offset inside refl refl more)
      | inr over ↦ (offset + end, open_line text offset inside refl refl over)
    ]

-- a byte ends a line or is one more of the first
pub line_or_more : (b : ℕ) (rest : List ℕ)
    → (lines_of (b ∷ rest) ≡ [] ∷ lines_of rest) ⊎ (lines_of (b ∷ rest) ≡ with_byte b (lines_of rest))
unfolding lines_of
line_or_more b rest = elim (cases_Bool (is_newline b)) [ inl h ↦ inl (rw h refl) | inr h ↦ inr (rw h refl) ]
