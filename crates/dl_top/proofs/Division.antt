-- Where the steps of an input begin.
use Rattle.dl_top.proofs.Common.{◌≡◌, ◌+◌, ◌<◌, ℕ, Bool, true, false, ◌&&◌, List, [], ◌∷◌, length, get_or, drop, refl, sym, ap, subst, ◌∙◌, arith, drop_more, drop_all, is_divided, length_to_steps}
use Rattle.dl_lexer.specs.Lines.{is_newline}

ends : (begins : Bool) (x : ℕ) (xs : List ℕ) → (begins && is_divided (x ∷ xs)) ≡ true
    → length_to_steps begins (x ∷ xs) ≡ 0
unfolding length_to_steps
ends begins x xs h = rw h refl

goes : (begins : Bool) (x : ℕ) (xs : List ℕ) → (begins && is_divided (x ∷ xs)) ≡ false
    → length_to_steps begins (x ∷ xs) ≡ 1 + length_to_steps (is_newline x) xs
unfolding length_to_steps
goes begins x xs h = rw h refl

none_left : (begins : Bool) → length_to_steps begins [] ≡ 0
unfolding length_to_steps
none_left begins = refl

-- at a line that is `---`
pub ends_at : (text : List ℕ) (begins : Bool) (at : ℕ) → at < length text
    → (begins && is_divided (drop at text)) ≡ true → length_to_steps begins (drop at text) ≡ 0
ends_at text begins at inside h =
    subst (λ ys. (begins && is_divided ys) ≡ true → length_to_steps begins ys ≡ 0) (sym (drop_more text at 0 inside))
    (ends begins (get_or text at 0) (drop (at + 1) text)) h

-- at any other place
pub goes_at : (text : List ℕ) (begins : Bool) (at : ℕ) → at < length text
    → (begins && is_divided (drop at text)) ≡ false
    → length_to_steps begins (drop at text)
    ≡ 1 + length_to_steps (is_newline (get_or text at 0)) (drop (at + 1) text)
goes_at text begins at inside h =
    subst (λ ys. (begins && is_divided ys) ≡ false → length_to_steps begins ys
    ≡ 1 + length_to_steps (is_newline (get_or text at 0)) (drop (at + 1) text)) (sym (drop_more text at 0 inside))
    (goes begins (get_or text at 0) (drop (at + 1) text)) h

-- at the end
pub none_at_end : (text : List ℕ) (begins : Bool) (at : ℕ) → at ≡ length text → length_to_steps begins (drop at text) ≡ 0
none_at_end text begins at e =
    ap (length_to_steps begins) (drop_all at text (omega (arith, e))) ∙ none_left begins
