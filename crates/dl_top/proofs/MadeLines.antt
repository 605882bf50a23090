-- One more line of a portfolio that is made.
use Rattle.dl_top.proofs.Common.{ℕ, ◌≡◌, ◌∙◌, ◌+◌, ◌*◌, List, ◌++◌, sym, ap, arith, add-one, append_assoc, next_value, value_after, drawn_below, unit_text, unit_line, unit_lines}

pub value_next : (first n : ℕ) → value_after first (n + 1) ≡ next_value (value_after first n)
unfolding value_after
value_next first n = ap (value_after first) (add-one n)

lines_next : (first k : ℕ) → unit_lines first (k + 1) ≡ unit_lines first k ++ unit_line first k
unfolding unit_lines
lines_next first k = ap (unit_lines first) (add-one k)

-- the values of the two draws behind k lines
first_draw : (first k v w : ℕ) → v ≡ value_after first (2 * k) → w ≡ next_value v → w ≡ value_after first (2 * k + 1)
first_draw first k v w e f = f ∙ ap next_value e ∙ sym (value_next first (2 * k))

second_draw : (first k v w : ℕ) → v ≡ value_after first (2 * k + 1) → w ≡ next_value v
    → w ≡ value_after first (2 * k + 2)
second_draw first k v w e f = let at : 2 * k + 1 + 1 ≡ 2 * k + 2 = omega arith in f ∙ ap next_value e
    ∙ sym (value_next first (2 * k + 1))
    ∙ ap (value_after first) at

pub draws_next : (first k v w x : ℕ) → v ≡ value_after first (2 * k) → w ≡ next_value v → x ≡ next_value w
    → x ≡ value_after first (2 * (k + 1))
draws_next first k v w x e f g = let at : 2 * k + 2 ≡ 2 * (k + 1) = omega arith in
    second_draw first k w x (first_draw first k v w e f) g
    ∙ ap (value_after first) at

pub line_next : (first k v w x a b : ℕ) (start : List ℕ) → v ≡ value_after first (2 * k) → w ≡ next_value v
    → x ≡ next_value w
    → a ≡ drawn_below 21 w → b ≡ drawn_below 6 x
    → (start ++ unit_lines first k) ++ unit_text (k + 1) (20 + a) (5 + b) ≡ start ++ unit_lines first (k + 1)
line_next first k v w x a b start e f g drawn_a drawn_b =
    let claims : a ≡ drawn_below 21 (value_after first (2 * k + 1)) = drawn_a
    ∙ ap (drawn_below 21) (first_draw first k v w e f) in
    let greatest : b ≡ drawn_below 6 (value_after first (2 * k + 2)) = drawn_b
    ∙ ap (drawn_below 6) (second_draw first k w x (first_draw first k v w e f) g) in
    append_assoc start (unit_lines first k) (unit_text (k + 1) (20 + a) (5 + b))
    ∙ ap (λ n. start ++ (unit_lines first k ++ unit_text (k + 1) (20 + n) (5 + b))) claims
    ∙ ap (λ n. start ++ (unit_lines first k ++ unit_text (k + 1) (20 + drawn_below 21 (value_after first (2 * k + 1)))
    (5 + n))) greatest
    ∙ ap (λ ys. start ++ ys) (sym (lines_next first k))
