-- Printed steps are spelled: the line of a step spells it, has no newline and is short.
use Rattle.dl_cert.proofs.Common.{append-nil, ℕ, ◌≡◌, ◌+◌, ◌*◌, ◌<◌, ◌≤◌, ◌^◌, ◌∙◌, ◌||◌, ◌&&◌, ◌==◌, Bool, true, false, refl, ap, ap₂, arith, List, [], ◌∷◌, ◌++◌, length, length-append, append_assoc, codes, nat_lt, nat_le, All, is_ascii_digit, list_all, list_any, and_from, nat_tests, All-head, All-tail, list_any-append, Iv, low_at, high_at, Kind, One, Start, Times, one, Step, is_comma, IsNumber, IsCell, AreCells, IsStep, by_one, by_start, by_times, cells_text, kind_text, line_of, Named, decimal, or-true, decimal_is_IsNumeral, length-decimal-le, after_none, before_none, own, no_sign}

-- ---- numbers

digits_of : (n : ℕ) → n < 2 ^ 64 → list_all is_ascii_digit (decimal n) ≡ true
digits_of n h = own.from (decimal n) (decimal_is_IsNumeral n h).0.1

pub number_spelled : (most n : ℕ) → 0 < most → n < 10 ^ most → n < 2 ^ 64 → IsNumber most (decimal n) n
number_spelled most n pos small fits =
    let some : 0 < length (decimal n) = (decimal_is_IsNumeral n fits).0.0 in
    let few : length (decimal n) ≤ most = length-decimal-le most n pos small fits in
    record {
      digits = and_from (nat_lt 0 (length (decimal n)) && list_all is_ascii_digit (decimal n))
          (nat_le (length (decimal n)) most)
          (and_from (nat_lt 0 (length (decimal n))) (list_all is_ascii_digit (decimal n)) (grind (arith, nat_tests, some))
          (digits_of n fits)) (grind (arith, nat_tests, few));
      value = (decimal_is_IsNumeral n fits).1;
    }

-- ---- bytes that a text lacks

no_comma : (n : ℕ) → n < 2 ^ 64 → list_any is_comma (decimal n) ≡ false
no_comma n h = no_sign is_comma (λ byte digit. grind (arith, nat_tests)) (decimal n) (digits_of n h)

abbrev pub is_newline : ℕ → Bool
is_newline byte = byte == 10

no_newline : (n : ℕ) → n < 2 ^ 64 → list_any is_newline (decimal n) ≡ false
no_newline n h = no_sign is_newline (λ byte digit. grind (arith, nat_tests)) (decimal n) (digits_of n h)

lack_both : (p : ℕ → Bool) (xs ys : List ℕ) → list_any p xs ≡ false → list_any p ys ≡ false
    → list_any p (xs ++ ys) ≡ false
lack_both p xs ys a b = list_any-append p xs ys ∙ ap₂ (λ s t. s || t) a b

-- ---- cells

cell_spelled : (lo hi : ℕ) (cell : Iv 56) → cell.lo ≡ lo → cell.hi ≡ hi → hi ≤ one
    → IsCell (decimal lo ++ (44 ∷ decimal hi)) cell
cell_spelled lo hi cell low high small =
    let lo_fits : lo < 2 ^ 64 = omega (arith, cell.ordered) in
    let hi_fits : hi < 2 ^ 64 = omega arith in
    let none = no_comma lo lo_fits in
    record {
      comma = list_any-append is_comma (decimal lo) (44 ∷ decimal hi) ∙ or-true (list_any is_comma (decimal lo));
      low = rw (before_none is_comma (decimal lo) (44 ∷ decimal hi) none ∙ append-nil (decimal lo))
          (rw low (number_spelled 17 lo (omega arith) (omega (arith, cell.ordered)) lo_fits));
      high = rw (after_none is_comma (decimal lo) (44 ∷ decimal hi) none)
          (rw high (number_spelled 17 hi (omega arith) (omega arith) hi_fits));
      small = omega arith;
    }

pub cells_spelled : (cells : List (Iv 56)) → All (λ cell. cell.hi ≤ one) cells
    → AreCells (cells_text (low_at cells) (high_at cells) (length cells)) cells
unfolding AreCells cells_text low_at high_at
cells_spelled [] small = refl
cells_spelled (cell ∷ cells) small = (
  decimal cell.lo ++ (44 ∷ decimal cell.hi),
  cells_text (low_at cells) (high_at cells) (length cells),
  cell_spelled cell.lo cell.hi cell refl refl (All-head (λ (c : Iv 56). c.hi ≤ one) cell cells small),
  cells_spelled cells (All-tail (λ (c : Iv 56). c.hi ≤ one) cell cells small),
  refl,
)

-- no newline, and at most 36 bytes a cell
pub cells_on_a_line : (cells : List (Iv 56)) → All (λ cell. cell.hi ≤ one) cells
    → (list_any is_newline (cells_text (low_at cells) (high_at cells) (length cells)) ≡ false)
    × (length (cells_text (low_at cells) (high_at cells) (length cells)) ≤ 36 * length cells)
unfolding cells_text low_at high_at
cells_on_a_line [] small = (refl, omega arith)
cells_on_a_line (cell ∷ cells) small =
    let rest = cells_on_a_line cells (All-tail (λ (c : Iv 56). c.hi ≤ one) cell cells small) in
    let top = All-head (λ (c : Iv 56). c.hi ≤ one) cell cells small in
    let lo_fits : cell.lo < 2 ^ 64 = omega (arith, cell.ordered, top) in
    let hi_fits : cell.hi < 2 ^ 64 = omega (arith, top) in
    let ends = decimal cell.lo ++ (44 ∷ decimal cell.hi) in
    let more = cells_text (low_at cells) (high_at cells) (length cells) in (
      lack_both is_newline (32 ∷ ends) more
          (lack_both is_newline (decimal cell.lo) (44 ∷ decimal cell.hi) (no_newline cell.lo lo_fits)
          (no_newline cell.hi hi_fits)) rest.0,
      omega (
        arith,
        length-append ends more,
        length-append (decimal cell.lo) (44 ∷ decimal cell.hi),
        length-decimal-le 17 cell.lo (omega arith) (omega (arith, cell.ordered, top)) lo_fits,
        length-decimal-le 17 cell.hi (omega arith) (omega (arith, top)) hi_fits,
      ),
    )

-- ---- steps

kind_on_a_line : (kind : Kind) → Named kind
    → (list_any is_newline (kind_text kind) ≡ false) × (length (kind_text kind) ≤ 25)
kind_on_a_line One named = (refl, omega arith)
kind_on_a_line (Start u) named =
    let fits : u < 2 ^ 64 = omega (arith, named) in
    (no_newline u fits, omega (arith, length-decimal-le 9 u (omega arith) named fits))
kind_on_a_line (Times a b) named =
    let a_fits : a < 2 ^ 64 = omega (arith, named.0) in
    let b_fits : b < 2 ^ 64 = omega (arith, named.1) in (
      lack_both is_newline (decimal a) (32 ∷ decimal b) (no_newline a a_fits) (no_newline b b_fits),
      omega (
        arith,
        length-append (decimal a) (32 ∷ decimal b),
        length-decimal-le 9 a (omega arith) named.0 a_fits,
        length-decimal-le 9 b (omega arith) named.1 b_fits,
      ),
    )

-- a line has no newline, and at most so many bytes
pub line_short : (step : Step) → Named step.kind → All (λ cell. cell.hi ≤ one) step.cells
    → (list_any is_newline (line_of step) ≡ false) × (length (line_of step) ≤ 25 + 36 * length step.cells)
line_short step named small =
    let kind = kind_on_a_line step.kind named in
    let cells = cells_on_a_line step.cells small in
    let text = cells_text (low_at step.cells) (high_at step.cells) (length step.cells) in (
      lack_both is_newline (kind_text step.kind) text kind.0 cells.0,
      omega (arith, kind.1, cells.1, length-append (kind_text step.kind) text),
    )

pub line_spelled : (kind : Kind) (cells : List (Iv 56)) → Named kind → All (λ cell. cell.hi ≤ one) cells
    → IsStep (line_of (record { kind = kind; cells = cells })) (record { kind = kind; cells = cells })
line_spelled One cells named small =
    by_one (cells_text (low_at cells) (high_at cells) (length cells)) cells (cells_spelled cells small) refl
line_spelled (Start u) cells named small =
    by_start (decimal u) (cells_text (low_at cells) (high_at cells) (length cells)) u cells
    (number_spelled 9 u (omega arith) named (omega (arith, named))) (cells_spelled cells small) refl
line_spelled (Times a b) cells named small =
    let text = cells_text (low_at cells) (high_at cells) (length cells) in
    by_times (decimal a) (decimal b) text a b cells
    (number_spelled 9 a (omega arith) named.0 (omega (arith, named.0)))
    (number_spelled 9 b (omega arith) named.1 (omega (arith, named.1))) (cells_spelled cells small)
    (ap (λ t. codes "times " ++ t) (append_assoc (decimal a) (codes " " ++ decimal b) text))
