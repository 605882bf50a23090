-- A line spells at most one step, which is read from the left.
use Rattle.dl_cert.proofs.Common.{ℕ, ◌≡◌, ◌∙◌, inl, inr, refl, sym, ap, ap₂, subst, arith, List, [], ◌∷◌, ◌++◌, get_or, codes, length, take, drop, ◌+◌, ◌<◌, true, length-drop, cases_lt, nat_tests, passes_at_first, append_cancel_left, drop_more, Iv, One, Start, Times, Step, IsNumber, IsCell, AreCells, IsStep, start, position_or_len, is_blank, first_word, after_word, BeginsCell, BeginsStep, same_cells}
use Rattle.dl_cert.specs.Lines.{one, times}
use Rattle.dl_cert.proofs.Words.{by_word, cut, number_front, cell_front, cells_tail, at_blank, drop_by}

-- ---- cells

number_is : {most : ℕ} {text : List ℕ} {m n : ℕ} → IsNumber most text m → IsNumber most text n → m ≡ n
number_is h k = sym h.value ∙ k.value

cell_is : {text : List ℕ} {c d : Iv 56} → IsCell text c → IsCell text d → c ≡ d
cell_is {c = c} {d = d} h k =
    ap (λ l. get_or l 0 c) (same_cells (c ∷ []) (d ∷ []) (ap (λ n. n ∷ []) (number_is h.low k.low))
    (ap (λ n. n ∷ []) (number_is h.high k.high)))

module _ (text : List ℕ) (rest : List ℕ) (e : text ≡ 32 ∷ rest) where
  pub record CellParts (cell : Iv 56) (cells : List (Iv 56)) : Type 0 where
    pub here : IsCell (first_word rest) cell
    pub later : AreCells (after_word rest) cells

  cell_parts : (cell : Iv 56) (cells : List (Iv 56)) → AreCells text (cell ∷ cells) → CellParts cell cells
  unfolding AreCells
  cell_parts cell cells (spelled, more, h, later, is) =
      let same : rest ≡ spelled ++ more = cc in
      let parts = cut spelled more (cell_front h) (cells_tail more cells later) in
      record {
        here = subst (λ t. IsCell t cell) (sym (ap first_word same ∙ parts.0)) h;
        later = subst (λ t. AreCells t cells) (sym (ap after_word same ∙ parts.1)) later;
      }

  pub begins_cell : (cell : Iv 56) → IsCell (first_word rest) cell → BeginsCell text cell (after_word rest)
  unfolding AreCells
  begins_cell cell h = record {
    spells = λ cells later. (first_word rest, after_word rest, h, later, e ∙ ap (λ t. 32 ∷ t) (by_word rest));
    only = λ other cells are. (
      cell_is (cell_parts other cells are).here h,
      (cell_parts other cells are).later,
    );
  }

  pub no_cell : ((cell : Iv 56) → ¬ IsCell (first_word rest) cell) → (cell : Iv 56) (cells : List (Iv 56))
      → ¬ AreCells text (cell ∷ cells)
  no_cell none cell cells are = none cell (cell_parts cell cells are).here

module _ (text : List ℕ) {rest : List ℕ} (from : ℕ) {end : ℕ} (inside : from < length text) (blank : get_or text from 0 ≡ 32)
    (is : rest ≡ drop (from + 1) text) (at : end ≡ position_or_len is_blank rest) where
  here : drop from text ≡ 32 ∷ rest
  here = at_blank text from inside blank ∙ ap (λ t. 32 ∷ t) (sym is)

  pub cell_begins : {cell : Iv 56} → IsCell (take end rest) cell
      → BeginsCell (drop from text) cell (drop (from + 1 + end) text)
  cell_begins {cell = cell} h =
      subst (λ t. BeginsCell (drop from text) cell t)
      (ap (λ n. drop n rest) (sym at) ∙ ap (drop end) is ∙ sym (drop_by text (from + 1) end))
      (begins_cell (drop from text) rest here cell (subst (λ n. IsCell (take n rest) cell) at h))

  pub no_cell_begins : ((cell : Iv 56) → ¬ IsCell (take end rest) cell) → (cell : Iv 56) (cells : List (Iv 56))
      → ¬ AreCells (drop from text) (cell ∷ cells)
  no_cell_begins none =
      no_cell (drop from text) rest here (λ cell h. none cell (subst (λ n. IsCell (take n rest) cell) (sym at) h))

pub no_cell_at : (text : List ℕ) → ((rest : List ℕ) → ¬ (text ≡ 32 ∷ rest)) → (cell : Iv 56) (cells : List (Iv 56))
    → ¬ AreCells text (cell ∷ cells)
unfolding AreCells
no_cell_at text none cell cells (spelled, more, h, later, is) = none (spelled ++ more) is

pub cells_are : (text : List ℕ) (cs ds : List (Iv 56)) → AreCells text cs → AreCells text ds → cs ≡ ds
unfolding AreCells
cells_are text [] [] h k = refl
cells_are text [] (d ∷ ds) h (spelled, more, cell, later, is) = absurd (cc)
cells_are text (c ∷ cs) [] (spelled, more, cell, later, is) k = absurd (cc)
cells_are text (c ∷ cs) (d ∷ ds) (spelled, more, cell, later, is) k =
    let first = cell_parts text (spelled ++ more) is c cs (spelled, more, cell, later, is) in
    let second = cell_parts text (spelled ++ more) is d ds k in
    ap₂ (λ x xs. x ∷ xs) (cell_is first.here second.here)
    (cells_are (after_word (spelled ++ more)) cs ds first.later second.later)

-- ---- kinds

-- the first byte of a line is that of its word
byte_of : (line other : List ℕ) → line ≡ other → get_or line 0 0 ≡ get_or other 0 0
byte_of line other e = ap (λ t. get_or t 0 0) e

pub record StartParts (words : List ℕ) (step : Step) : Type 0 where
  pub u : ℕ
  pub number : IsNumber 9 (first_word words) u
  pub kind : step.kind ≡ Start u
  pub cells : AreCells (after_word words) step.cells

pub record TimesParts (words : List ℕ) (step : Step) : Type 0 where
  pub a : ℕ
  pub b : ℕ
  pub more : List ℕ
  pub first : IsNumber 9 (first_word words) a
  pub behind : after_word words ≡ 32 ∷ more
  pub second : IsNumber 9 (first_word more) b
  pub kind : step.kind ≡ Times a b
  pub cells : AreCells (after_word more) step.cells

pub record Begun (line : List ℕ) (step : Step) : Type 0 where
  pub rest : List ℕ
  pub begins : BeginsStep line step.kind rest
  pub cells : AreCells rest step.cells

module _ {line : List ℕ} where
  pub begins_one : (rest : List ℕ) → line ≡ codes "one" ++ rest → BeginsStep line One rest
  begins_one rest e = record { spells = λ cells are. one rest cells are e; only = λ step is. parts step is }
    where
      parts : (step : Step) → IsStep line step → (step.kind ≡ One) × AreCells rest step.cells
      parts step (one more cells are is) =
          (refl, subst (λ t. AreCells t cells) (append_cancel_left (codes "one") more rest (sym is ∙ e)) are)
      parts step (start text more u cells number are is) = absurd (omega (arith, byte_of _ _ (sym e ∙ is)))
      parts step (times first second more a b cells na nb are is) = absurd (omega (arith, byte_of _ _ (sym e ∙ is)))

  pub start_parts : (words : List ℕ) → line ≡ codes "start " ++ words → {step : Step} → IsStep line step
      → StartParts words step
  start_parts words e (one more cells are is) = absurd (omega (arith, byte_of _ _ (sym e ∙ is)))
  start_parts words e (start text more u cells number are is) =
      let same : words ≡ text ++ more = append_cancel_left (codes "start ") words (text ++ more) (sym e ∙ is) in
      let parts = cut text more (number_front number) (cells_tail more cells are) in
      record {
        u = u;
        number = subst (λ t. IsNumber 9 t u) (sym (ap first_word same ∙ parts.0)) number;
        kind = refl;
        cells = subst (λ t. AreCells t cells) (sym (ap after_word same ∙ parts.1)) are;
      }
  start_parts words e (times first second more a b cells na nb are is) =
      absurd (omega (arith, byte_of _ _ (sym e ∙ is)))

  pub begins_start : (words : List ℕ) → line ≡ codes "start " ++ words → {u : ℕ} → IsNumber 9 (first_word words) u
      → BeginsStep line (Start u) (after_word words)
  begins_start words e {u = u} number = record {
    spells = λ cells are. start (first_word words) (after_word words) u cells number are
        (e ∙ ap (λ t. codes "start " ++ t) (by_word words));
    only = λ step is.
        let p = start_parts words e is in
        (p.kind ∙ ap Start (number_is p.number number), p.cells);
  }

  pub times_parts : (words : List ℕ) → line ≡ codes "times " ++ words → {step : Step} → IsStep line step
      → TimesParts words step
  times_parts words e (one more cells are is) = absurd (omega (arith, byte_of _ _ (sym e ∙ is)))
  times_parts words e (start text more u cells number are is) = absurd (omega (arith, byte_of _ _ (sym e ∙ is)))
  times_parts words e (times first second rest a b cells na nb are is) =
      let same : words ≡ first ++ (codes " " ++ (second ++ rest)) =
      append_cancel_left (codes "times ") words _ (sym e ∙ is) in
      let outer = cut first (32 ∷ second ++ rest) (number_front na) (inr (second ++ rest, refl)) in
      let inner = cut second rest (number_front nb) (cells_tail rest cells are) in
      record {
        a = a;
        b = b;
        more = second ++ rest;
        first = subst (λ t. IsNumber 9 t a) (sym (ap first_word same ∙ outer.0)) na;
        behind = ap after_word same ∙ outer.1;
        second = subst (λ t. IsNumber 9 t b) (sym inner.0) nb;
        kind = refl;
        cells = subst (λ t. AreCells t cells) (sym inner.1) are;
      }

  pub begins_times : (words : List ℕ) {more : List ℕ} → line ≡ codes "times " ++ words → {a b : ℕ}
      → IsNumber 9 (first_word words) a → after_word words ≡ 32 ∷ more → IsNumber 9 (first_word more) b
      → BeginsStep line (Times a b) (after_word more)
  begins_times words {more = more} e {a = a} {b = b} na behind nb = record {
    spells = λ cells are. times (first_word words) (first_word more) (after_word more) a b cells na nb are
        (e ∙ ap (λ t. codes "times " ++ t) (by_word words
        ∙ ap (λ t. first_word words ++ t) (behind ∙ ap (λ t. 32 ∷ t) (by_word more))));
    only = λ step is.
        let p = times_parts words e is in
        let same : p.more ≡ more = cc in (
          p.kind ∙ ap₂ (λ m n. Times m n) (number_is p.first na)
              (number_is (subst (λ t. IsNumber 9 (first_word t) p.b) same p.second) nb),
          subst (λ t. AreCells (after_word t) step.cells) same p.cells,
        );
  }

  -- a line that begins with none of the three words spells no step
  pub no_step : ((rest : List ℕ) → ¬ (line ≡ codes "one" ++ rest)) → ((rest : List ℕ) → ¬ (line ≡ codes "start " ++ rest))
      → ((rest : List ℕ) → ¬ (line ≡ codes "times " ++ rest)) → (step : Step) → ¬ IsStep line step
  no_step n_one n_start n_times step (one more cells are is) = n_one more is
  no_step n_one n_start n_times step (start text more u cells number are is) = n_start (text ++ more) is
  no_step n_one n_start n_times step (times first second rest a b cells na nb are is) =
      n_times (first ++ (codes " " ++ (second ++ rest))) is

  pub begun : (step : Step) → IsStep line step → Begun line step
  begun step (one more cells are is) = record { rest = more; begins = begins_one more is; cells = are }
  begun step (start text more u cells number are is) =
      let p = start_parts (text ++ more) is (start text more u cells number are is) in
      record {
        rest = after_word (text ++ more);
        begins = subst (λ k. BeginsStep line k (after_word (text ++ more))) (sym p.kind)
            (begins_start (text ++ more) is p.number);
        cells = p.cells;
      }
  begun step (times first second rest a b cells na nb are is) =
      let p = times_parts (first ++ (codes " " ++ (second ++ rest))) is (times first second rest a b cells na nb are is) in
      record {
        rest = after_word p.more;
        begins = subst (λ k. BeginsStep line k (after_word p.more)) (sym p.kind)
            (begins_times (first ++ (codes " " ++ (second ++ rest))) is p.first p.behind p.second);
        cells = p.cells;
      }

  -- the steps that a line spells are one
  pub step_is : {s t : Step} → IsStep line s → IsStep line t → s ≡ t
  step_is {s = s} {t = t} h k =
      let b = begun s h in
      let other = b.begins.only t k in
      ap₂ (λ kind cells. record { kind = kind; cells = cells }) (sym other.0)
      (cells_are b.rest s.cells t.cells b.cells other.1)

-- ---- lines that are read by words

module _ (line : List ℕ) where
  -- no number of a unit
  pub no_start : (words : List ℕ) → line ≡ codes "start " ++ words
      → ((n : ℕ) → ¬ IsNumber 9 (first_word words) n) → (step : Step) → ¬ IsStep line step
  no_start words e none step h =
      let p = start_parts words e h in
      none p.u p.number

  module _ (words : List ℕ) (e : line ≡ codes "times " ++ words) where
    pub no_first : ((n : ℕ) → ¬ IsNumber 9 (first_word words) n) → (step : Step) → ¬ IsStep line step
    no_first none step h =
        let p = times_parts words e h in
        none p.a p.first

    pub no_more : after_word words ≡ [] → (step : Step) → ¬ IsStep line step
    no_more over step h = let p = times_parts words e h in cc

    pub no_second : (more : List ℕ) → after_word words ≡ 32 ∷ more
        → ((n : ℕ) → ¬ IsNumber 9 (first_word more) n) → (step : Step) → ¬ IsStep line step
    no_second more behind none step h =
        let p = times_parts words e h in
        let same : p.more ≡ more = cc in
        none p.b (subst (λ t. IsNumber 9 (first_word t) p.b) same p.second)

-- behind a word the text is at its end, or a blank follows
pub word_ends : (text words : List ℕ) (next : ℕ) → next < length text → drop next text ≡ after_word words
    → after_word words ≡ 32 ∷ drop (next + 1) text
word_ends text words next inside is =
    sym is ∙ drop_more text next 0 inside ∙ ap (λ b. b ∷ drop (next + 1) text) blank
  where
    offset : ℕ
    offset = position_or_len is_blank words

    left : offset < length words
    left = elim (cases_lt offset (length words)) [
      | inl h ↦ h
      | inr past ↦ absurd (omega (arith, inside, length-drop next text, ap length is, length-drop offset words, past))
    ]

    blank : get_or text next 0 ≡ 32
    blank =
        let first = drop_more text next 0 inside in
        let second = drop_more words offset 0 left in
        let same : get_or text next 0 ≡ get_or words offset 0 = cc in
        same ∙ blank_is _ (passes_at_first is_blank words 0 left)
      where
        blank_is : (b : ℕ) → is_blank b ≡ true → b ≡ 32
        blank_is b h = grind (arith, nat_tests)

-- a line of a product whose two numbers are read
pub times_read : {line : List ℕ} {a b : ℕ} (next last : ℕ) → line ≡ codes "times " ++ drop 6 line
    → IsNumber 9 (first_word (drop 6 line)) a → drop next line ≡ after_word (drop 6 line) → next < length line
    → IsNumber 9 (first_word (drop (next + 1) line)) b → drop last line ≡ after_word (drop (next + 1) line)
    → BeginsStep line (Times a b) (drop last line)
times_read {line = line} {a = a} {b = b} next last e na behind inside nb is =
    subst (λ t. BeginsStep line (Times a b) t) (sym is)
    (begins_times (drop 6 line) e na (word_ends line (drop 6 line) next inside behind) nb)
