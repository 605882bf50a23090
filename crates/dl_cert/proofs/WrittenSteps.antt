-- Steps that are written one after the other, and what they make.
use Rattle.dl_cert.proofs.Common.{ℕ, ◌≡◌, ◌+◌, ◌*◌, ◌≤◌, ◌∙◌, inl, refl, sym, ap, arith, List, [], ◌∷◌, ◌++◌, length, length-append, append_assoc, All, get_or-append_seam, get_or_append_left, All-head, All-tail, All-nil, All-cons, All-append, Iv, IsGrid, Plan, Kind, Label, Passes, made_after, Step, Made, made_at, made_by, label_of, IsThere, target, lines_of, AreSteps, IsExact, AllExact, text_of, line_of, Named, CanBeWritten, IsWritten, IsMade, EndsWith}
use Rattle.dl_cert.proofs.Printed.{is_newline, line_short, line_spelled}
use Rattle.dl_cert.proofs.Passings.{made_more, pass_more}
use Rattle.dl_cert.proofs.LineLists.{line_and_rest}
use Rattle.dl_cert.proofs.Words.{any_fails}

-- ---- lines

text_more : (steps : List Step) (step : Step) → text_of (steps ++ step ∷ []) ≡ text_of steps ++ (line_of step ++ (10 ∷ []))
unfolding text_of
text_more [] step = refl
text_more (first ∷ steps) step =
    ap (λ t. line_of first ++ (10 ∷ t)) (text_more steps step)
    ∙ sym (append_assoc (line_of first) (10 ∷ text_of steps) (line_of step ++ (10 ∷ [])))

pub made_kept : {made : List Made} (later : List Made) {k : ℕ} {cells : List (Iv 56)} {label : Label}
    → IsMade made k cells label → IsMade (made ++ later) k cells label
made_kept {made} later {k} m =
    let same = get_or_append_left made later (record { cells = []; label = λ i. 0 }) k m.there in
    record {
      there = omega (arith, m.there, length-append made later);
      same = ap (λ (x : Made). x.cells) same ∙ m.same;
      label_is = λ i. ap (λ (x : Made). x.label i) same ∙ m.label_is i;
    }

module _ {plan : Plan} where
  -- the lines of the text spell the steps
  pub text_spells : (steps : List Step) → All (CanBeWritten plan) steps → AreSteps (lines_of (text_of steps)) steps
  unfolding lines_of text_of AreSteps
  text_spells [] can = tt
  text_spells (step ∷ steps) can =
      let here = All-head (CanBeWritten plan) step steps can in
      rw (line_and_rest (line_of step) (text_of steps)
      (λ k inside. any_fails is_newline (line_of step) (line_short step here.named here.small).0 k 0 inside))
      (line_spelled step.kind step.cells here.named here.small, text_spells steps (All-tail (CanBeWritten plan) step steps can))

  pub text_short : (steps : List Step) → All (CanBeWritten plan) steps
      → length (text_of steps) ≤ length steps * (26 + 36 * plan.cells)
  unfolding text_of
  text_short [] can = omega arith
  text_short (step ∷ steps) can =
      let here = All-head (CanBeWritten plan) step steps can in
      omega (
        arith,
        length-append (line_of step) (10 ∷ text_of steps),
        (line_short step here.named here.small).1,
        text_short steps (All-tail (CanBeWritten plan) step steps can),
      )

  -- ---- one step more

  exact_more : (before : List Made) (steps : List Step) (step : Step) → AllExact plan before steps
      → IsExact plan (made_after before steps) step → AllExact plan before (steps ++ step ∷ [])
  exact_more before [] step exact here = (here, tt)
  exact_more before (first ∷ steps) step exact here =
      (exact.0, exact_more (before ++ made_by before first ∷ []) steps step exact.1 here)

  written_more : {text text' : List ℕ} {count : ℕ} {made : List Made} (step : Step) → IsWritten plan text count made
      → Passes plan made step → IsExact plan made step → CanBeWritten plan step
      → text' ≡ text ++ (line_of step ++ (10 ∷ []))
      → IsWritten plan text' (count + 1) (made ++ made_by made step ∷ [])
  written_more {made = made} step w pass exact can is =
      let e = w.makes in
      record {
        steps = w.steps ++ step ∷ [];
        lines = is ∙ ap (λ t. t ++ (line_of step ++ (10 ∷ []))) w.lines ∙ sym (text_more w.steps step);
        can_be = All-append (CanBeWritten plan) w.steps (step ∷ []) w.can_be
            (All-cons (CanBeWritten plan) step [] can (All-nil (CanBeWritten plan)));
        pass = pass_more plan [] w.steps step w.pass (rw e pass);
        exact = exact_more [] w.steps step w.exact (rw e exact);
        makes = made_more [] w.steps step ∙ ap (λ m. m ++ made_by m step ∷ []) e;
        many = omega (arith, length-append made (made_by made step ∷ []), w.many);
      }

  -- a step whose ends are its numbers is one more
  pub exact_step : {text text' : List ℕ} {count count' : ℕ} {made : List Made} (kind : Kind) (cells : List (Iv 56))
      (label : Label)
      → IsWritten plan text count made → text' ≡ text ++ (line_of (record { kind = kind; cells = cells }) ++ (10 ∷ []))
      → count' ≡ count + 1
      → Named kind → IsThere (length plan.units) (length made) kind → IsGrid cells → length cells ≡ plan.cells
      → ((i : ℕ) → label_of made kind i ≡ label i) → ((i : ℕ) → label i ≤ target plan i)
      → IsExact plan made (record { kind = kind; cells = cells })
      → EndsWith plan text' count' made count cells label
  exact_step {count = count} {made = made} kind cells label w is more named there grid long same within exact =
      let step : Step = record { kind = kind; cells = cells } in
      let here : Made = made_by made step in
      let seam = get_or-append_seam made here [] (record { cells = []; label = λ i. 0 }) in
      let pass : Passes plan made step = record {
        there = there;
        cells = long;
        label = λ i. rw (same i) (within i);
        mass = grid.mass;
        low = λ y inside. omega (arith, exact.low y inside);
        high = λ y inside. inl (omega (arith, exact.high y inside));
      } in
      let at : made_at (made ++ here ∷ []) count ≡ here = rw w.many at seam in
      record {
        later = here ∷ [];
        written = rw more (written_more step w pass exact
            (record { named = named; small = grid.small; cells = long }) is);
        step = record {
          there = omega (arith, length-append made (here ∷ []), w.many);
          same = ap (λ (x : Made). x.cells) at;
          label_is = λ i. ap (λ (x : Made). x.label i) at ∙ same i;
        };
        last = omega (arith, length-append made (here ∷ []), w.many);
      }
