-- What all steps of a text come to, and where they end.
use Rattle.dl_cert.proofs.Common.{get_or_past, ℕ, ◌≡◌, ◌+◌, ◌<◌, ◌≤◌, ◌^◌, ◌∙◌, inl, inr, refl, sym, ap, ap₂, arith, List, [], ◌∷◌, ◌++◌, length, get_or, take, drop, append-nil, length-append, map, All, ◌↔◌, get_or-append_seam, cases_lt, take_more, take_all, drop_all, length-map, All-nil, All-cons, Iv, Plan, label_at, HasPassedTo, lines_of, AreCells, AreSteps, with_byte, IsStep, made_after, Step, Made, made_at, unit_parts, target, IsBadStep, EndsAtTarget, Verifies}
use Rattle.dl_cert.proofs.LineLists.{no_lines, line_or_more}
use Rattle.dl_cert.proofs.Readings.{begun}
use Rattle.dl_cert.proofs.Passings.{counted}

-- ---- sizes

-- there are at most as many lines as bytes
pub lines_few : (text : List ℕ) → length (lines_of text) ≤ length text
unfolding lines_of
lines_few [] = omega arith
lines_few (b ∷ rest) = elim (line_or_more b rest) [
  | inl e ↦ omega (arith, ap length e, lines_few rest)
  | inr e ↦ omega (arith, ap length e, lines_few rest, longer b (lines_of rest))
]
  where
    longer : (byte : ℕ) (lines : List (List ℕ)) → length (with_byte byte lines) ≤ length lines + 1
    longer byte [] = omega arith
    longer byte (l ∷ ls) = omega arith

-- no end of a cell that is spelled is above 1
cells_small : (text : List ℕ) (cells : List (Iv 56)) → AreCells text cells → All (λ cell. cell.hi ≤ 2 ^ 56) cells
unfolding AreCells
cells_small text [] h = All-nil (λ (cell : Iv 56). cell.hi ≤ 2 ^ 56)
cells_small text (cell ∷ cells) (spelled, rest, here, later, is) =
    All-cons (λ (cell : Iv 56). cell.hi ≤ 2 ^ 56) cell cells here.small (cells_small rest cells later)

pub step_small : (line : List ℕ) (step : Step) → IsStep line step → All (λ cell. cell.hi ≤ 2 ^ 56) step.cells
step_small line step h =
    let b = begun step h in
    cells_small b.rest step.cells b.cells

-- ---- at the end of the text

module _ {plan : Plan} {text offsets labels : List ℕ} (passed : HasPassedTo plan text (length text) offsets labels) where
  abbrev made : List Made
  made = made_after [] passed.steps

  all_lines : lines_of text ≡ passed.lines
  all_lines = passed.split ∙ ap (λ l. passed.lines ++ l) (ap lines_of (drop_all (length text) text (omega arith)) ∙ no_lines)
      ∙ append-nil passed.lines

  pub all_counted : length offsets ≡ length (lines_of text)
  all_counted = counted passed ∙ sym (ap length all_lines)

  pub ends_badly : ¬ EndsAtTarget plan made → IsBadStep plan text (length offsets)
  ends_badly none = record {
    steps = passed.steps;
    spelled = rw (take_all (length offsets) (lines_of text) (omega (arith, all_counted)), all_lines) passed.spelled;
    pass = passed.pass;
    bad = inr (all_counted, none);
  }

  pub no_step_ends : length offsets ≡ 0 → ¬ EndsAtTarget plan made
  no_step_ends none ends =
      omega (arith, none, passed.so_far.many, ap length ends.ends, length-append ends.before (ends.last ∷ []))

  module _ (n : ℕ) (is : n + 1 ≡ length offsets) where
    within : n < length made
    within = omega (arith, is, passed.so_far.many)

    pub last_is : (before : List Made) (last : Made) → made ≡ before ++ last ∷ [] → made_at made n ≡ last
    last_is before last e =
        let long : length before ≡ n =
        omega (arith, is, passed.so_far.many, ap length e, length-append before (last ∷ [])) in
        ap₂ (λ l k. made_at l k) e (sym long) ∙ get_or-append_seam before last [] _

    pub other_end : ¬ ((i : ℕ) → i < length plan.units → label_at labels (length plan.units) n i ≡ target plan i)
        → ¬ EndsAtTarget plan made
    other_end none ends = none (λ i inside.
        sym (passed.so_far.counts n i within inside) ∙ ap (λ (m : Made). m.label i) (last_is ends.before ends.last ends.ends)
        ∙ ends.label i)

    pub verified : {grid : List (Iv 56)} → grid ≡ (made_at made n).cells
        → ((i : ℕ) → i < length plan.units → label_at labels (length plan.units) n i ≡ target plan i)
        → Verifies plan text grid
    verified cells label = record {
      steps = passed.steps;
      spelled = rw all_lines passed.spelled;
      certify = record {
        pass = passed.pass;
        before = take n made;
        last = made_at made n;
        made = sym (take_all (n + 1) made (omega (arith, is, passed.so_far.many))) ∙ take_more made n _ within;
        label = λ i. elim (cases_lt i (length plan.units)) [
          | inl inside ↦ passed.so_far.counts n i within inside ∙ label i inside
          | inr past ↦ passed.so_far.others n i past ∙ sym (get_or_past (map unit_parts plan.units) i 0
              (omega (arith, length-map plan.units unit_parts, past)))
        ];
        cells = cells;
      };
    }

none_spelled : AreSteps [] []
unfolding AreSteps
none_spelled = tt

-- nothing has been read
pub none_passed : (plan : Plan) (text : List ℕ) → HasPassedTo plan text 0 [] []
none_passed plan text = record {
  lines = [];
  steps = [];
  split = refl;
  spelled = none_spelled;
  pass = tt;
  so_far = record {
    many = refl;
    long = omega arith;
    steps_at = λ k near. absurd (omega (arith, near));
    counts = λ k i near small. absurd (omega (arith, near));
    others = λ k i past. refl;
  };
}

pub few_steps : {plan : Plan} (text : List ℕ) {offsets labels : List ℕ} → HasPassedTo plan text (length text) offsets labels
    → length offsets ≤ length text
few_steps text passed = omega (arith, all_counted passed, lines_few text)

-- the label of a step is that of the target, by the targets and the labels as they are read
pub by_targets : (plan : Plan) (targets labels read : List ℕ) (n : ℕ) → targets ≡ map unit_parts plan.units → read ≡ labels
    → ((i : ℕ) → i < length targets → label_at read (length targets) n i ≡ get_or targets i 0)
    ↔ ((i : ℕ) → i < length plan.units → label_at labels (length plan.units) n i ≡ target plan i)
by_targets plan targets labels read n is same = rw (is, same, length-map plan.units unit_parts) (λ h. h, λ h. h)

-- there are at most as many steps as bytes
pub steps_before : {plan : Plan} (text : List ℕ) {offsets labels : List ℕ} (offset : ℕ)
    → HasPassedTo plan text offset offsets labels → length offsets ≤ length text
steps_before text offset passed = omega (
  arith,
  counted passed,
  ap length passed.split,
  length-append passed.lines (lines_of (drop offset text)),
  lines_few text,
)
