-- A step that passes joins those that are kept.
use Rattle.dl_cert.proofs.Common.{take-append_seam, get_or_past, ℕ, suc, ◌≡◌, ◌≢◌, ◌+◌, ◌*◌, ◌<◌, ◌≤◌, ◌^◌, ◌∙◌, cond, inl, inr, refl, sym, ap, ap₂, subst, subst₂, arith, List, [], ◌∷◌, ◌++◌, length, get_or, drop, append_assoc, length-append, mul-le-mul_right, map, All, cases_lt, ne_eqb, get_or_append_left, get_or-append_seam, most_cert_cells, most_cells_at, Iv, mass_low, IsGrid, Plan, Kind, One, Start, Times, HavePassed, IsRow, IsStepAt, count_by, label_at, HasPassedTo, AreSteps, lines_of, IsStep, one, Passes, AllPass, made_after, line_from, Step, Made, made_at, made_by, label_of, IsThere, unit_parts, IsBadStep, IsBadLine, get_or-append-add}
use Rattle.dl_cert.proofs.LineLists.{next_there}
use Rattle.dl_cert.proofs.Readings.{step_is}
use Rattle.dl_cert.proofs.Tests.{IsTested}

module _ {plan : Plan} {text offsets labels : List ℕ} {before : List Made} (so_far : HavePassed plan text offsets labels before) where
  abbrev units : ℕ
  units = length plan.units

  pub count_is : (kind : Kind) → IsThere units (length before) kind → (i : ℕ) → i < units
      → count_by labels units kind i ≡ label_of before kind i
  count_is One there i inside = refl
  count_is (Start u) there i inside = refl
  count_is (Times a b) there i inside =
      ap₂ (λ m n. m + n) (sym (so_far.counts a i there.0 inside)) (sym (so_far.counts b i there.1 inside))

  pub none_counted : (kind : Kind) → IsThere units (length before) kind → (i : ℕ) → units ≤ i
      → label_of before kind i ≡ 0
  none_counted One there i past = refl
  none_counted (Start u) there i past = ap (λ b. cond b 1 0) (ne_eqb i u (λ e. absurd (omega (arith, e, past, there))))
  none_counted (Times a b) there i past = omega (arith, so_far.others a i past, so_far.others b i past)

  module _ (step : Step) {targets row : List ℕ} (counts : targets ≡ map unit_parts plan.units)
      (there : IsThere units (length before) step.kind) (is_row : IsRow labels units step.kind targets row) where
    pub passes_now : length step.cells ≡ plan.cells → mass_low step.cells ≤ one
        → IsTested plan before step.kind step.cells → Passes plan before step
    passes_now cells mass tested = record {
      there = there;
      cells = cells;
      label = λ i. elim (cases_lt i units) [
        | inl inside ↦ omega (
          arith,
          is_row.counts i inside,
          count_is step.kind there i inside,
          is_row.within i inside,
          ap (λ l. get_or l i 0) counts,
        )
        | inr past ↦ omega (arith, none_counted step.kind there i past)
      ];
      mass = mass;
      low = tested.low_ends;
      high = tested.high_ends;
    }

    module _ (offset : ℕ) (inside : offset ≤ length text) (spelled : IsStep (line_from text offset) step)
        (many : length step.cells ≡ plan.cells) (grid : IsGrid step.cells) where
      abbrev more : List Made
      more = before ++ made_by before step ∷ []

      earlier : (k : ℕ) → k < length before → made_at more k ≡ made_at before k
      earlier k near = get_or_append_left before (made_by before step ∷ []) _ k near

      last : made_at more (length before) ≡ made_by before step
      last = get_or-append_seam before (made_by before step) [] _

      by_offset : (P : ℕ → Type 0) → ((k : ℕ) → k < length before → P k) → P (length before) → (k : ℕ)
          → k < length more → P k
      by_offset P early now k near = elim (cases_lt k (length before)) [
        | inl h ↦ early k h
        | inr h ↦ subst P (omega (arith, near, h, length-append before (made_by before step ∷ []))) now
      ]

      before_row : (k i : ℕ) → k < length before → i < units → k * units + i < length labels
      before_row k i near small =
          let all : (k + 1) * units ≤ length before * units = mul-le-mul_right units (omega (arith, near)) in
          omega (arith, all, small, so_far.long)

      pub keeps_more : HavePassed plan text (offsets ++ offset ∷ []) (labels ++ row) more
      keeps_more = record {
        many = length-append offsets (offset ∷ []) ∙ ap (λ n. n + 1) so_far.many
            ∙ sym (length-append before (made_by before step ∷ []));
        long =
            let a = length-append labels row in
            let b = length-append before (made_by before step ∷ []) in
            a ∙ ap₂ (λ m n. m + n) so_far.long is_row.long ∙ omega arith ∙ ap (λ n. n * units) (sym b);
        steps_at = by_offset (λ k. IsStepAt plan text (get_or (offsets ++ offset ∷ []) k 0) (made_at more k))
            (λ k near. subst₂ (IsStepAt plan text)
            (sym (get_or_append_left offsets (offset ∷ []) 0 k (omega (arith, near, so_far.many)))) (sym (earlier k near))
            (so_far.steps_at k near)) (subst₂ (IsStepAt plan text)
            (sym (ap (λ k. get_or (offsets ++ offset ∷ []) k 0) (sym so_far.many) ∙ get_or-append_seam offsets offset [] 0))
            (sym last) (record {
              inside = inside;
              kind = step.kind;
              spelled = spelled;
              cells = many;
              grid = grid;
            }));
        counts = λ k i near small. by_offset
            (λ k. (made_at more k).label i ≡ label_at (labels ++ row) units k i)
            (λ k close. ap (λ (m : Made). m.label i) (earlier k close) ∙ so_far.counts k i close small
            ∙ sym (get_or_append_left labels row 0 (k * units + i) (before_row k i close small)))
            (ap (λ (m : Made). m.label i) last ∙ sym (count_is step.kind there i small) ∙ sym (is_row.counts i small)
            ∙ sym (get_or-append-add labels row i 0) ∙ ap (λ n. get_or (labels ++ row) (n + i) 0) so_far.long) k near;
        others = λ k i past. elim (cases_lt k (length more)) [
          | inl near ↦ by_offset (λ k. (made_at more k).label i ≡ 0)
              (λ k close. ap (λ (m : Made). m.label i) (earlier k close) ∙ so_far.others k i past)
              (ap (λ (m : Made). m.label i) last ∙ none_counted step.kind there i past) k near
          | inr far ↦ ap (λ (m : Made). m.label i) (get_or_past more k _ far)
        ];
      }

-- ---- lists of steps

steps_many : (lines : List (List ℕ)) (steps : List Step) → AreSteps lines steps → length lines ≡ length steps
unfolding AreSteps
steps_many [] [] h = refl
steps_many [] (s ∷ ss) h = absurd h
steps_many (l ∷ ls) [] h = absurd h
steps_many (l ∷ ls) (s ∷ ss) h = ap suc (steps_many ls ss h.1)

pub steps_more : (lines : List (List ℕ)) (steps : List Step) (line : List ℕ) (step : Step) → AreSteps lines steps
    → IsStep line step → AreSteps (lines ++ line ∷ []) (steps ++ step ∷ [])
unfolding AreSteps
steps_more [] [] line step h now = (now, tt)
steps_more [] (s ∷ ss) line step h now = absurd h
steps_more (l ∷ ls) [] line step h now = absurd h
steps_more (l ∷ ls) (s ∷ ss) line step h now = (h.0, steps_more ls ss line step h.1 now)

pub made_many : (before : List Made) (steps : List Step) → length (made_after before steps) ≡ length before + length steps
made_many before [] = omega arith
made_many before (s ∷ ss) =
    made_many (before ++ made_by before s ∷ []) ss
    ∙ ap (λ n. n + length ss) (length-append before (made_by before s ∷ [])) ∙ omega arith

pub made_more : (before : List Made) (steps : List Step) (step : Step)
    → made_after before (steps ++ step ∷ []) ≡ made_after before steps ++ made_by (made_after before steps) step ∷ []
made_more before [] step = refl
made_more before (s ∷ ss) step = made_more (before ++ made_by before s ∷ []) ss step

pub pass_more : (plan : Plan) (before : List Made) (steps : List Step) (step : Step) → AllPass plan before steps
    → Passes plan (made_after before steps) step → AllPass plan before (steps ++ step ∷ [])
pass_more plan before [] step h now = (now, tt)
pass_more plan before (s ∷ ss) step h now = (h.0, pass_more plan (before ++ made_by before s ∷ []) ss step h.1 now)

module _ {plan : Plan} {text offsets labels : List ℕ} {offset : ℕ} (passed : HasPassedTo plan text offset offsets labels) where
  abbrev made : List Made
  made = made_after [] passed.steps

  pub counted : length offsets ≡ length passed.lines
  counted = passed.so_far.many ∙ made_many [] passed.steps ∙ nothing (length passed.steps)
      ∙ sym (steps_many passed.lines passed.steps passed.spelled)
    where
      nothing : (n : ℕ) → 0 + n ≡ n
      nothing n = omega arith

  -- the line at the place is the first bad one
  pub bad_line : offset < length text → IsBadLine plan made (line_from text offset) → IsBadStep plan text (length offsets)
  bad_line inside bad =
      let n = next_there text offset inside in
      let line = line_from text offset in
      let all : lines_of text ≡ passed.lines ++ line ∷ lines_of (drop n.0 text) =
      passed.split ∙ ap (λ l. passed.lines ++ l) n.1 in
      record {
        steps = passed.steps;
        spelled = rw (counted, all, take-append_seam passed.lines (line ∷ lines_of (drop n.0 text))) passed.spelled;
        pass = passed.pass;
        bad = inl (
          omega (arith, counted, ap length all, length-append passed.lines (line ∷ lines_of (drop n.0 text))),
          rw (all, counted, get_or-append_seam passed.lines line (lines_of (drop n.0 text)) []) bad,
        );
      }

  -- one line more has passed
  pub line_passes : {next : ℕ} (step : Step) {offsets' labels' : List ℕ}
      → lines_of (drop offset text) ≡ line_from text offset ∷ lines_of (drop next text)
      → IsStep (line_from text offset) step → Passes plan made step
      → HavePassed plan text offsets' labels' (made ++ made_by made step ∷ []) → HasPassedTo plan text next offsets' labels'
  line_passes {next} step split spelled pass so_far = record {
    lines = passed.lines ++ line_from text offset ∷ [];
    steps = passed.steps ++ step ∷ [];
    split = passed.split ∙ ap (λ l. passed.lines ++ l) split
        ∙ sym (append_assoc passed.lines (line_from text offset ∷ []) (lines_of (drop next text)));
    spelled = steps_more passed.lines passed.steps (line_from text offset) step passed.spelled spelled;
    pass = pass_more plan [] passed.steps step passed.pass pass;
    so_far = rw (made_more [] passed.steps step) so_far;
  }

pub misread : (plan : Plan) (before : List Made) (line : List ℕ)
    → ((step : Step) → IsStep line step → length step.cells ≢ plan.cells) → IsBadLine plan before line
misread plan before line none step spelled p = none step spelled p.cells

pub not_passing : (plan : Plan) (before : List Made) (line : List ℕ) (step : Step) → IsStep line step
    → ¬ Passes plan before step → IsBadLine plan before line
not_passing plan before line step spelled fails other is p = fails (subst (Passes plan before) (step_is is spelled) p)

-- cells that pass are a grid
pub grid_now : (n : ℕ) (cells : List (Iv 56)) → 1 ≤ n → n ≤ most_cert_cells → length cells ≡ n
    → All (λ cell. cell.hi ≤ 2 ^ 56) cells → mass_low cells ≤ one → IsGrid cells
unfolding most_cells_at
grid_now n cells some few many small mass = record {
  some = omega (arith, many, some);
  few = omega (arith, many, few);
  small = small;
  mass = mass;
}
