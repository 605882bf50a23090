-- The test of a step's cells, by the kind of the step.
use Rattle.dl_cert.proofs.Common.{ℕ, ◌≡◌, ◌⊎◌, ◌<◌, ◌≤◌, ◌∙◌, sym, ap, subst, arith, List, length, get_or, map, ◌↔◌, get_or-map, Iv, low_at, high_at, IsConvolution, Plan, UnitOfPlan, thinned_mean, Base, Kind, Start, Times, low_base, high_base, IsBaseOf, AreStarts, PassesTo, HavePassed, IsStep, one, low_number, high_number, low_start, high_start, line_from, Step, Made, made_at, unit_parts, target}
use Rattle.dl_cert.proofs.Readings.{step_is}

-- the cells pass beside the numbers of a step
abbrev pub IsTested : Plan → List Made → Kind → List (Iv 56) → Type 0
IsTested plan before kind cells = PassesTo plan.cells cells (low_number plan.units before kind (low_at cells))
    (high_number plan.units before kind (high_at cells))

passes_same : (n : ℕ) (cells : List (Iv 56)) (lo hi lo' hi' : ℕ → ℕ) → ((y : ℕ) → y < n → lo y ≡ lo' y)
    → ((y : ℕ) → y < n → hi y ≡ hi' y) → PassesTo n cells lo hi → PassesTo n cells lo' hi'
passes_same n cells lo hi lo' hi' low high h = record {
  low_ends = λ y near. omega (arith, h.low_ends y near, low y near);
  high_ends = λ y near. subst (λ m. (m ≤ high_at cells y) ⊎ (one ≤ high_at cells y)) (high y near) (h.high_ends y near);
}

-- what a number of the unit at u is
pub start_is : (units : List UnitOfPlan) (u : ℕ) (unit : UnitOfPlan) → u < length units → unit ≡ get_or units u unit
    → (f : UnitOfPlan → ℕ) → f unit ≡ get_or (map f units) u 0
start_is units u unit inside here f = ap f here ∙ sym (get_or-map f units u unit 0 inside)

module _ (P : Type 0) (plan : Plan) (before : List Made) (cells : List (Iv 56)) (many : length cells ≡ plan.cells) where
  by_numbers : (kind : Kind) (lo hi : ℕ → ℕ) → P ↔ PassesTo (length cells) cells lo hi
      → ((y : ℕ) → y < plan.cells → lo y ≡ low_number plan.units before kind (low_at cells) y)
      → ((y : ℕ) → y < plan.cells → hi y ≡ high_number plan.units before kind (high_at cells) y)
      → P ↔ IsTested plan before kind cells
  by_numbers kind lo hi tested low high =
      let here = rw many at tested in (
        λ p. passes_same plan.cells cells lo hi _ _ low high (here.0 p),
        λ q. here.1 (passes_same plan.cells cells _ _ lo hi (λ y near. sym (low y near)) (λ y near. sym (high y near)) q),
      )

  pub times_tested : {kind : Kind} (a b : ℕ) (left right g : List (Iv 56))
      → P ↔ PassesTo (length cells) cells (low_at g) (high_at g) → kind ≡ Times a b → left ≡ (made_at before a).cells
      → right ≡ (made_at before b).cells → IsConvolution plan.cells left right g → P ↔ IsTested plan before kind cells
  times_tested a b left right g tested is first second product = rw is (by_numbers (Times a b) _ _ tested
      (λ y near. rw (first, second) at (product.low y near)) (λ y near. rw (first, second) at (product.high y near)))

  pub start_tested : {kind : Kind} (u : ℕ) (bases : List Base) (targets : List ℕ) (unit : UnitOfPlan) (base : Base)
      → P ↔ PassesTo (length cells) cells (low_base base unit.sev (low_at cells)) (high_base base unit.sev (high_at cells))
      → kind ≡ Start u → AreStarts plan bases targets → u < length plan.units → 1 ≤ target plan u
      → unit ≡ get_or plan.units u unit → base ≡ get_or bases u base → P ↔ IsTested plan before kind cells
  start_tested u bases targets unit base tested is starts inside counted unit_is base_is =
      let h : IsBaseOf unit base = rw (unit_is, base_is) (starts.each u unit base inside) in
      let same = start_is plan.units u unit inside unit_is in
      let some : 1 ≤ unit_parts unit = omega (arith, counted, same unit_parts) in
      rw is (by_numbers (Start u) _ _ tested
      (λ y near. h.low some (low_at cells) y ∙ same (λ x. low_start x.freq x.sev (thinned_mean x) (low_at cells) y))
      (λ y near. h.high some (high_at cells) y ∙ same (λ x. high_start x.freq x.sev (thinned_mean x) (high_at cells) y)))

-- what is read again at the place of a step are its cells
pub cells_again : {plan : Plan} {text offsets labels : List ℕ} {before : List Made} (k : ℕ) (line : List ℕ) (step : Step)
    → HavePassed plan text offsets labels before → k < length offsets → line ≡ line_from text (get_or offsets k 0)
    → IsStep line step → step.cells ≡ (made_at before k).cells
cells_again {before = before} k line step so_far inside is spelled =
    let p = so_far.steps_at k (omega (arith, inside, so_far.many)) in
    let again : IsStep line (record { kind = p.kind; cells = (made_at before k).cells }) = rw is p.spelled in
    ap (λ (s : Step). s.cells) (step_is spelled again)
