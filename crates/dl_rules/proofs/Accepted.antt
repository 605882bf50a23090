-- A program that breaks no rule has a plan.
use Rattle.dl_rules.proofs.Common.{ℕ, zero, suc, ◌≡◌, ◌∙◌, ◌<◌, ◌≤◌, List, [], ◌∷◌, ◌++◌, length, take, get_or, None, refl, sym, ap, subst, arith, Ok, All, All-nil, Plan, Settings, IsValidUnit, UnitAst, Program, IsWellFormed, in_turn, expected_claims, cells_asked, fault_on_grid, fault_of_port, first_fault_of, first_fault, AnswersUnit, AnswersUnits, aggregate_clause, GridUnit, IsGridUnit, too_many_units, breaks, IsSet, else_first, else_second, clauses_layered, most_amount_at, amount_fits, IsWithin, standard_units, add-one, UnitOfPlan, IsValid, IsFormedUnit, IsFormedMixture, IsFormedDefinition, fault_of_text, fault_of_mixture, fault_of_severity, fault_with, AnswersWith, mixture_of, MixAst, PortHead, SevDef, Option, Some, IfSome, IsPlanOf, common_unit, grid_of, IsClean, flaws_of, turn_start, turn_none, grid_is, within_is, bounds_asked, final_there, fault_of_total}
use Rattle.dl_rules.specs.declared.rule.Rule.TheVariants as rules
use Rattle.dl_rules.proofs.Aggregates.{clause_there}
use Rattle.dl_rules.proofs.PlannedCounts.{count_there}
use Rattle.dl_rules.proofs.UnitFacts.{asked_within, layered_is, fine_agr, fine_sev, kept_is, grid_parts, grid_answer}
use Rattle.dl_rules.proofs.RuleLists.{both}
use Rattle.dl_rules.proofs.Texts.{text_clean}
use Rattle.dl_rules.proofs.FactorKept.{shape_there}
use Rattle.dl_rules.proofs.ProgramSizes.{total_few}
use Rattle.dl_rules.proofs.ProgramUnits.{Planned, planned_more, planned_all, few_units, plan_of_units, formed_mixture, answer_with}

-- ---- a unit

module _ (settings : Settings) (before : List UnitAst) (u : UnitAst) (m : MixAst) (formed : IsFormedUnit u)
    (mixed : IsFormedMixture m) (none : fault_with settings before u m ≡ None) where
  abbrev unit : ℕ
  unit = length before

  abbrev g : GridUnit
  g = grid_of settings.bs u m

  abbrev most : ℕ
  most = most_amount_at (cells_asked settings)

  groups : (fault_of_text unit (flaws_of (bounds_asked settings) most settings.bs u m) ≡ None) × (fault_on_grid settings unit g ≡ None)
  unfolding fault_with
  groups =
      let later = both unit rules.DuplicateName _ _ none in (
        else_first (fault_of_text unit (flaws_of (bounds_asked settings) most settings.bs u m)) _ later.1,
        else_second (fault_of_text unit (flaws_of (bounds_asked settings) most settings.bs u m)) _ later.1,
      )

  clean : IsClean (flaws_of (bounds_asked settings) most settings.bs u m)
  clean = text_clean unit (flaws_of (bounds_asked settings) most settings.bs u m) groups.0

  grid : IsGridUnit g
  grid = grid_is (bounds_asked settings) most settings.bs u m clean (asked_within settings) (amount_fits (cells_asked settings)) formed mixed

  within : IsWithin most g
  within = within_is (bounds_asked settings) most settings.bs u m clean

  there_with : (made : UnitOfPlan) × AnswersWith settings before u m (Ok made)
  there_with =
      let parts = grid_parts settings unit g groups.1 in
      let layered = layered_is unit g grid parts.0 in
      let sev = final_there g (fine_sev (bounds_asked settings) (asked_within settings) settings.bs unit g grid parts.1 layered.0 layered.1) in
      let freq = count_there g.count (expected_claims (bounds_asked settings) settings.bs g) (kept_is (bounds_asked settings) (asked_within settings) settings.bs unit g grid parts.1) in
      let clause = clause_there g.agr (clauses_layered g layered.0).1 (fine_agr (bounds_asked settings) (asked_within settings) settings.bs unit g grid parts.1) in
      let made : UnitOfPlan = record {
        name = u.name.text;
        sev = sev.0;
        freq = freq.0;
        cede = aggregate_clause g.agr;
        zero = g.zero;
      } in
      let answer = grid_answer settings unit g grid within groups.1 u.name.text made refl refl
      (record { means = sev.1; near = sev.2; few = sev.3 }) freq.1 clause in
      (made, (none, answer.1, answer.2))

unit_with : (settings : Settings) (port : Option PortHead) (sevs : List SevDef) (before : List UnitAst) (u : UnitAst)
    (o : Option MixAst) → mixture_of sevs u.sev.body ≡ o → IsFormedUnit u → IfSome o IsFormedMixture
    → fault_of_mixture settings before u o ≡ None → breaks (length before) rules.CommonUnit (common_unit port u) ≡ None
    → (made : UnitOfPlan) × AnswersUnit settings port sevs before u (Ok made)
unit_with settings port sevs before u None e formed mixed none shared = absurd cc
unit_with settings port sevs before u (Some m) e formed mixed none shared =
    let made = there_with settings before u m formed mixed none in
    (made.0, answer_with settings port sevs before u m made.0 (Ok made.0) e made.1 shared refl)

unit_there : (settings : Settings) (port : Option PortHead) (sevs : List SevDef) (before : List UnitAst) (u : UnitAst)
    → All IsFormedDefinition sevs → IsFormedUnit u → first_fault_of settings port sevs before u ≡ None
    → (made : UnitOfPlan) × AnswersUnit settings port sevs before u (Ok made)
unfolding first_fault_of
unit_there settings port sevs before u defined formed none =
    let o = mixture_of sevs u.sev.body in
    unit_with settings port sevs before u o refl formed (formed_mixture sevs u.sev.body defined formed.sev)
    (else_first (fault_of_mixture settings before u o) _ none)
    (else_second (fault_of_mixture settings before u o) _ none)

-- ---- the units in turn

element : {A : Type 0} (xs : List A) (i : ℕ) → i < length xs → (x : A) × (x ≡ get_or xs i x)
element [] i h = absurd (omega (arith, h))
element (x ∷ xs) zero h = (x, refl)
element (x ∷ xs) (suc i) h = element xs i (omega (arith, h))

module _ (settings : Settings) (port : Option PortHead) (sevs : List SevDef) (units : List UnitAst) (defined : All IsFormedDefinition sevs)
    (formed : All IsFormedUnit units) (none : in_turn (first_fault_of settings port sevs) [] units ≡ None) where
  up_to : (i : ℕ) → i ≤ length units → (made : List UnitOfPlan) × Planned settings port sevs units i made
  up_to zero h = (
    [],
    record {
      turned = turn_start (first_fault_of settings port sevs) units;
      meant = tt;
      valid = All-nil (IsValidUnit (cells_asked settings));
      apart = λ i j d p q. absurd (omega (arith, q));
    },
  )
  up_to (suc i) h =
      let lt : i < length units = omega (arith, h) in
      let before = up_to i (omega (arith, h)) in
      let x = element units i lt in
      let keeps = ap (first_fault_of settings port sevs (take i units)) x.1
      ∙ turn_none (first_fault_of settings port sevs) [] units none i x.0 lt in
      let made = unit_there settings port sevs (take i units) x.0 defined (subst IsFormedUnit (sym x.1) (formed i x.0 lt)) keeps in (
        before.0 ++ made.0 ∷ [],
        subst (λ n. Planned settings port sevs units n (before.0 ++ made.0 ∷ [])) (add-one i)
            (planned_more settings port sevs units i x.0 before.0 made.0 before.1 lt x.1 made.1),
      )

  pub units_there : (made : List UnitOfPlan) × AnswersUnits settings port sevs units (Ok made)
  units_there =
      let all = up_to (length units) (omega arith) in
      (all.0, planned_all settings port sevs units (length units) all.0 all.1 (omega arith))

-- ---- the program

pub accepted : (program : Program) (settings : Settings) → IsWellFormed program → IsSet settings
    → first_fault program settings ≡ None → (plan : Plan) × IsPlanOf program settings plan × IsValid plan
unfolding first_fault
accepted program settings formed set none =
    let bounds = bounds_asked settings in
    let many = both bounds.units rules.TooManyUnits (too_many_units bounds.units program.units) _ none in
    let names = else_first (in_turn fault_of_severity [] program.sevs) _ many.1 in
    let later = else_second (in_turn fault_of_severity [] program.sevs) _ many.1 in
    let each = else_first (in_turn (first_fault_of settings program.port program.sevs) [] program.units) _ later in
    let rest = else_second (in_turn (first_fault_of settings program.port program.sevs) [] program.units) _ later in
    let yet = else_first (fault_of_port settings program) _ rest in
    let last = else_second (fault_of_port settings program) _ rest in
    let units = units_there settings program.port program.sevs program.units formed.sevs formed.units each in
    let shape = shape_there settings program units.0 units.1 yet in
    let plan : Plan = record { bs = settings.bs; cells = cells_asked settings; units = units.0; common = shape.0 } in
    let answer = plan_of_units program settings plan refl refl shape.1 shape.2 set formed
    (omega (arith, few_units bounds.units program.units many.0, (asked_within settings).units)) many.0 names units.1 yet last in
    (plan, answer.1, answer.2)

-- at most 16 units that break no rule of their own are not too large all together
pub few_accepted : (program : Program) (settings : Settings) → IsWellFormed program → length program.units ≤ standard_units
    → in_turn (first_fault_of settings program.port program.sevs) [] program.units ≡ None → fault_of_total settings program ≡ None
few_accepted program settings formed few none =
    let units = units_there settings program.port program.sevs program.units formed.sevs formed.units none in
    total_few settings program units.0 units.1 few
