-- The units of a plan, one after another.
use Rattle.dl_rules.proofs.Common.{Bool, true, false, list_any, map, if◌then◌else◌, IfSome, ◌≡◌, ◌∙◌, ℕ, ◌+◌, ◌<◌, ◌≤◌, List, [], ◌∷◌, ◌++◌, take, length, get_or, Option, Some, None, refl, sym, ap, subst, arith, bytes_eq, All, Ok, Err, CheckFault, Typing, OutOfMemory, AnswersUnit, AnswersUnits, All-nil, All-cons, All-head, All-tail, most_total_at, most_units, Fraction, whole, ◌<ℚ◌, Settings, IsValidUnit, UnitAst, ◌else◌, in_turn, Span, cells_asked, first_fault_of, first_fault, breaks, duplicate_name, too_many_units, IsSet, Program, IsWellFormed, Plan, else_first, not_at, never, both_ways, ◌≢◌, AllZip, AllPairs, take_all, bytes_eq-Decides, IsCheckOf, NoneTurned, turn_passed, turn_ended, All-append, UnitOfPlan, HasCommonFactor, IsUnitOn, IsUnitWith, IsUnitOf, IsSharedShape, common_unit, fault_with, fault_of_port, most_asked, fault_of_text, fault_of_mixture, fault_of_severity, StopsAt, HasFault, AnswersGrid, AnswersWith, named, mixture_of, body_span, TypeFault, GridUnit, fault_on_grid, names_of, grid_of, flaws_of, repeated, from_map, MixAst, PortHead, SevDef, IsFormedMixture, IsFormedBody, IsFormedDefinition, Result, IfOk, inl, inr, slice_get_cases, bounds_asked, whole_means, all_pairs_push, all_zipped_more, AllZip-long, fault_of_total, SevBody, Mixture, Ref}
use Rattle.dl_rules.specs.declared.rule.Rule.TheVariants as rules
use Rattle.dl_rules.proofs.Naming.{one_more}
use Rattle.dl_rules.proofs.OnePlan.{map_alike}
use Rattle.dl_rules.proofs.RuleLists.{both}
use Rattle.dl_rules.proofs.ProgramSizes.{total_kept}
use Rattle.dl_rules.proofs.Stops.{skip, stop_first, stop_second}

-- the first i units break no rule, and have these units in the plan
pub record Planned (settings : Settings) (port : Option PortHead) (sevs : List SevDef) (units : List UnitAst) (i : ℕ) (made : List UnitOfPlan) : Type 0 where
  pub turned : NoneTurned (first_fault_of settings port sevs) units i
  pub meant : AllZip (IsUnitOf settings.bs sevs) (take i units) made
  pub valid : All (IsValidUnit (cells_asked settings)) made
  pub apart : AllPairs (λ u v. u.name ≢ v.name) made

-- ---- one more

-- a name that is not among those of the text is not among those of the plan
other_names : (bs : Fraction) (sevs : List SevDef) (us : List UnitAst) (u : UnitAst) (ms : List UnitOfPlan)
    → AllZip (IsUnitOf bs sevs) us ms → duplicate_name us u ≡ None → All (λ (m : UnitOfPlan). m.name ≢ u.name.text) ms
unfolding duplicate_name
other_names bs sevs us u ms h e =
    let same : map (λ (v : UnitAst). v.name.text) us ≡ map (λ (m : UnitOfPlan). m.name) ms =
    map_alike (IsUnitOf bs sevs) (λ v. v.name.text) (λ m. m.name) (λ v m is. sym is.unit.name) us ms h in
    let none : list_any (bytes_eq u.name.text) (map (λ (m : UnitOfPlan). m.name) ms) ≡ false =
    rw same at (not_at _ u.name.span e) in
    from_map (λ name. name ≢ u.name.text) (λ (m : UnitOfPlan). m.name) ms (λ k d h same. both_ways _
    (never (bytes_eq u.name.text) _ none k d h) ((bytes_eq-Decides u.name.text _).1 (sym same)))

no_duplicate_with : (settings : Settings) (before : List UnitAst) (u : UnitAst) (o : Option MixAst)
    → fault_of_mixture settings before u o ≡ None → duplicate_name before u ≡ None
unfolding fault_with
no_duplicate_with settings before u None e = absurd cc
no_duplicate_with settings before u (Some m) e =
    (both (length before) rules.DuplicateName (duplicate_name before u) _ e).0

no_duplicate : (settings : Settings) (port : Option PortHead) (sevs : List SevDef) (before : List UnitAst) (u : UnitAst)
    → first_fault_of settings port sevs before u ≡ None → duplicate_name before u ≡ None
unfolding first_fault_of
no_duplicate settings port sevs before u e =
    let o = mixture_of sevs u.sev.body in
    no_duplicate_with settings before u o (else_first (fault_of_mixture settings before u o) _ e)

module _ (settings : Settings) (port : Option PortHead) (sevs : List SevDef) (units : List UnitAst) (i : ℕ) (u : UnitAst) (made : List UnitOfPlan) where
  pub planned_more : (m : UnitOfPlan) → Planned settings port sevs units i made → i < length units → u ≡ get_or units i u
      → (first_fault_of settings port sevs (take i units) u ≡ None) × IsUnitOf settings.bs sevs u m
      × IsValidUnit (cells_asked settings) m → Planned settings port sevs units (i + 1) (made ++ m ∷ [])
  planned_more m before lt is told =
      let others = other_names settings.bs sevs (take i units) u made before.meant
      (no_duplicate settings port sevs (take i units) u told.0) in
      record {
        turned = turn_passed (first_fault_of settings port sevs) units i u before.turned lt is (sym told.0);
        meant = subst (λ us. AllZip (IsUnitOf settings.bs sevs) us (made ++ m ∷ [])) (sym (one_more units i u lt is))
            (all_zipped_more (IsUnitOf settings.bs sevs) (take i units) made u m before.meant told.1);
        valid = All-append (IsValidUnit (cells_asked settings)) made (m ∷ []) before.valid
            (All-cons (IsValidUnit (cells_asked settings)) m [] told.2 (All-nil (IsValidUnit (cells_asked settings))));
        apart = all_pairs_push (λ (v w : UnitOfPlan). v.name ≢ w.name) made m before.apart
            (λ k d h e. others k d h (e ∙ told.1.unit.name));
      }

pub planned_all : (settings : Settings) (port : Option PortHead) (sevs : List SevDef) (units : List UnitAst) (i : ℕ) (made : List UnitOfPlan)
    → Planned settings port sevs units i made → length units ≤ i → AnswersUnits settings port sevs units (Ok made)
planned_all settings port sevs units i made before le = (
  sym (turn_ended (first_fault_of settings port sevs) units i before.turned le),
  subst (λ us. AllZip (IsUnitOf settings.bs sevs) us made) (take_all i units le) before.meant,
  before.valid,
  before.apart,
)

-- ---- the program

pub few_units : (most : ℕ) (units : List UnitAst) → too_many_units most units ≡ None → length units ≤ most
unfolding too_many_units
few_units most units e = elim (slice_get_cases units most).1 [
  | inl (u, lt, there, is) ↦ absurd (cc (rw there at e))
  | inr past ↦ past.0
]

-- the mixture that a severity is, is well formed
pub formed_named : (sevs : List SevDef) (name : List ℕ) → All IsFormedDefinition sevs
    → IfSome (named sevs name) IsFormedMixture
unfolding named
formed_named [] name h = tt
formed_named (d ∷ ds) name h = here (bytes_eq d.name.text name)
    (formed_named ds name (All-tail IsFormedDefinition d ds h))
  where
    here : (t : Bool) → IfSome (named ds name) IsFormedMixture
        → IfSome (if t then Some d.mix else named ds name) IsFormedMixture
    here true rest = (All-head IsFormedDefinition d ds h).mix
    here false rest = rest

pub formed_mixture : (sevs : List SevDef) (body : SevBody) → All IsFormedDefinition sevs → IsFormedBody body
    → IfSome (mixture_of sevs body) IsFormedMixture
unfolding mixture_of
formed_mixture sevs (Mixture m) h f = f
formed_mixture sevs (Ref n) h f = formed_named sevs n.text h

-- the rule on the name of a unit, by the names before it
pub name_rule : (before : List UnitAst) (u : UnitAst) (names : List (List ℕ)) → names ≡ names_of before
    → breaks (length before) rules.DuplicateName (repeated names u.name)
    ≡ breaks (length before) rules.DuplicateName (duplicate_name before u)
unfolding duplicate_name
name_rule before u names same = ap (λ ns. breaks (length before) rules.DuplicateName (repeated ns u.name)) same

-- what is told of the unit in whole buckets is told of it, where its name and its text break no rule
pub answer_on_grid : (settings : Settings) (before : List UnitAst) (u : UnitAst) (m : MixAst) (g : GridUnit)
    → g ≡ grid_of settings.bs u m → breaks (length before) rules.DuplicateName (duplicate_name before u) ≡ None
    → fault_of_text (length before) (flaws_of (bounds_asked settings) (most_asked settings) settings.bs u m) ≡ None
    → (r : Result UnitOfPlan CheckFault) → AnswersGrid settings (length before) u.name.text g r
    → AnswersWith settings before u m r
unfolding fault_with
answer_on_grid settings before u m g same fresh clean (Ok made) (none, is, valid) = (
  skip (breaks (length before) rules.DuplicateName (duplicate_name before u)) _ fresh
      ∙ skip (fault_of_text (length before) (flaws_of (bounds_asked settings) (most_asked settings) settings.bs u m)) _ clean
      ∙ ap (fault_on_grid settings (length before)) (sym same) ∙ none,
  subst (λ x. IsUnitOn settings.bs u.name.text x made) same is,
  valid,
)
answer_on_grid settings before u m g same fresh clean (Err stop) told =
    stop_second (breaks (length before) rules.DuplicateName (duplicate_name before u)) _ stop fresh
    (stop_second (fault_of_text (length before) (flaws_of (bounds_asked settings) (most_asked settings) settings.bs u m)) _ stop clean
    (subst (λ x. StopsAt (fault_on_grid settings (length before) x) stop) same told))

-- what is told of a unit with its mixture is told of it with the named severities, where it can stand in the portfolio
module _ (settings : Settings) (port : Option PortHead) (sevs : List SevDef) (before : List UnitAst) (u : UnitAst) where
  abbrev shared : Option TypeFault
  shared = breaks (length before) rules.CommonUnit (common_unit port u)

  pub answer_stopped : (m : MixAst) (stop : CheckFault) → mixture_of sevs u.sev.body ≡ Some m
      → AnswersWith settings before u m (Err stop) → AnswersUnit settings port sevs before u (Err stop)
  unfolding first_fault_of
  answer_stopped m stop e told = stop_first _ shared stop (rw e told)

  pub answer_with : (m : MixAst) (made : UnitOfPlan) (r : Result UnitOfPlan CheckFault)
      → mixture_of sevs u.sev.body ≡ Some m → AnswersWith settings before u m (Ok made) → HasFault shared r
      → IfOk r (λ x. x ≡ made) → AnswersUnit settings port sevs before u r
  unfolding first_fault_of
  answer_with m made (Ok x) e (none, unit, valid) told same = (
    ap (λ o. o else shared) (ap (fault_of_mixture settings before u) e ∙ none) ∙ told,
    record { mix = m; named = e; unit = subst (IsUnitWith settings.bs u m) (sym same) unit },
    subst (IsValidUnit (cells_asked settings)) (sym same) valid,
  )
  answer_with m made (Err stop) e (none, unit, valid) told same =
      stop_second _ shared stop (ap (fault_of_mixture settings before u) e ∙ none) told

  pub answer_unknown : mixture_of sevs u.sev.body ≡ None → first_fault_of settings port sevs before u ≡ Some (record {
    unit = length before;
    rule = rules.UnknownSeverity;
    span = body_span u.sev.body;
  })
  unfolding first_fault_of
  answer_unknown e = ap (λ o. o else shared) (ap (fault_of_mixture settings before u) e)

-- ---- the whole

module _ (program : Program) (settings : Settings) where
  abbrev names : Option TypeFault
  names = in_turn fault_of_severity [] program.sevs

  pub check_stopped : (stop : CheckFault) → StopsAt (first_fault program settings) stop → IsCheckOf program settings (Err stop)
  check_stopped (Typing f) told = told
  check_stopped OutOfMemory told = tt

  pub fault_of_many : (span : Span) → too_many_units (bounds_asked settings).units program.units ≡ Some span
      → first_fault program settings ≡ Some (record { unit = (bounds_asked settings).units; rule = rules.TooManyUnits; span = span })
  unfolding first_fault
  fault_of_many span e = rw e refl

  module _ (few : too_many_units (bounds_asked settings).units program.units ≡ None) where
    pub fault_of_names : (stop : CheckFault) → StopsAt names stop → IsCheckOf program settings (Err stop)
    unfolding first_fault
    fault_of_names stop told = check_stopped stop (rw few (stop_first names _ stop told))

    pub fault_of_units : (stop : CheckFault) → names ≡ None
        → AnswersUnits settings program.port program.sevs program.units (Err stop) → IsCheckOf program settings (Err stop)
    unfolding first_fault
    fault_of_units stop fresh told = check_stopped stop (rw (few, fresh) (stop_first
        (in_turn (first_fault_of settings program.port program.sevs) [] program.units) _ stop told))

    pub fault_of_rest : (made : List UnitOfPlan) → names ≡ None
        → AnswersUnits settings program.port program.sevs program.units (Ok made)
        → first_fault program settings ≡ (fault_of_port settings program else fault_of_total settings program)
    unfolding first_fault
    fault_of_rest made fresh told = rw (few, fresh, told.0) refl

  pub plan_of_units : (plan : Plan) → plan.bs ≡ settings.bs → plan.cells ≡ cells_asked settings
      → IsSharedShape program.port plan.common → IfSome plan.common (λ r. HasCommonFactor r plan.units) → IsSet settings
      → IsWellFormed program → length program.units ≤ most_units → too_many_units (bounds_asked settings).units program.units ≡ None → names ≡ None
      → AnswersUnits settings program.port program.sevs program.units (Ok plan.units) → fault_of_port settings program ≡ None
      → fault_of_total settings program ≡ None → IsCheckOf program settings (Ok plan)
  plan_of_units plan bs cells shape factor set formed few none fresh told rest last =
      let as_many : length plan.units ≡ length program.units =
      AllZip-long (IsUnitOf settings.bs program.sevs) program.units plan.units told.1 in
      let total = total_kept settings program plan.units told formed last in (
        fault_of_rest none plan.units fresh told ∙ skip (fault_of_port settings program) _ rest ∙ last,
        record { bucket = bs; cells = cells; units = told.1; common = shape },
        record {
          bucket = subst (λ x. whole 0 <ℚ x) (sym bs) set.bucket.above;
          cells = (settings.log2, set.some, set.few, cells);
          some = omega (arith, as_many, formed.some);
          few = omega (arith, as_many, few);
          changed = total.0;
          means = subst (λ n. whole_means plan.units ≤ most_total_at n) (sym cells) total.1;
          names = told.3;
          units = subst (λ n. All (IsValidUnit n) plan.units) (sym cells) told.2;
          common = factor;
        },
      )
