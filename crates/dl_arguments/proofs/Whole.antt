-- What `clap` makes of any words, by their parts.
use Rattle.dl_arguments.proofs.Common.{◌≡◌, ◌∙◌, inl, inr, ℕ, Bool, true, false, refl, sym, ap, ap₂, subst, List, [], ◌∷◌, Option, Some, None, codes, true≢false, length, arith, ◌≤◌, if◌then◌else◌, is_some, unwrap_or, ⊤, fold, bytes_eq, bytes_eq-Decides, cases_Bool, Kinds, or_else, Row, Rule, action_of, all_of, arg_by_id, arg_by_index, arg_by_long, arg_by_short, walk, walk_from, is_given, Shape, built, is_simple, is_simple_and_free, matches_of, repeat_fault, fault_of, settle_fault, command, Text, Part, is_name, positionals_of, option_values, option, positional, between, nat_tests, common_steps, IfSome, both_ways, unwrap_or_range, Held, is_append, most_values, next_position, nothing_held, takes_several, takes_values, with_default, ArgAction, Set, entered, new_rule, slice_index_or, check_fault, default_fault, defaults_fault, entered_fault, level_fault, long_fault, short_fault, walk_fault}
use Rattle.std.specs.Prelude.{take, drop}
use Rattle.dl_arguments.proofs.Reading.{clap_from}
use Rattle.dl_arguments.proofs.Simulation.{AllNamed, Fails, fails_first, fails_next, IsPlace, IsReady, LongMet, Outcome, TakesOne, Use, Walks, does, faults, no_long, or_else-assoc, or_else-nil, outcome, position_of, sim, takes_long, uses_of}
use Rattle.dl_arguments.proofs.RowLemmas.{AllKept, IsSingle, Kept, at_most_once, both_empty, gathered, given_told, kept_all, kept_once, more, twice, values_in}

-- what `clap` builds of the command
abbrev pub shape : Shape
shape = (built command).top

pub simple_command_is : is_simple_and_free command ≡ true
simple_command_is = refl

pub simple_is : is_simple command ≡ true
simple_is = refl

abbrev pub place : Bool → Text
place true = codes "form"
place false = codes "asks"

-- the built arguments, by their place in the command
abbrev pub rule_at : ℕ → Rule
rule_at k = slice_index_or shape.rules k (new_rule [])

-- ---- the names of the options

-- a name is this one, or another
split : (P : Text → Type 0) (name k : Text) → P k → (bytes_eq k name ≡ false → P name) → P name
split P name k here other = elim (cases_Bool (bytes_eq k name)) [
  | inl e ↦ subst P ((bytes_eq-Decides k name).0 e) here
  | inr e ↦ other e
]

-- what holds of each name, and of what is none and has no argument before the ninth, holds of all
each_name : (P : Text → Type 0) → P (codes "make") → P (codes "bs") → P (codes "log2") → P (codes "digits")
    → P (codes "width") → P (codes "mwidth") → P (codes "format") → P (codes "rules") → (name : Text)
    → (is_name name ≡ false → arg_by_long shape.rules name ≡ arg_by_long (rule_at 10 ∷ []) name → P name) → P name
each_name P make bs log2 digits width mwidth format rules name other =
    split P name (codes "make") make (λ e0. split P name (codes "bs") bs
    (λ e1. split P name (codes "log2") log2 (λ e2. split P name (codes "digits") digits
    (λ e3. split P name (codes "width") width (λ e4. split P name (codes "mwidth") mwidth
    (λ e5. split P name (codes "format") format (λ e6. split P name (codes "rules") rules
    (λ e7. other (rw (e0, e1, e2, e3, e4, e5, e6, e7) refl) (rw (e0, e1, e2, e3, e4, e5, e6, e7) refl)))))))))

-- what holds of each name holds of a name
pub by_name : (P : Text → Type 0) → P (codes "make") → P (codes "bs") → P (codes "log2") → P (codes "digits")
    → P (codes "width") → P (codes "mwidth") → P (codes "format") → P (codes "rules") → (name : Text)
    → is_name name ≡ true → P name
by_name P make bs log2 digits width mwidth format rules name h =
    each_name P make bs log2 digits width mwidth format rules name (λ n _. absurd (both_ways _ n h))

-- ---- the command is one that the walk's lemmas cover

takes_literal : (name : Text) (a : Rule) → arg_by_id shape.rules name ≡ Some a → a.id ≡ name → takes_values a ≡ true
    → takes_several a ≡ false → most_values a ≡ 1 → (unwrap_or_range a.range).start_inclusive ≡ 1 → TakesOne shape name a
takes_literal name a found same takes single most least = grind arith

-- `--help` always fails
help_fails : (v : Option Text) (h : Held) → Fails (long_fault shape.rules false (Some (rule_at 10)) v h)
help_fails (Some v) h = tt
help_fails None h = fails_next (settle_fault shape.rules false h) _ tt

long_met : (name : Text) → LongMet shape name
long_met name = each_name (LongMet shape)
    (takes_long (rule_at 2) refl refl (takes_literal (codes "make") (rule_at 2) refl refl refl refl refl refl))
    (takes_long (rule_at 3) refl refl (takes_literal (codes "bs") (rule_at 3) refl refl refl refl refl refl))
    (takes_long (rule_at 4) refl refl (takes_literal (codes "log2") (rule_at 4) refl refl refl refl refl refl))
    (takes_long (rule_at 5) refl refl (takes_literal (codes "digits") (rule_at 5) refl refl refl refl refl refl))
    (takes_long (rule_at 6) refl refl (takes_literal (codes "width") (rule_at 6) refl refl refl refl refl refl))
    (takes_long (rule_at 7) refl refl (takes_literal (codes "mwidth") (rule_at 7) refl refl refl refl refl refl))
    (takes_long (rule_at 8) refl refl (takes_literal (codes "format") (rule_at 8) refl refl refl refl refl refl))
    (takes_long (rule_at 9) refl refl (takes_literal (codes "rules") (rule_at 9) refl refl refl refl refl refl))
    name (λ n same. elim (cases_Bool (bytes_eq (codes "help") name)) [
      | inl e ↦ no_long n (λ v h. rw (same, e) (help_fails v h))
      | inr e ↦ no_long n (λ v h. rw (same, e) tt)
    ])

short_met : (c : ℕ) (rest : Text) (h : Held) (next : Held → Kinds)
    → Fails (short_fault shape.rules false (arg_by_short shape.rules c) rest h next)
short_met c rest h next = grind (arith, fails_first, fails_next)

pub ready : IsReady shape place
ready = record { once = refl; long = long_met; short = short_met; places = place_met }
  where
    placed : (id : Text) (position : ℕ) (rule : Rule) → arg_by_index shape.rules position ≡ Some rule
        → TakesOne shape id rule → next_position rule position ≡ 2 → rule.trailing_var_arg ≡ false
        → IsPlace shape id position
    placed id position rule at takes next goes_on = grind (arith, nat_tests, common_steps)

    place_met : (first : Bool) → IsPlace shape (place first) (position_of first)
    place_met true = placed (codes "form") 1 (rule_at 0) refl
        (takes_literal (codes "form") (rule_at 0) refl refl refl refl refl refl) refl refl
    place_met false = placed (codes "asks") 2 (rule_at 1) refl
        (takes_literal (codes "asks") (rule_at 1) refl refl refl refl refl refl) refl refl

-- ---- the fault and the matches are the walk's

abbrev pub NoDefaults : List Rule → Type 0
NoDefaults [] = ⊤
NoDefaults (a ∷ rest) = (a.defaults ≡ []) × NoDefaults rest

no_default : (a : Rule) (rows : List Row) → a.defaults ≡ [] → (with_default rows a ≡ rows) × (default_fault rows a ≡ [])
no_default a rows e = grind arith

no_defaults : (rules : List Rule) (rows : List Row) → NoDefaults rules
    → (fold with_default rows rules ≡ rows) × (defaults_fault rows rules ≡ [])
unfolding defaults_fault
no_defaults [] rows h = (refl, refl)
no_defaults (a ∷ rest) rows h = let one = no_default a rows h.0 in rw (one.0, one.1) (no_defaults rest rows h.1)

literal : NoDefaults shape.rules
literal = (refl, (refl, (refl, (refl, (refl, (refl, (refl, (refl, (refl, (refl, (refl, tt)))))))))))

abbrev pub walked_to : List Text → Outcome
walked_to words = outcome shape (walk_from nothing_held) words

pub matches_are : (words : List Text) → matches_of command words ≡ (walked_to words).1
matches_are words = (no_defaults shape.rules (walked_to words).1 literal).0

-- the fault of a form that is missing
abbrev pub missing : List Row → Kinds
missing rows = check_fault shape rows false

pub fault_is : (words : List Text) → fault_of command words ≡ or_else (walked_to words).0 (missing (walked_to words).1)
fault_is words = top (walk shape.rules [] nothing_held words).stopped
  where
    inner : level_fault shape [] nothing_held words false [] ≡ or_else (walked_to words).0 (missing (walked_to words).1)
    inner =
        let end = (walk shape.rules [] nothing_held words).held in
        ap₂ (λ d r. or_else (walk_fault shape [] (walk_from nothing_held) words)
        (or_else (settle_fault shape.rules shape.args_override_self end) (or_else d (missing r))))
        (no_defaults shape.rules (walked_to words).1 literal).1 (matches_are words)
        ∙ sym (or_else-assoc (walk_fault shape [] (walk_from nothing_held) words) _ _)

    top : (stop : Option (Text × List Text))
        → level_fault shape [] nothing_held words (is_some (entered (built command) stop)) (entered_fault (built command) stop)
        ≡ or_else (walked_to words).0 (missing (walked_to words).1)
    top None = inner
    top (Some p) = inner

-- ---- what the uses of the parts have

kept_name : (name : Text) → is_name name ≡ true → Kept shape name
kept_name = by_name (Kept shape)
    (kept_once (rule_at 2) refl refl refl (λ v r. or_else-nil (repeat_fault false (codes "make") r)))
    (kept_once (rule_at 3) refl refl refl (λ v r. or_else-nil (repeat_fault false (codes "bs") r)))
    (kept_once (rule_at 4) refl refl refl (λ v r. or_else-nil (repeat_fault false (codes "log2") r)))
    (kept_once (rule_at 5) refl refl refl (λ v r. or_else-nil (repeat_fault false (codes "digits") r)))
    (kept_once (rule_at 6) refl refl refl (λ v r. or_else-nil (repeat_fault false (codes "width") r)))
    (kept_once (rule_at 7) refl refl refl (λ v r. or_else-nil (repeat_fault false (codes "mwidth") r)))
    (kept_once (rule_at 8) refl refl refl (λ v r. or_else-nil (repeat_fault false (codes "format") r)))
    (kept_once (rule_at 9) refl refl refl (λ v r. or_else-nil (repeat_fault false (codes "rules") r)))

kept_place : (first : Bool) → Kept shape (place first)
kept_place true = kept_once (rule_at 0) refl refl refl (λ v r. or_else-nil (repeat_fault false (codes "form") r))
kept_place false = kept_all (rule_at 1) refl refl refl (λ v r. refl)

all_kept : (ps : List Part) (first : Bool) → AllNamed ps → AllKept shape (uses_of place first ps)
all_kept [] first h = tt
all_kept (option n v ∷ ps) first h = (kept_name n h.0, all_kept ps first h.1)
all_kept (positional w ∷ ps) first h = (kept_place first, all_kept ps false h.1)

-- what a name's argument does, whatever argument is taken where there is none
abbrev named_action : Rule → Text → ArgAction
named_action none name = action_of (unwrap_or (arg_by_id shape.rules name) none)

single_name : (name : Text) → is_name name ≡ true → IsSingle shape name
single_name name h = λ a found. ap (λ o. action_of (unwrap_or o a)) (sym found)
    ∙ by_name (λ n. named_action a n ≡ Set) refl refl refl refl refl refl refl refl name h

asks_not_single : IsSingle shape (codes "asks") → ⊥
asks_not_single h = true≢false (ap is_append (h (rule_at 1) refl))

no_place : (first : Bool) (name : Text) → is_name name ≡ true → bytes_eq (place first) name ≡ false
no_place true = by_name (λ n. bytes_eq (codes "form") n ≡ false) refl refl refl refl refl refl refl refl
no_place false = by_name (λ n. bytes_eq (codes "asks") n ≡ false) refl refl refl refl refl refl refl refl

-- a name has the values of its option
named_values : (ps : List Part) (first : Bool) (name : Text) → is_name name ≡ true
    → values_in name (uses_of place first ps) ≡ option_values name ps
named_values [] first name h = refl
named_values (option n v ∷ ps) first name h =
    ap (λ (vs : List Text). if bytes_eq n name then v ∷ vs else vs) (named_values ps first name h)
named_values (positional w ∷ ps) first name h = rw (no_place first name h) (named_values ps false name h)

-- and what is no name has positionals alone: those behind the first if it is the id of the asks
module _ (id : Text) (unnamed : is_name id ≡ false) where
  other_name : (m : Text) → is_name m ≡ true → bytes_eq m id ≡ false
  other_name m h = elim (cases_Bool (bytes_eq m id)) [
    | inl e ↦ absurd (both_ways _ unnamed (subst (λ t. is_name t ≡ true) ((bytes_eq-Decides m id).0 e) h))
    | inr e ↦ e
  ]

  further : (ps : List Part) → AllNamed ps
      → values_in id (uses_of place false ps) ≡ (if bytes_eq (codes "asks") id then positionals_of ps else [])
  further [] h = elim (cases_Bool (bytes_eq (codes "asks") id)) [ inl e ↦ rw e refl | inr e ↦ rw e refl ]
  further (option m v ∷ ps) h = rw (other_name m h.0) (further ps h.1)
  further (positional w ∷ ps) h =
      let rest = further ps h.1 in
      elim (cases_Bool (bytes_eq (codes "asks") id)) [
        | inl e ↦ rw e (ap (λ (ws : List Text). w ∷ ws) (rw e at rest))
        | inr e ↦ rw e (rw e at rest)
      ]

  -- the first positional is the form, and the others are the asks
  abbrev placed : List Text → List Text
  placed [] = []
  placed (w ∷ ws) =
      let asks = if bytes_eq (codes "asks") id then ws else [] in
      if bytes_eq (codes "form") id then w ∷ asks else asks

  all_placed : (ps : List Part) → AllNamed ps → values_in id (uses_of place true ps) ≡ placed (positionals_of ps)
  all_placed [] h = refl
  all_placed (option m v ∷ ps) h = rw (other_name m h.0) (all_placed ps h.1)
  all_placed (positional w ∷ ps) h = rw (further ps h.1) refl

  one_placed : bytes_eq (codes "asks") id ≡ false → (ws : List Text) → length (placed ws) ≤ 1
  one_placed a [] = omega arith
  one_placed a (w ∷ ws) = elim (cases_Bool (bytes_eq (codes "form") id)) [
    | inl e ↦ rw (a, e) (omega arith)
    | inr e ↦ rw (a, e) (omega arith)
  ]

form_placed : (ws : List Text) → placed (codes "form") refl ws ≡ take 1 ws
form_placed [] = refl
form_placed (w ∷ ws) = refl

asks_placed : (ws : List Text) → placed (codes "asks") refl ws ≡ drop 1 ws
asks_placed [] = refl
asks_placed (w ∷ ws) = refl

-- ---- the whole

-- the matches hold the values of the parts
pub record Matched (words : List Text) (ps : List Part) : Type 0 where
  pub parts : clap_from between words ≡ Some ps
  pub once : (name : Text) → is_name name ≡ true → length (option_values name ps) ≤ 1
  pub options : (name : Text) → is_name name ≡ true → all_of name (matches_of command words)
      ≡ more None (option_values name ps)
  pub form : all_of (codes "form") (matches_of command words) ≡ more None (take 1 (positionals_of ps))
  pub asks : all_of (codes "asks") (matches_of command words) ≡ more None (drop 1 (positionals_of ps))

-- no parts, no first positional, or an option that stands twice
pub data Unfit (words : List Text) : Type 0 where
  no_parts : clap_from between words ≡ None → Unfit words
  no_form : (ps : List Part) → clap_from between words ≡ Some ps → positionals_of ps ≡ [] → Unfit words
  stands_twice : (ps : List Part) → clap_from between words ≡ Some ps → (name : Text) → is_name name ≡ true
      → 2 ≤ length (option_values name ps) → Unfit words

pub start_sim : (words : List Text)
    → Walks shape place ready true None [] (walk_from nothing_held) words (clap_from between words)
start_sim words = sim shape place ready words between true false None []

pub clap_named : (words : List Text) → IfSome (clap_from between words) AllNamed
clap_named words = go (clap_from between words) (start_sim words)
  where
    go : (o : Option (List Part)) → Walks shape place ready true None [] (walk_from nothing_held) words o → IfSome o AllNamed
    go None h = tt
    go (Some ps) h = h.1

-- the uses of some parts
module _ (ps : List Part) (named : AllNamed ps) where
  abbrev uses : List Use
  uses = uses_of place true ps

  kept : AllKept shape uses
  kept = all_kept ps true named

  module _ (quiet : faults shape [] uses ≡ []) where
    pub single_once : (name : Text) → is_name name ≡ true → length (option_values name ps) ≤ 1
    single_once name is =
        let n : length (values_in name uses) ≡ length (option_values name ps) = ap length (named_values ps true name is) in
        let few = at_most_once shape uses [] name kept (single_name name is) quiet in omega (arith, n, few)

    all_gathered : (id : Text) (vs : List Text) → values_in id uses ≡ vs → all_of id (does shape [] uses).1 ≡ more None vs
    all_gathered id vs e = gathered shape uses [] id kept quiet ∙ ap (more None) e

    gathered_form : all_of (codes "form") (does shape [] uses).1 ≡ more None (take 1 (positionals_of ps))
    gathered_form = all_gathered (codes "form") _ (all_placed (codes "form") refl ps named ∙ form_placed (positionals_of ps))

    no_words : Fails (missing (does shape [] uses).1) → (ws : List Text) → positionals_of ps ≡ ws → ws ≡ []
    no_words h [] e = refl
    no_words h (w ∷ ws) e =
        let has : all_of (codes "form") (does shape [] uses).1 ≡ Some (w ∷ []) =
        gathered_form ∙ ap (λ ts. more None (take 1 ts)) e in
        let given : is_given (codes "form") (does shape [] uses).1 ≡ true =
        given_told shape (codes "form") uses [] kept quiet refl ∙ ap is_some has in
        absurd (rw given at h)

  doubled : (id : Text) → IsSingle shape id → 2 ≤ length (values_in id uses) → (n : Bool) → is_name id ≡ n
      → (is_name id ≡ true) × (2 ≤ length (option_values id ps))
  doubled id single two true n = (n, subst (λ l. 2 ≤ length l) (named_values ps true id n) two)
  doubled id single two false n = elim (cases_Bool (bytes_eq (codes "asks") id)) [
    | inl e ↦ absurd (asks_not_single (subst (IsSingle shape) (sym ((bytes_eq-Decides (codes "asks") id).0 e)) single))
    | inr e ↦
        let one = one_placed id n e (positionals_of ps) in
        let same : length (values_in id uses) ≡ length (placed id n (positionals_of ps)) = ap length (all_placed id n ps named) in
        absurd (omega (arith, one, same, two))
  ]

pub matched : (words : List Text) → fault_of command words ≡ [] → (ps : List Part) × Matched words ps
matched words none = go (clap_from between words) refl (start_sim words)
  where
    free : (walked_to words).0 ≡ []
    free = (both_empty (walked_to words).0 _ (sym (fault_is words) ∙ none)).0

    go : (o : Option (List Part)) → clap_from between words ≡ o
        → Walks shape place ready true None [] (walk_from nothing_held) words o → (ps : List Part) × Matched words ps
    go None e h = absurd (subst Fails free h)
    go (Some ps) e (h, named) =
        let quiet : faults shape [] (uses_of place true ps) ≡ [] = ap (λ o. o.0) (sym h) ∙ free in
        let rows : matches_of command words ≡ (does shape [] (uses_of place true ps)).1 = matches_are words ∙ ap (λ o. o.1) h in
        let here : (id : Text) (vs : List Text) → values_in id (uses_of place true ps) ≡ vs
        → all_of id (matches_of command words) ≡ more None vs =
        λ id vs is. ap (all_of id) rows ∙ all_gathered ps named quiet id vs is in (
          ps,
          record {
            parts = e;
            once = single_once ps named quiet;
            options = λ name is. here name _ (named_values ps true name is);
            form = ap (all_of (codes "form")) rows ∙ gathered_form ps named quiet;
            asks = here (codes "asks") _ (all_placed (codes "asks") refl ps named ∙ asks_placed (positionals_of ps));
          },
        )

pub unfit : (words : List Text) → Fails (fault_of command words) → Unfit words
unfit words some = go (clap_from between words) refl (start_sim words)
  where
    go : (o : Option (List Part)) → clap_from between words ≡ o
        → Walks shape place ready true None [] (walk_from nothing_held) words o → Unfit words
    go None e h = no_parts e
    go (Some ps) e (h, named) = either (faults shape [] (uses_of place true ps)) refl
      where
        either : (k : Kinds) → faults shape [] (uses_of place true ps) ≡ k → Unfit words
        either (k ∷ ks) f =
            let got = twice shape (uses_of place true ps) [] (kept ps named) (subst Fails (sym f) tt) in
            let twice_there : 2 ≤ length (values_in got.0 (uses_of place true ps)) = omega (arith, got.2) in
            let both = doubled ps named got.0 got.1 twice_there (is_name got.0) refl in
            stands_twice ps e got.0 both.0 both.1
        either [] f =
            let absent : Fails (missing (walked_to words).1) =
            subst Fails (fault_is words ∙ ap (λ k. or_else k (missing (walked_to words).1)) (ap (λ o. o.0) h ∙ f)) some in
            let none = no_words ps named f (subst (λ (o : Outcome). Fails (missing o.1)) h absent) (positionals_of ps) refl in
            no_form ps e none
