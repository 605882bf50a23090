-- The answer to what `clap` found is the answer to the words.
use Rattle.dl_arguments.proofs.Common.{◌≡◌, ◌∙◌, inl, inr, cases_Bool, ℕ, Bool, true, false, refl, sym, ap, ap₂, List, [], ◌∷◌, Option, Some, None, Result, Ok, Err, codes, true≢false, length, drop, arith, ◌≤◌, if◌then◌else◌, is_some, slice_get, ◌&&◌, option_and_then, option_map, unwrap_or, Bor, is_ascii_digit, IsTrue, list_all, bytes_eq, bytes_eq-Decides, nat_tests, all_of, rows_of, matches_of, Asked, Form, Run, Rules, Settings, UsageFault, Line, WordsFault, asks_of, command, Explains, ExplainsAsks, answer_in, asks_in, values_in, Values, are_taken, form_named, is_taken, rules_in, Part, is_name, command_parts, positionals_of, option_values, option, positional, between, Text, begins_plainly, is_bucket, is_number_within, admits, answer, to_parts, to_positionals, with_asks, words_of, common_steps, All, IfSome, and_left, both_ways, false_from_ne_true, leb-true, list_all-map, first_value, Found, first_value-rows, raw_values-rows, Usage, OutOfMemory, form_in, list_of, format_named, is_format, is_rules, rules_named, and_parts}
use Rattle.std.specs.Prelude.{take, ◌==◌}
use Rattle.clap.specs.Walk.{Row as FoundRow, first_of}
use Rattle.dl_arguments.specs.declared.fault.UsageFault.TheVariants.{Ask}
use Rattle.dl_arguments.proofs.NumeralBytes.{passed, written_each}
use Rattle.dl_arguments.proofs.Reading.{clap_from}
use Rattle.dl_arguments.proofs.AskLists.{lent}
use Rattle.dl_arguments.proofs.Cleaned.{cleaned, is_clean, same_cleaned}
use Rattle.dl_arguments.proofs.RowLemmas.{more}
use Rattle.dl_arguments.proofs.Simulation.{AllNamed, bytes_same}
use Rattle.dl_arguments.proofs.Whole.{Matched, Unfit, by_name, clap_named, no_form, no_parts, stands_twice}
use Rattle.dl_arguments.proofs.WrittenLaws.{if_read, written_named}

-- ---- values that an option takes begin with no hyphen

digit_no_hyphen : (b : ℕ) → is_ascii_digit b ≡ true → (b == 45) ≡ false
digit_no_hyphen b d = grind (arith, nat_tests, d)

no_hyphens : (text : Text) → All (λ b. (b == 45) ≡ false) text → begins_plainly text ≡ true
no_hyphens [] h = refl
no_hyphens (c ∷ cs) h = rw (h 0 c (omega arith)) refl

whole_plain : (low high : ℕ) (text : Text) → is_number_within low high text ≡ true → begins_plainly text ≡ true
whole_plain low high text h = grind (arith, nat_tests, common_steps, no_hyphens, passed, digit_no_hyphen, and_parts)

bucket_plain : (text : Text) → is_bucket text ≡ true → begins_plainly text ≡ true
bucket_plain text h = no_hyphens text
    (written_each (λ b. (b == 45) ≡ false) digit_no_hyphen refl refl refl text (and_parts _ _ (and_parts _ _ h).0).0)

-- a text that is one of some names
named_plain : (text name : Text) → begins_plainly name ≡ true
    → (bytes_eq text name ≡ false → begins_plainly text ≡ true) → begins_plainly text ≡ true
named_plain text name p other = grind (arith, bytes_eq-Decides text name)

format_plain : (text : Text) → is_some (format_named text) ≡ true → begins_plainly text ≡ true
format_plain text h = grind (arith, nat_tests, common_steps, named_plain)

rules_plain : (text : Text) → is_some (rules_named text) ≡ true → begins_plainly text ≡ true
rules_plain text h = grind (arith, nat_tests, common_steps, named_plain)

form_plain : (text : Text) → is_some (form_named text) ≡ true → begins_plainly text ≡ true
form_plain text h = grind (arith, nat_tests, common_steps, named_plain)

taken_plain : (takes : Text → Bool) → ((text : Text) → takes text ≡ true → begins_plainly text ≡ true)
    → (texts : List Text) → list_all takes texts ≡ true → list_all begins_plainly texts ≡ true
taken_plain takes f [] h = refl
taken_plain takes f (text ∷ texts) h =
    let t = and_parts (takes text) _ h in
    rw (f text t.0) (taken_plain takes f texts t.1)

-- ---- a table of options

module _ (values : Values) where
  -- the option of a name is taken, and its values begin with no hyphen
  taken_at : are_taken values ≡ true → (name : Text) → is_name name ≡ true → (takes : Text → Bool)
      × ((text : Text) → takes text ≡ true → begins_plainly text ≡ true) × (is_taken takes (values name) ≡ true)
  taken_at make =
      let bs = (and_parts _ _ make).1 in
      let log2 = (and_parts _ _ bs).1 in
      let digits = (and_parts _ _ log2).1 in
      let width = (and_parts _ _ digits).1 in
      let mwidth = (and_parts _ _ width).1 in
      let format = (and_parts _ _ mwidth).1 in
      by_name (λ name. (takes : Text → Bool) × ((text : Text) → takes text ≡ true → begins_plainly text ≡ true)
      × (is_taken takes (values name) ≡ true))
      (is_number_within 0 4294967295, whole_plain 0 4294967295, (and_parts _ _ make).0)
      (is_bucket, bucket_plain, (and_parts _ _ bs).0)
      (is_number_within 1 16, whole_plain 1 16, (and_parts _ _ log2).0)
      (is_number_within 1 9, whole_plain 1 9, (and_parts _ _ digits).0)
      (is_number_within 1 1000000000, whole_plain 1 1000000000, (and_parts _ _ width).0)
      (is_number_within 1 1000000000000, whole_plain 1 1000000000000, (and_parts _ _ mwidth).0)
      (is_format, format_plain, (and_parts _ _ format).0)
      (is_rules, rules_plain, (and_parts _ _ (and_parts _ _ format).1).0)

  pub values_plain : are_taken values ≡ true → (name : Text) → is_name name ≡ true
      → list_all begins_plainly (values name) ≡ true
  values_plain t name is = grind (arith, taken_at t name is, taken_plain, and_parts)

  -- an option that stands twice is not taken
  pub twice_untaken : (name : Text) → is_name name ≡ true → 2 ≤ length (values name) → are_taken values ≡ false
  twice_untaken name is two = false_from_ne_true _ (λ all.
      let few = leb-true (length (values name)) 1 (and_parts _ _ (taken_at all name is).2).0 in omega (arith, two, few))

-- ---- parts that are not clean are refused

clean_of : (ps : List Part) → AllNamed ps → ((name : Text) → is_name name ≡ true
    → list_all begins_plainly (option_values name ps) ≡ true) → list_all begins_plainly (positionals_of ps) ≡ true
    → is_clean ps ≡ true
clean_of [] named options words = refl
clean_of (option n v ∷ ps) named options words =
    let here = and_parts (begins_plainly v) _ (rw (bytes_same n) at (options n named.0)) in
    rw here.0 (clean_of ps named.1 (λ name is. rest (bytes_eq n name) (option_values name ps) (options name is)) words)
  where
    rest : (b : Bool) (vs : List Text) → list_all begins_plainly (if b then v ∷ vs else vs) ≡ true
        → list_all begins_plainly vs ≡ true
    rest true vs h = (and_parts (begins_plainly v) _ h).1
    rest false vs h = h
clean_of (positional w ∷ ps) named options words =
    let here = and_parts (begins_plainly w) _ words in
    rw here.0 (clean_of ps named.1 options here.1)

-- the test of an answer that is not `Line` at once
abbrev pub fits : Option Form → Values → List Text → Bool
fits None values asks = false
fits (Some form) values asks = are_taken values && list_all begins_plainly asks && admits form values asks

pub misfit_line : (o : Option Form) (values : Values) (asks : List Text) → fits o values asks ≡ false
    → answer o values asks ≡ Err Line
misfit_line None values asks e = refl
misfit_line (Some form) values asks e = rw e refl

untaken_misfit : (o : Option Form) (values : Values) (asks : List Text) → are_taken values ≡ false
    → fits o values asks ≡ false
untaken_misfit None values asks h = refl
untaken_misfit (Some form) values asks h = and_left _ _ (and_left _ _ h)

-- the first positional is the form
abbrev pub form_of : List Text → Option Form
form_of words = option_and_then form_named (slice_get words 0)

by_positionals : (values : Values) (words : List Text)
    → to_positionals values words ≡ answer (form_of words) values (drop 1 words)
by_positionals values [] = refl
by_positionals values (form ∷ asks) = refl

misfit_words : (values : Values) (words : List Text) → fits (form_of words) values (drop 1 words) ≡ false
    → to_positionals values words ≡ Err Line
misfit_words values words h = by_positionals values words ∙ misfit_line (form_of words) values (drop 1 words) h

fits_plain : (values : Values) (words : List Text) → fits (form_of words) values (drop 1 words) ≡ true
    → (are_taken values ≡ true) × (list_all begins_plainly words ≡ true)
fits_plain values [] h = absurd (true≢false (sym h))
fits_plain values (form ∷ asks) h = go (form_named form) refl h
  where
    go : (o : Option Form) → form_named form ≡ o → fits o values asks ≡ true
        → (are_taken values ≡ true) × (list_all begins_plainly (form ∷ asks) ≡ true)
    go None e f = absurd (true≢false (sym f))
    go (Some f) e g = grind (arith, form_plain form (ap is_some e), and_parts)

-- the values of some parts
abbrev pub values_with : List Part → Values
values_with ps name = option_values name ps

same_judged : (o : Option (List Part)) → IfSome o AllNamed → to_parts (cleaned o) ≡ to_parts o
same_judged None named = refl
same_judged (Some ps) named = elim (cases_Bool (is_clean ps)) [
  | inl e ↦ rw e refl
  | inr e ↦
      let misfit : fits (form_of (positionals_of ps)) (values_with ps) (drop 1 (positionals_of ps)) ≡ false =
      false_from_ne_true _ (λ h.
      let t = fits_plain (values_with ps) (positionals_of ps) h in
      both_ways _ e (clean_of ps named (values_plain (values_with ps) t.0) t.1)) in
      rw e (sym (misfit_words (values_with ps) (positionals_of ps) misfit))
]

pub answer_is : (words : List Text) → words_of words ≡ to_parts (clap_from between words)
answer_is words = sym (same_judged (command_parts words) (if_read words AllNamed (written_named words)))
    ∙ sym (ap to_parts (same_cleaned words between)) ∙ same_judged (clap_from between words)
    (clap_named words)

-- ---- what a refusal of `clap` gives

pub refused : (words : List Text) → Unfit words → words_of words ≡ Err Line
refused words (no_parts e) = answer_is words ∙ ap to_parts e
refused words (no_form ps e none) = answer_is words ∙ ap to_parts e ∙ ap (to_positionals (values_with ps)) none
refused words (stands_twice ps e name is two) =
    grind (arith, answer_is words, twice_untaken (values_with ps) name is two, misfit_words, untaken_misfit)

-- ---- what a parse gives

first_of-all_of : (id : Text) (rows : List FoundRow)
    → first_of id rows ≡ option_and_then (λ vs. slice_get vs 0) (all_of id rows)
first_of-all_of id rows = grind arith

first_more : (ws : List Text) → option_and_then (λ vs. slice_get vs 0) (more None (take 1 ws)) ≡ slice_get ws 0
first_more [] = refl
first_more (w ∷ ws) = refl

one_more : (vs : List Text) → length vs ≤ 1 → list_of (option_and_then (λ ws. slice_get ws 0) (more None vs)) ≡ vs
one_more [] h = refl
one_more (v ∷ []) h = refl
one_more (v ∷ w ∷ vs) h = absurd (omega (arith, h))

asks_more : (ws : List Text) → unwrap_or (more None ws) [] ≡ ws
asks_more [] = refl
asks_more (w ∷ ws) = refl

-- the values of the options' names, and none of another
abbrev named_values : Values → Values
named_values f name = if is_name name then f name else []

abbrev told : Form → Values → List Text → Result (List Asked) ℕ → Result Settings UsageFault
told form f asks r =
    if are_taken f && list_all begins_plainly asks && admits form f asks then with_asks form f r else Err Line

told_by_name : (form : Form) (f : Values) (asks : List Text) (r : Result (List Asked) ℕ)
    → told form f asks r ≡ told form (named_values f) asks r
told_by_name Run f asks (Ok v) = refl
told_by_name _ f asks _ = refl

-- an answer depends on these values alone
same_values : (f g : Values) → ((name : Text) → is_name name ≡ true → f name ≡ g name)
    → (form : Option Form) (asks : List Text) → answer form f asks ≡ answer form g asks
same_values f g h None asks = refl
same_values f g h (Some form) asks =
    grind (
      arith,
      told_by_name form f asks (asks_of (rules_in f) asks),
      told_by_name form g asks (asks_of (rules_in g) asks),
    )

-- what was found of a parse with these matches
pub given : (words : List Text) (ps : List Part) (m : Matched words ps) (found : Found)
    → rows_of found ≡ matches_of command words → words_of words ≡ answer_in found
given words ps m found same =
    let first : (id : Text) → first_value found id ≡ option_and_then (λ vs. slice_get vs 0)
    (all_of id (matches_of command words)) =
    λ id. first_value-rows found id ∙ first_of-all_of id (rows_of found)
    ∙ ap (λ rows. option_and_then (λ vs. slice_get vs 0) (all_of id rows)) same in
    let values : (name : Text) → is_name name ≡ true → option_values name ps ≡ values_in found name =
    λ name is. sym (ap list_of (first name ∙ ap (option_and_then (λ vs. slice_get vs 0)) (m.options name is))
    ∙ one_more (option_values name ps) (m.once name is)) in
    let form : option_and_then form_named (slice_get (positionals_of ps) 0) ≡ form_in found =
    ap (option_and_then form_named) (sym (first (codes "form") ∙ ap (option_and_then (λ vs. slice_get vs 0)) m.form
    ∙ first_more (positionals_of ps))) in
    let asks : drop 1 (positionals_of ps) ≡ asks_in found =
    sym (ap (λ o. unwrap_or o []) (raw_values-rows found (codes "asks") ∙ ap (all_of (codes "asks")) same ∙ m.asks)
    ∙ asks_more (drop 1 (positionals_of ps))) in
    answer_is words ∙ ap to_parts m.parts ∙ by_positionals (values_with ps) (positionals_of ps)
    ∙ same_values (values_with ps) (values_in found) values _ _ ∙ ap₂ (λ f a. answer f (values_in found) a) form asks

-- ---- what is found, judged

pub misfit_found : (found : Found) (form : Form) → Some form ≡ form_in found
    → fits (Some form) (values_in found) (asks_in found) ≡ false → answer_in found ≡ Err Line
misfit_found found form e f = rw (← e, f) refl

-- the texts that were found, and the test of their first bytes
pub texts_found : (o : Option (Bor (List (Bor Text)))) (texts d : Bor (List (Bor Text))) (q : Option (List Text))
    → texts ≡ unwrap_or o d → d.now ≡ []
    → option_map (λ s. lent s.now) o ≡ q → lent texts.now ≡ unwrap_or q []
texts_found o texts d q e none h = grind arith

pub plain_found : (r : Bool) (texts : List (Bor Text)) (asks : List Text)
    → r ≡ list_all (λ text. begins_plainly text.now) texts → lent texts ≡ asks → r ≡ list_all begins_plainly asks
plain_found r texts asks h e = grind (arith, list_all-map begins_plainly (λ text. text.now) texts)

-- where the values are taken, and the tests of the texts of the asks pass, what was found fits the form
pub fitting_tests : (found : Found) (form : Form) (rules : Rules) (texts : List (Bor Text)) (begin admitted : Bool)
    → Some form ≡ form_in found → lent texts ≡ asks_in found → IsTrue (are_taken (values_in found))
    → rules ≡ rules_in (values_in found)
    → begin ≡ list_all (λ text. begins_plainly text.now) texts → IsTrue begin
    → admitted ≡ admits form (values_in found) (lent texts) → IsTrue admitted
    → answer_in found ≡ with_asks form (values_in found) (asks_of rules (lent texts))
fitting_tests found form rules texts begin admitted is same taken by tested b asked a =
    grind (arith, plain_found begin texts (asks_in found) tested same)

-- the first misfit of the asks is the answer's fault
pub explained : (form : Form) (values : Values) (asks : Result (List Asked) ℕ) (a : Result Settings UsageFault)
    (fault : WordsFault) → a ≡ with_asks form values asks → ExplainsAsks asks fault → Explains a fault
explained form values asks a (Usage Line) e h = absurd h
explained form values asks a (Usage (Ask i)) e h = e ∙ ap (with_asks form values) h
explained form values asks a OutOfMemory e h = tt

-- asks that are read, or a first misfit among them, are no misfit of the command
pub asks_no_line : (form : Form) (values : Values) (asks : Result (List Asked) ℕ)
    → with_asks form values asks ≡ Err Line → ⊥
asks_no_line form values (Ok asks) e = absurd (cc)
asks_no_line form values (Err i) e = absurd (cc)
