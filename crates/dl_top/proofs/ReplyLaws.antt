-- What follows of a reply, and why an accepted text is not refused.
use Rattle.dl_top.proofs.Common.{ℕ, ◌≡◌, map, String, string_bytes, Global, ◌≤◌, List, [], ◌∷◌, length, get_or, All, Option, None, Some, Ok, Err, IfSome, IsUtf8, arith, refl, sym, ap, subst, inl, inr, ◌∙◌, Takes, TakesAtMost, Step, Reading, all_gave, unread, Token, Covers, IsBad, Program, Plan, IsValid, IsCoveredUnit, IsCovered, IsFirstUncovered, IsNotCovered, IsBadStep, IsVerified, Iv, Asked, Settings, UsageFault, words_in_range, words_are_text, words_have_few_cells, first_fault, AskBeyond, UnknownUnit, NoShare, TooWide, NoRoom, zip, All-nil, All-cons, All-head, All-tail, All-map, Rows, Row, IsGood, Fault, Read, BadByte, Syntax, Continuous, Typing, Done, fault_line, made_of, Say, IsTooLong, input_of, program_of, program_in, steps_of, limit_of, limit_for, IsReadFault, IsOfText, IfAnswer, HasParts, AreReady, IsPlanOf, HasTokens, SpellsProgram, HasPlan, HasCovered, AsksOfCert, Certifies, Verifies, IsAccepted, HasForm, IsCertifiable, IsVerifiable, Answers, Refuses, of_asks, usage, not_read, too_long, bad_byte, continuous, syntax, typing, not_covered, bad_step, asking, IsReply, IsRefusalOf, ◌<◌}
use Rattle.dl_limits.specs.Limits.{standard_units}
use Rattle.dl_lexer.proofs.CoverLaws.{cover_one, covered_not_bad}
use Rattle.dl_ast.specs.Prelude.{lexemes, Spells, program}
use Rattle.dl_parser.proofs.Whole.{one_program}
use Rattle.dl_plan.specs.declared.plan.Unit.{Unit as UnitOfPlan}
use Rattle.dl_plan.specs.Forms.{IsOfCert, IsOfPlan}
use Rattle.dl_cert.proofs.Excluding.{no_bad_step}
use Rattle.dl_plan.specs.declared.settings.Ask.TheVariants.{Mean}
use Rattle.dl_arguments.specs.Words.{words_of}
use Rattle.dl_rules.specs.declared.fault.TypeFault.{TypeFault}
use Rattle.dl_answers.specs.declared.fault.EvalFault.{EvalFault}
use Rattle.dl_answers.specs.Answers.{IsFirstNot, AreAdmitted, RefusesAsk as RefusesAsks}
use Rattle.std.proofs.lemmas.Str.{IsUtf8-string_bytes}
use Rattle.dl_report.specs.Objects.{AsksAreText}
use Rattle.dl_answers.specs.Answers.{IsAnswered}
use Rattle.dl_top.specs.declared.reply.Reply.{Reply}
use Rattle.dl_top.specs.declared.reply.Reply.TheVariants.{Answer, Refusal, OutOfMemory}
use Rattle.dl_plan.specs.declared.settings.Form.{Form}
use Rattle.dl_plan.specs.declared.settings.Form.TheVariants.{Run, Fmt, Cert, Verify}
use Rattle.dl_parser.specs.Viable.{Stops, IsContinuous}
use Rattle.std.proofs.lemmas.Slice.Zip.{get_or-zip, length-zip}

-- a refusal is the reply where the words and the input give its fault, and its text needs no more of the text than its
-- place
pub refused : (words : List (List ℕ)) (input source : List ℕ) (tokens : List Token) (r : Reply) (fault : Fault)
    → IsRefusalOf r fault source tokens
    → fault_line fault source tokens ≡ fault_line fault (program_in words input) tokens
    → Refuses words input fault tokens
    → IsReply words input r
refused words input source tokens (Answer text) fault h e a = absurd h
refused words input source tokens (Refusal f text) fault h e a = rw h.0 (tokens, a, (h.1 ∙ e))
refused words input source tokens OutOfMemory fault h e a = tt

-- a fact of what the source has left, where it tells
pub told : (left : Option (List ℕ)) {P Q : List ℕ → Type 0} → IfSome left P → ((x : List ℕ) → P x → Q x) → IfSome left Q
told None h f = tt
told (Some x) h f = f x h

pub always : (left : Option (List ℕ)) {Q : List ℕ → Type 0} → ((x : List ℕ) → Q x) → IfSome left Q
always None f = tt
always (Some x) f = f x

-- nothing was taken
pub none_taken : (left : Option (List ℕ)) (most : ℕ) → TakesAtMost left left most
none_taken None most = (0, omega arith, tt)
none_taken (Some left) most = (0, omega arith, (omega arith, refl))

-- and nothing was read
pub none_read : {S E : Type 0} {step : Step S E} (source : S) (most : ℕ) → Reading step source most source
none_read source most = all_gave [] source unread

-- a refusal of the text tells of no failed read
pub text_was_read : (r : Reply) → IsOfText r → ¬ IsReadFault r
text_was_read (Answer text) of_text = λ read. read
text_was_read (Refusal fault text) of_text = of_text.1
text_was_read OutOfMemory of_text = λ read. read

-- as many bytes as were taken were left
pub taken : (before after : Option (List ℕ)) (n : ℕ) → Takes before after n → IfSome before (λ left. n ≤ length left)
taken None after n h = tt
taken (Some left) None n h = absurd h
taken (Some left) (Some rest) n h = h.0

-- what a text spells is spelled by all of its token lists, of which there is one
respelled : (form : Form) (input : List ℕ) (p : Program) (tokens : List Token) → SpellsProgram form input p
    → HasTokens form input tokens → Spells program p (lexemes (program_of form input) tokens)
respelled form input p tokens s has =
    subst (λ ts. Spells program p (lexemes (program_of form input) ts))
    (cover_one (program_of form input) (length (program_of form input)) s.tokens tokens s.has.covered has.covered)
    s.spelled

-- a text spells one program
one_spelled : (form : Form) (input : List ℕ) (p q : Program) → SpellsProgram form input p → SpellsProgram form input q
    → p ≡ q
one_spelled form input p q s t =
    one_program p q (lexemes (program_of form input) s.tokens) s.spelled (respelled form input q s.tokens t s.has)

-- ---- asks that are admitted are not refused

an_ask : Asked
an_ask = record { text = []; ask = Mean }

none_first : (P : Asked → Type 0) (asks : List Asked) (i : ℕ) → All P asks → IsFirstNot P asks i → ⊥
none_first P asks i all first = first.here an_ask (all i an_ask first.inside)

admitted_not_refused : (plan : Plan) (settings : Settings) (of : EvalFault) (fault : Fault) → of_asks of fault
    → AreAdmitted plan settings
    → RefusesAsks plan settings of → ⊥
admitted_not_refused plan settings (AskBeyond i) fault is a r = none_first _ settings.asks i a.inside r
admitted_not_refused plan settings (UnknownUnit i) fault is a r = none_first _ settings.asks i a.named r.1
admitted_not_refused plan settings (NoShare i) fault is a (inside, named, first) =
    none_first _ settings.asks i a.shares first
admitted_not_refused plan settings (TooWide i width) fault is a (inside, named, shares, wide) =
    none_first _ settings.asks i a.pass wide.first
admitted_not_refused plan settings NoRoom fault is admitted r = absurd is

-- ---- what is not refused before its rules

-- a text that spells a program stops nowhere
not_unspelled : (form : Form) (input : List ℕ) (p : Program) (tokens : List Token) (k : ℕ)
    → SpellsProgram form input p → HasTokens form input tokens → Stops (lexemes (program_of form input) tokens) k → ⊥
not_unspelled form input p tokens k spells has stops = stops.unspelled p (respelled form input p tokens spells has)

-- and is not too long
not_long : (form : Form) (input : List ℕ) (p : Program) → SpellsProgram form input p → IsTooLong form input → ⊥
not_long form input p spells (inl long) = omega (arith, spells.has.fits.all, long)
not_long form input p spells (inr long) = omega (arith, spells.has.fits.program, long)

-- the form of a certificate is one of a plan
of_cert_is_of_plan : (form : Form) → IsOfCert form → IsOfPlan form
of_cert_is_of_plan Run of = tt
of_cert_is_of_plan Fmt of = of
of_cert_is_of_plan Cert of = tt
of_cert_is_of_plan Verify of = tt

-- The words have these settings, and the text spells this program. Then it is refused for a failed read alone, where no
-- rule is broken, and where no later fault is there: a plan that is not covered, a bad step, or one of the asks.
module _ (words : List (List ℕ)) (input : List ℕ) (a : Settings) (say : Say words a) (p : Program)
    (spells : SpellsProgram a.form input p) (faultless : IsOfPlan a.form → first_fault p a ≡ None)
    (covered : (plan : Plan) → IsPlanOf p a plan → IsValid plan → IsOfCert a.form → (u : ℕ) → IsNotCovered plan u → ⊥)
    (certified : (plan : Plan) → IsPlanOf p a plan → IsValid plan → a.form ≡ Verify → (k : ℕ) → IsCovered plan
    → IsBadStep plan (steps_of a.form input) k → ⊥)
    (admitted : (plan : Plan) → IsPlanOf p a plan → IsValid plan → a.form ≡ Run → AreAdmitted plan a) where
  -- a plan that the text means is one of this program
  of_program : (plan : Plan) → HasPlan input a plan → IsPlanOf p a plan
  of_program plan means =
      subst (λ q. IsPlanOf q a plan) (one_spelled a.form input means.program p means.spells spells) means.planned

  same : (settings : Settings) → Say words settings → settings ≡ a
  same settings other = cc

  pub settled : (fault : Fault) (tokens : List Token) → Refuses words input fault tokens → fault ≡ Read
  settled fault tokens (usage f e) = absurd (cc)
  settled fault tokens (not_read settings other seedless) = refl
  settled fault tokens (too_long settings other long) =
      absurd (not_long a.form input p spells (subst (λ s. IsTooLong s.form input) (same settings other) long))
  settled fault tokens (bad_byte settings other at fits bad) =
      absurd (covered_not_bad (program_of a.form input) spells.tokens at spells.has.covered
      (subst (λ s. IsBad (program_of s.form input) at) (same settings other) bad))
  settled fault tokens (continuous settings other ts k has stops here) =
      absurd (not_unspelled a.form input p ts k spells (subst (λ s. HasTokens s.form input ts) (same settings other) has)
      (subst (λ s. Stops (lexemes (program_of s.form input) ts) k) (same settings other) stops))
  settled fault tokens (syntax settings other ts k has stops not_here) =
      absurd (not_unspelled a.form input p ts k spells (subst (λ s. HasTokens s.form input ts) (same settings other) has)
      (subst (λ s. Stops (lexemes (program_of s.form input) ts) k) (same settings other) stops))
  settled fault tokens (typing settings asks q other f first) =
      let set : settings ≡ a = same settings asks.say in
      let one : q ≡ p = one_spelled a.form input q p (subst (λ s. SpellsProgram s.form input q) set other) spells in
      let broken : first_fault p a ≡ Some f = subst (λ r. first_fault r a ≡ Some f) one
      (subst (λ s. first_fault q s ≡ Some f) set first) in
      let none : first_fault p a ≡ None = faultless (subst (λ s. IsOfPlan s.form) set asks.form) in
      absurd (cc)
  settled fault tokens (not_covered settings asks plan other u not) =
      let set : settings ≡ a = same settings asks.say in
      let means : HasPlan input a plan = subst (λ s. HasPlan input s plan) set other in
      absurd (covered plan (of_program plan means) means.valid (subst (λ s. IsOfCert s.form) set asks.form) u not)
  settled fault tokens (bad_step settings asks plan other k is_covered bad) =
      let set : settings ≡ a = same settings asks.say in
      let means : HasPlan input a plan = subst (λ s. HasPlan input s plan) set other in
      absurd (certified plan (of_program plan means) means.valid (subst (λ s. s.form ≡ Verify) set asks.form) k is_covered
      (subst (λ s. IsBadStep plan (steps_of s.form input) k) set bad))
  settled fault tokens (asking settings asks plan other of f is refuses) =
      let set : settings ≡ a = same settings asks.say in
      let means : HasPlan input a plan = subst (λ s. HasPlan input s plan) set other in
      absurd (admitted_not_refused plan a of f is
      (admitted plan (of_program plan means) means.valid (subst (λ s. s.form ≡ Run) set asks.form))
      (subst (λ s. RefusesAsks plan s of) set refuses))

-- a covered plan has no first unit that is not covered
covered_not_first : (units : List UnitOfPlan) (u : ℕ) → length units ≤ standard_units → All IsCoveredUnit units
    → IsFirstUncovered units u → ⊥
covered_not_first [] u few all first = absurd (omega (arith, first.inside))
covered_not_first (x ∷ xs) u few all first = elim (first.here x) [
  | inl far ↦ absurd (omega (arith, few, far, first.inside))
  | inr not ↦ not (all u x first.inside)
]

covered_not_refused : (plan : Plan) (u : ℕ) → IsCovered plan → IsNotCovered plan u → ⊥
covered_not_refused plan u covered (inl (some, at_0)) = some covered.common
covered_not_refused plan u covered (inr (none, first)) = covered_not_first plan.units u covered.few covered.units first

-- steps that certify a plan have no bad one
not_bad : (plan : Plan) (text : List ℕ) (k : ℕ) → (grid : List (Iv 56)) × IsVerified plan text grid
    → IsBadStep plan text k → ⊥
not_bad plan text k steps bad = no_bad_step plan text steps.0 k steps.1.1 bad

-- ---- completeness, by form

-- an accepted text is refused for a failed read alone
pub accepted : (words : List (List ℕ)) (input : List ℕ) → IsAccepted words input → (fault : Fault) (tokens : List Token)
    → Refuses words input fault tokens → fault ≡ Read
accepted words input a = settled words input a.settings a.asks.say a.program a.spells
    (λ of. a.faultless)
    (λ plan planned valid of. absurd (subst IsOfCert a.asks.form of))
    (λ plan planned valid e. absurd (cc (a.asks.form)))
    (λ plan planned valid e. a.admitted plan planned valid)

-- so is a text whose canonical form is wanted, and that spells a program
pub has_form : (words : List (List ℕ)) (input : List ℕ) → HasForm words input → (fault : Fault) (tokens : List Token)
    → Refuses words input fault tokens → fault ≡ Read
has_form words input a = settled words input a.settings a.formats.say a.program a.spells
    (λ of. absurd (subst IsOfPlan a.formats.form of))
    (λ plan planned valid of. absurd (subst IsOfPlan a.formats.form (of_cert_is_of_plan a.settings.form of)))
    (λ plan planned valid e. absurd (cc (a.formats.form))) (λ plan planned valid e. absurd (cc (a.formats.form)))

-- so is a text whose program is covered and breaks no rule, where nothing is asked and no step is bad
settled_covered : (words : List (List ℕ)) (input : List ℕ) (a : Settings) → Say words a → (has : HasCovered input a)
    → (a.form ≡ Run → ⊥)
    → ((plan : Plan) → IsPlanOf has.program a plan → IsValid plan → a.form ≡ Verify → (k : ℕ) → IsCovered plan
    → IsBadStep plan (steps_of a.form input) k → ⊥) → (fault : Fault) (tokens : List Token)
    → Refuses words input fault tokens → fault ≡ Read
settled_covered words input a say has no_ask steps = settled words input a say has.program has.spells
    (λ of. has.faultless)
    (λ plan planned valid of u. covered_not_refused plan u (has.covered plan planned valid)) steps
    (λ plan planned valid e. absurd (no_ask e))

-- as where a certificate of it is wanted
pub certifiable : (words : List (List ℕ)) (input : List ℕ) → IsCertifiable words input
    → (fault : Fault) (tokens : List Token) → Refuses words input fault tokens → fault ≡ Read
certifiable words input a = settled_covered words input a.settings a.certify.say a.has
    (λ e. cc (a.certify.form)) (λ plan planned valid e. absurd (cc (a.certify.form)))

-- or where the steps behind it certify it, and are wanted checked
pub verifiable : (words : List (List ℕ)) (input : List ℕ) → IsVerifiable words input
    → (fault : Fault) (tokens : List Token) → Refuses words input fault tokens → fault ≡ Read
verifiable words input a = settled_covered words input a.settings a.verify.say a.has
    (λ e. cc (a.verify.form))
    (λ plan planned valid e k covered. not_bad plan (steps_of a.settings.form input) k (a.steps plan planned valid))

-- ---- which text the words are about

-- a made one
pub made_input : (words : List (List ℕ)) (settings : Settings) (seed : ℕ) (left : Option (List ℕ)) (P : List ℕ → Type 0)
    → Say words settings
    → settings.make ≡ Some seed → P (made_of seed) → IfSome (input_of words left) P
unfolding input_of
made_input words settings seed left P say named p = rw (say, named) p

-- what the source has left
pub read_input : (words : List (List ℕ)) (settings : Settings) (left : Option (List ℕ)) (P : List ℕ → Type 0)
    → Say words settings
    → settings.make ≡ None → IfSome left P → IfSome (input_of words left) P
unfolding input_of
read_input words settings left P say seedless p = rw (say, seedless) p

-- ---- what the callees want

-- words are text
words_text : (words : List (String Global)) → All IsUtf8 (map string_bytes words)
words_text words = All-map IsUtf8 string_bytes words (λ k d h. IsUtf8-string_bytes (get_or words k d))

-- settings that words say
pub are_ready : (words : List (String Global)) (settings : Settings) → Say (map string_bytes words) settings
    → AreReady settings
are_ready words settings say = record {
  ranges = words_in_range (map string_bytes words) settings say;
  texts = words_are_text (map string_bytes words) settings (words_text words) say;
  cells = words_have_few_cells (map string_bytes words) settings say;
}

-- what the words of the asks have, the words of a good report's rows have
pub rows_have : (P : List ℕ → Type 0) (plan : Plan) (d : ℕ) (asks : List Asked) (rows : List Row)
    → length rows ≡ length asks → All (λ pair. IsGood plan d pair.0 pair.1) (zip asks rows)
    → All (λ asked. P asked.text) asks → All (λ row. P row.ask) rows
rows_have P plan d asks rows e good texts = λ k row inside.
    let near : k < length asks = omega (arith, inside, e) in
    let is : IsGood plan d (get_or asks k an_ask) (get_or rows k row) =
    subst (λ pair. IsGood plan d pair.0 pair.1) (get_or-zip asks rows k (an_ask, row) near inside)
    (good k (an_ask, row) (omega (arith, length-zip asks rows, near, inside))) in
    subst P (sym is.ask) (texts k an_ask near)

pub answered_text : (plan : Plan) (settings : Settings) (report : Rows) → IsAnswered plan settings report
    → All (λ asked. IsUtf8 asked.text) settings.asks
    → AsksAreText report
answered_text plan settings report (admitted, good) texts =
    rows_have IsUtf8 plan settings.digits settings.asks report.rows good.as_many good.rows texts

pub answered_digits : (plan : Plan) (settings : Settings) (report : Rows) → IsAnswered plan settings report
    → settings.digits ≤ 9 → report.digits ≤ 9
answered_digits plan settings report (admitted, good) few = omega (arith, good.digits, few)

-- ---- replies about certificates

pub certifies_of_cert : (words : List (List ℕ)) (settings : Settings) → Certifies words settings
    → AsksOfCert words settings
certifies_of_cert words settings c = record { say = c.say; form = subst IsOfCert (sym c.form) tt }

pub verifies_of_cert : (words : List (List ℕ)) (settings : Settings) → Verifies words settings
    → AsksOfCert words settings
verifies_of_cert words settings v = record { say = v.say; form = subst IsOfCert (sym v.form) tt }

-- a text that is written whole, where there is memory
pub in_answer : (words : List (List ℕ)) (input : List ℕ) (r : Reply) (text : List ℕ) → IfAnswer r text
    → Answers words input Done text [] → IsReply words input r
in_answer words input (Answer bytes) text is a = rw is a
in_answer words input (Refusal f bytes) text is a = absurd is
in_answer words input OutOfMemory text is a = tt

pub answer_is_of_text : (r : Reply) (text : List ℕ) → IfAnswer r text → IsOfText r
answer_is_of_text (Answer bytes) text is = tt
answer_is_of_text (Refusal f bytes) text is = absurd is
answer_is_of_text OutOfMemory text is = tt

-- ---- the parts of an input

pub in_program : (words : List (List ℕ)) (input source : List ℕ) (settings : Settings) → Say words settings
    → program_of settings.form input ≡ source → program_in words input ≡ source
unfolding program_in
in_program words input source settings say e = rw say e

pub limit_said : (words : List (List ℕ)) (settings : Settings) → Say words settings
    → limit_for words ≡ limit_of settings.form
unfolding limit_for
limit_said words settings say = rw say refl

-- what is found in the program of an input is found in the input
module _ (words : List (List ℕ)) (input source steps : List ℕ) (settings : Settings) (say : Say words settings)
    (parts : HasParts settings.form input source steps) where
  -- a fault is written by the program alone
  told_of : (fault : Fault) (tokens : List Token)
      → fault_line fault source tokens ≡ fault_line fault (program_in words input) tokens
  told_of fault tokens = rw (in_program words input source settings say parts.program) refl

  has_tokens : (tokens : List Token) → Covers source (length source) tokens → HasTokens settings.form input tokens
  has_tokens tokens covered = record {
    fits = parts.fits;
    covered = rw parts.program covered;
  }

  pub spells_program : (p : Program) (tokens : List Token) → Covers source (length source) tokens
      → Spells program p (lexemes source tokens) → SpellsProgram settings.form input p
  spells_program p tokens covered spelled = record {
    tokens = tokens;
    has = has_tokens tokens covered;
    spelled = rw parts.program spelled;
  }

  pub refused_bad : (r : Reply) (at : ℕ) → IsRefusalOf r (BadByte at) source [] → IsBad source at → IsReply words input r
  refused_bad r at tells bad = refused words input source [] r (BadByte at) tells (told_of (BadByte at) [])
      (bad_byte settings say at parts.fits (rw parts.program bad))

  pub refused_continuous : (r : Reply) (k : ℕ) (tokens : List Token) → IsRefusalOf r (Continuous k) source tokens
      → Covers source (length source) tokens → Stops (lexemes source tokens) k
      → IsContinuous (lexemes source tokens) k → IsReply words input r
  refused_continuous r k tokens tells covered stops is =
      refused words input source tokens r (Continuous k) tells (told_of (Continuous k) tokens)
      (continuous settings say tokens k (has_tokens tokens covered) (rw parts.program stops) (rw parts.program is))

  pub refused_syntax : (r : Reply) (k : ℕ) (tokens : List Token) → IsRefusalOf r (Syntax k) source tokens
      → Covers source (length source) tokens → Stops (lexemes source tokens) k
      → ¬ IsContinuous (lexemes source tokens) k → IsReply words input r
  refused_syntax r k tokens tells covered stops not =
      refused words input source tokens r (Syntax k) tells (told_of (Syntax k) tokens)
      (syntax settings say tokens k (has_tokens tokens covered) (rw parts.program stops)
      (λ is. not (rw parts.program at is)))

  pub refused_typing : (r : Reply) (fault : TypeFault) (p : Program) → IsRefusalOf r (Typing fault) source []
      → IsOfPlan settings.form → SpellsProgram settings.form input p → first_fault p settings ≡ Some fault
      → IsReply words input r
  refused_typing r fault p tells of spells first =
      refused words input source [] r (Typing fault) tells (told_of (Typing fault) [])
      (typing settings (record { say = say; form = of }) p spells fault first)
