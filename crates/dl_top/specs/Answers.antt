-- How the program ends for words and an input, and what it writes.
use Rattle.std.specs.Prelude.{◌≡◌, ℕ, ◌≤◌, List, [], length, codes, Err, Some, None}
use Rattle.dl_limits.specs.Limits.{most_cert_text}
use Rattle.dl_iv.specs.declared.interval.Iv.{Iv}
use Rattle.dl_lexer.specs.declared.token.Token.{Token}
use Rattle.dl_lexer.specs.Cutting.{Covers, IsBad}
use Rattle.dl_ast.specs.declared.ast.Program.{Program}
use Rattle.dl_ast.specs.Prelude.{lexemes, Spells, program}
use Rattle.dl_parser.specs.Viable.{Stops, IsContinuous}
use Rattle.dl_printer.specs.Canonical.{canonical}
use Rattle.dl_plan.specs.declared.plan.Plan.{Plan}
use Rattle.dl_plan.specs.declared.settings.Form.{Form}
use Rattle.dl_plan.specs.declared.settings.Form.TheVariants.{Run, Fmt, Cert, Verify}
use Rattle.dl_plan.specs.declared.settings.Settings.{Settings}
use Rattle.dl_plan.specs.Prelude.{IsOfCert, IsOfPlan, IsValid}
use Rattle.dl_model.specs.Prelude.{GridEncloses, total, aggregates_of}
use Rattle.dl_arguments.specs.declared.fault.UsageFault.{UsageFault}
use Rattle.dl_arguments.specs.Words.{words_of}
use Rattle.dl_rules.specs.declared.fault.TypeFault.{TypeFault}
use Rattle.dl_rules.specs.Prelude.{first_fault, IsPlanOf}
use Rattle.dl_report.specs.declared.report.Report.{Report}
use Rattle.dl_answers.specs.declared.fault.EvalFault.{EvalFault}
use Rattle.dl_answers.specs.declared.fault.EvalFault.TheVariants as evals
use Rattle.dl_answers.specs.Answers.{IsAnswered, AreAdmitted, RefusesAsk as RefusesAsks}
use Rattle.dl_cert.specs.Prelude.{IsCovered, IsNotCovered, IsBadStep, IsCertificate, IsVerified}
use Rattle.dl_top.specs.declared.status.Status.{Status}
use Rattle.dl_top.specs.declared.status.Status.TheVariants as statuses
use Rattle.dl_top.specs.declared.fault.Fault.{Fault}
use Rattle.dl_top.specs.declared.fault.Fault.TheVariants as faults
use Rattle.dl_top.specs.Faults.{status_of, fault_line}
use Rattle.dl_top.specs.Inputs.{Say, IsShort, IsTooLong, program_of, steps_of, program_in}
use Rattle.dl_top.specs.Reports.{written}

-- the words say these settings, whose form is such a one
pub record Wants (IsSuch : Form → Type 0) (words : List (List ℕ))
    (settings : Settings) : Type 0 where
  pub say : Say words settings
  pub form : IsSuch settings.form

-- the words ask what these settings say about a program
abbrev pub Asks : List (List ℕ) → Settings → Type 0
Asks words settings = Wants (λ form. form ≡ Run) words settings

-- the words want a program in its canonical form
abbrev pub Formats : List (List ℕ) → Settings → Type 0
Formats words settings = Wants (λ form. form ≡ Fmt) words settings

-- the words want what needs the program's plan: a report, or a certificate that is written or
-- checked
abbrev pub AsksOfPlan : List (List ℕ) → Settings → Type 0
AsksOfPlan words settings = Wants IsOfPlan words settings

-- the words want a certificate to be written or checked
abbrev pub AsksOfCert : List (List ℕ) → Settings → Type 0
AsksOfCert words settings = Wants IsOfCert words settings

-- the words want a certificate
abbrev pub Certifies : List (List ℕ) → Settings → Type 0
Certifies words settings = Wants (λ form. form ≡ Cert) words settings

-- the words want the steps behind the program checked
abbrev pub Verifies : List (List ℕ) → Settings → Type 0
Verifies words settings = Wants (λ form. form ≡ Verify) words settings

-- the input of this form is not too long, and these are the tokens of its program
pub record HasTokens (form : Form) (input : List ℕ) (tokens : List Token) : Type 0 where
  pub fits : IsShort form input
  pub covered : Covers (program_of form input) (length (program_of form input)) tokens

-- the input of this form spells this program
pub record SpellsProgram (form : Form) (input : List ℕ) (p : Program) : Type 0 where
  pub tokens : List Token
  pub has : HasTokens form input tokens
  pub spelled : Spells program p (lexemes (program_of form input) tokens)

-- the input spells a program that breaks no rule, and means this plan
pub record HasPlan (input : List ℕ) (settings : Settings) (plan : Plan) : Type 0 where
  pub program : Program
  pub spells : SpellsProgram settings.form input program
  pub faultless : first_fault program settings ≡ None
  pub planned : IsPlanOf program settings plan
  pub valid : IsValid plan

-- the fault of asks as the program writes it
abbrev pub of_asks : EvalFault → Fault → Type 0
of_asks (evals.AskBeyond i) fault = fault ≡ faults.AskBeyond i
of_asks (evals.UnknownUnit i) fault = fault ≡ faults.UnknownUnit i
of_asks (evals.NoShare i) fault = fault ≡ faults.NoShare i
of_asks (evals.TooWide i width) fault = fault ≡ faults.TooWide i width
of_asks evals.OutOfMemory fault = ⊥

-- these steps certify the plan, with a grid that encloses its total
pub record AreVerified (plan : Plan) (steps : List ℕ) : Type 0 where
  pub grid : List (Iv 56)
  pub verified : IsVerified plan steps grid
  pub encloses : GridEncloses grid (total (aggregates_of plan))

-- Why nothing that was asked for is written, and the tokens in which the fault has its place. A
-- fault of the words comes first, then one of the input's length, and of the program's bytes,
-- tokens and syntax. All words but those that want the canonical form go on to the rules, and then
-- to the asks, or to what a certificate needs: a plan that is covered, and steps that pass. Where
-- the words name no seed, a failed read may come instead of any fault behind those of the words;
-- the contract of `run` says with which cause.
pub data Refuses (words : List (List ℕ)) (input : List ℕ) : Fault → List Token → Type 0 where
  usage : (fault : UsageFault) → words_of words ≡ Err fault
      → Refuses words input (faults.Usage fault) []
  not_read : (settings : Settings) → Say words settings → settings.make ≡ None
      → Refuses words input faults.Read []
  too_long : (settings : Settings) → Say words settings → IsTooLong settings.form input
      → Refuses words input faults.TooLong []
  bad_byte : (settings : Settings) → Say words settings → (at : ℕ) → IsShort settings.form input
      → IsBad (program_of settings.form input) at → Refuses words input (faults.BadByte at) []
  continuous : (settings : Settings) → Say words settings → (tokens : List Token) (k : ℕ)
      → HasTokens settings.form input tokens
      → Stops (lexemes (program_of settings.form input) tokens) k
      → IsContinuous (lexemes (program_of settings.form input) tokens) k
      → Refuses words input (faults.Continuous k) tokens
  syntax : (settings : Settings) → Say words settings → (tokens : List Token) (k : ℕ)
      → HasTokens settings.form input tokens
      → Stops (lexemes (program_of settings.form input) tokens) k
      → ¬ IsContinuous (lexemes (program_of settings.form input) tokens) k
      → Refuses words input (faults.Syntax k) tokens
  typing : (settings : Settings) → AsksOfPlan words settings → (p : Program)
      → SpellsProgram settings.form input p → (fault : TypeFault)
      → first_fault p settings ≡ Some fault → Refuses words input (faults.Typing fault) []
  not_covered : (settings : Settings) → AsksOfCert words settings → (plan : Plan)
      → HasPlan input settings plan → (unit : ℕ) → IsNotCovered plan unit
      → Refuses words input (faults.NotCovered unit) []
  bad_step : (settings : Settings) → Verifies words settings → (plan : Plan)
      → HasPlan input settings plan → (step : ℕ) → IsCovered plan
      → IsBadStep plan (steps_of settings.form input) step
      → Refuses words input (faults.BadStep step) []
  asking : (settings : Settings) → Asks words settings → (plan : Plan)
      → HasPlan input settings plan → (of : EvalFault) (fault : Fault) → of_asks of fault
      → RefusesAsks plan settings of → Refuses words input fault []

-- How the program ends, what it writes to the output, and what it writes of a fault. The output
-- gains a canonical text, a certificate, the word `verified` or a report.
pub data Answers (words : List (List ℕ)) (input : List ℕ) : Status → List ℕ → List ℕ → Type 0 where
  refused : (fault : Fault) (tokens : List Token) → Refuses words input fault tokens
      → Answers words input (status_of fault) []
      (fault_line fault (program_in words input) tokens)
  formatted : (settings : Settings) → Formats words settings → (p : Program)
      → SpellsProgram settings.form input p → Answers words input statuses.Done (canonical p) []
  certified : (settings : Settings) → Certifies words settings → (plan : Plan)
      → HasPlan input settings plan → (text : List ℕ) → IsCertificate plan text
      → length text ≤ most_cert_text → Answers words input statuses.Done text []
  verified : (settings : Settings) → Verifies words settings → (plan : Plan)
      → HasPlan input settings plan → AreVerified plan (steps_of settings.form input)
      → Answers words input statuses.Done (codes "verified\n") []
  reported : (settings : Settings) (plan : Plan) (report : Report) → Asks words settings
      → HasPlan input settings plan → IsAnswered plan settings report
      → Answers words input statuses.Done (written settings.format plan report) []

-- The words ask, the text spells a program that breaks no rule, and each ask is admitted, whichever
-- way the plan is written: inside the grid, of a unit that is there, and no narrower than the width
-- rule lets it be.
pub record IsAccepted (words : List (List ℕ)) (input : List ℕ) : Type 0 where
  pub settings : Settings
  pub asks : Asks words settings
  pub program : Program
  pub spells : SpellsProgram settings.form input program
  pub faultless : first_fault program settings ≡ None
  pub admitted : (plan : Plan) → IsPlanOf program settings plan → IsValid plan
      → AreAdmitted plan settings

-- the words want the canonical form, and the text spells a program, which may break a rule
pub record HasForm (words : List (List ℕ)) (input : List ℕ) : Type 0 where
  pub settings : Settings
  pub formats : Formats words settings
  pub program : Program
  pub spells : SpellsProgram settings.form input program

-- the input spells a program that breaks no rule and is covered, whichever way its plan is written
pub record HasCovered (input : List ℕ) (settings : Settings) : Type 0 where
  pub program : Program
  pub spells : SpellsProgram settings.form input program
  pub faultless : first_fault program settings ≡ None
  pub covered : (plan : Plan) → IsPlanOf program settings plan → IsValid plan → IsCovered plan

-- the words want a certificate, and the text spells a program that breaks no rule and is covered
pub record IsCertifiable (words : List (List ℕ)) (input : List ℕ) : Type 0 where
  pub settings : Settings
  pub certify : Certifies words settings
  pub has : HasCovered input settings

-- The words want steps checked, and the input has a program that breaks no rule and is covered, and
-- steps that certify the plan's total.
pub record IsVerifiable (words : List (List ℕ)) (input : List ℕ) : Type 0 where
  pub settings : Settings
  pub verify : Verifies words settings
  pub has : HasCovered input settings
  pub steps : (plan : Plan) → IsPlanOf has.program settings plan → IsValid plan
      → (grid : List (Iv 56)) × IsVerified plan (steps_of settings.form input) grid
