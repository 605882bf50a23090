-- The meaning of a reply before it is written.
use Rattle.std.specs.Prelude.{◌≡◌, ◌≢◌, ◌≤◌, ℕ, List, [], ⊤, All, IsUtf8}
use Rattle.dl_lexer.specs.declared.token.Token.{Token}
use Rattle.dl_plan.specs.declared.settings.Form.{Form}
use Rattle.dl_plan.specs.declared.settings.Settings.{Settings}
use Rattle.dl_plan.specs.Prelude.{IsOfCert, AreInRange}
use Rattle.dl_arguments.specs.Options.{most_cert_log2}
use Rattle.dl_top.specs.declared.fault.Fault.{Fault}
use Rattle.dl_arguments.specs.declared.fault.UsageFault.{UsageFault}
use Rattle.dl_top.specs.declared.fault.Fault.TheVariants.{Usage, Read}
use Rattle.dl_top.specs.declared.reply.Reply.{Reply}
use Rattle.dl_top.specs.declared.reply.Reply.TheVariants.{Answer, Refusal, OutOfMemory}
use Rattle.dl_top.specs.declared.status.Status.TheVariants as statuses
use Rattle.dl_top.specs.Faults.{fault_line}
use Rattle.dl_top.specs.Answers.{Answers, Refuses}
use Rattle.dl_top.specs.Inputs.{program_in, program_of, steps_of, IsShort}

-- the reply is what the program writes for the words and the input, unless memory ran out
abbrev pub IsReply : List (List ℕ) → List ℕ → Reply → Type 0
IsReply words input (Answer text) = Answers words input statuses.Done text.items []
IsReply words input (Refusal fault text) = (tokens : List Token) × Refuses words input fault tokens
    × (text.items ≡ fault_line fault (program_in words input) tokens)
IsReply words input OutOfMemory = ⊤

-- the reply is a refusal for this fault, with its text, unless memory ran out
abbrev pub IsRefusalOf : Reply → Fault → List ℕ → List Token → Type 0
IsRefusalOf (Answer text) fault source tokens = ⊥
IsRefusalOf (Refusal f text) fault source tokens = (f ≡ fault)
    × (text.items ≡ fault_line fault source tokens)
IsRefusalOf OutOfMemory fault source tokens = ⊤

-- the reply is this text, unless memory ran out
abbrev pub IfAnswer : Reply → List ℕ → Type 0
IfAnswer (Answer text) bytes = text.items ≡ bytes
IfAnswer (Refusal fault text) bytes = ⊥
IfAnswer OutOfMemory bytes = ⊤

-- a refusal because a read failed
abbrev pub IsReadFault : Reply → Type 0
IsReadFault (Answer text) = ⊥
IsReadFault (Refusal fault text) = fault ≡ Read
IsReadFault OutOfMemory = ⊥

-- a refusal of the words
abbrev pub IsUsage : Reply → Type 0
IsUsage (Answer text) = ⊥
IsUsage (Refusal fault text) = (of : UsageFault) × (fault ≡ Usage of)
IsUsage OutOfMemory = ⊥

-- what was asked for, or a refusal of the text: neither of the words nor for a failed read
abbrev pub IsOfText : Reply → Type 0
IsOfText (Answer text) = ⊤
IsOfText (Refusal fault text) = ((of : UsageFault) → fault ≢ Usage of) × (fault ≢ Read)
IsOfText OutOfMemory = ⊤

-- an input of this form that is not too long has this program, and these steps behind it
pub record HasParts (form : Form) (input source behind : List ℕ) : Type 0 where
  pub fits : IsShort form input
  pub program : program_of form input ≡ source
  pub steps : steps_of form input ≡ behind

-- settings as words say them: in their ranges, the asks are text, and a plan that is to have a
-- certificate has few cells
pub record AreReady (settings : Settings) : Type 0 where
  pub ranges : AreInRange settings
  pub texts : All (λ asked. IsUtf8 asked.text) settings.asks
  pub cells : IsOfCert settings.form → settings.log2 ≤ most_cert_log2
