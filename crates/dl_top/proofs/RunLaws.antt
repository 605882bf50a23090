-- What a call leaves behind once the text of a fault was written, whole or in part.
use Rattle.dl_top.proofs.Common.{ℕ, ◌≡◌, List, [], Option, Some, None, IfSome, arith, refl, AppendsPartOf, Step, Token, UsageFault, Fault, Usage, Read, TooLong, BadByte, Syntax, Continuous, Typing, NotCovered, BadStep, status_of, fault_line, program_in, Answers, Refuses, IsAccepted, HasForm, IsCertifiable, IsVerifiable, refused}
use Rattle.std.specs.Bool.{⊤}
use Rattle.std.specs.Io.KnownBytes.{Appends}
use Rattle.dl_streams.specs.declared.ReadFailed.{ReadFailed}
use Rattle.dl_streams.proofs.Appended.{appends_nothing}
use Rattle.dl_top.specs.declared.status.Status.{Status}
use Rattle.dl_top.specs.declared.status.Status.TheVariants as statuses
use Rattle.dl_top.specs.declared.fault.Fault.TheVariants.{AskBeyond, UnknownUnit, NoShare, TooWide}
use Rattle.dl_top.specs.Statuses.{IsWritten, IsAnswerEnd}
use Rattle.dl_top.specs.Runs.{Answered, PartOfMessage, Ran}
use Rattle.dl_top.proofs.ReplyLaws.{always, none_taken, none_read}

-- the fault that a text was made of
abbrev pub IsTold : List (List ℕ) → List ℕ → Fault → List ℕ → Type 0
IsTold words input fault text = (tokens : List Token) × Refuses words input fault tokens
    × (text ≡ fault_line fault (program_in words input) tokens)

told_answer : (words : List (List ℕ)) (input : List ℕ) (fault : Fault) (text : List ℕ) → IsTold words input fault text
    → Answers words input (status_of fault) [] text
told_answer words input fault text (tokens, refuses, is) = rw is (refused fault tokens refuses)

pub message : (words : List (List ℕ)) (input : List ℕ) (fault : Fault) (text : List ℕ) (status : Status)
    (out err err' : Option (List ℕ))
    → IsTold words input fault text → status ≡ status_of fault → Appends err err' text
    → Answered words input status out out err err'
message words input fault text status out err err' is e gains = record {
  report = [];
  message = text;
  answer = rw e (told_answer words input fault text is);
  out_gains = appends_nothing out;
  err_gains = gains;
}

-- the statuses of a failed read and of a usage fault tell the fault
pub status_tells : (fault : Fault) → (status_of fault ≡ statuses.ReadFault → fault ≡ Read) ×
    (status_of fault ≡ statuses.Usage → (of : UsageFault) × (fault ≡ Usage of))
status_tells (Usage of) = (λ e. absurd (cc), λ e. (of, refl))
status_tells Read = (λ e. refl, λ e. absurd (cc))
status_tells TooLong = (λ e. absurd (cc), λ e. absurd (cc))
status_tells (BadByte at) = (λ e. absurd (cc), λ e. absurd (cc))
status_tells (Syntax k) = (λ e. absurd (cc), λ e. absurd (cc))
status_tells (Continuous k) = (λ e. absurd (cc), λ e. absurd (cc))
status_tells (Typing of) = (λ e. absurd (cc), λ e. absurd (cc))
status_tells (NotCovered u) = (λ e. absurd (cc), λ e. absurd (cc))
status_tells (BadStep k) = (λ e. absurd (cc), λ e. absurd (cc))
status_tells (AskBeyond i) = (λ e. absurd (cc), λ e. absurd (cc))
status_tells (UnknownUnit i) = (λ e. absurd (cc), λ e. absurd (cc))
status_tells (NoShare i) = (λ e. absurd (cc), λ e. absurd (cc))
status_tells (TooWide i width) = (λ e. absurd (cc), λ e. absurd (cc))

pub part : (words : List (List ℕ)) (input : List ℕ) (fault : Fault) (text : List ℕ)
    (err err' : Option (List ℕ)) {ReadFailed : Type 0}
    → IsTold words input fault text → (fault ≡ Read → ReadFailed) → AppendsPartOf err err' text
    → PartOfMessage words input ReadFailed err err'
part words input fault text err err' is read gains = record {
  status = status_of fault;
  message = text;
  answer = told_answer words input fault text is;
  gains = gains;
  read = λ e. read ((status_tells fault).0 e);
}

-- what is refused for a failed read alone ends well
pub ends_well : (words : List (List ℕ)) (left : Option (List ℕ)) (fault : Fault) (text : List ℕ) (status : Status)
    {Asks : List ℕ → Type 0} → IfSome left (λ input. IsTold words input fault text) → status ≡ status_of fault
    → ((input : List ℕ) → Asks input → (f : Fault) (tokens : List Token) → Refuses words input f tokens → f ≡ Read)
    → IfSome left (λ input. Asks input → IsAnswerEnd status)
ends_well words None fault text status told e settled = tt
ends_well words (Some input) fault text status (tokens, refuses, is) e settled = λ asks.
    let read : fault ≡ Read = settled input asks fault tokens refuses in
    rw (e, read) tt

-- an end that answers is right for all that ask
pub ends_so : (left : Option (List ℕ)) (Asks : List ℕ → Type 0) → IfSome left (λ input. Asks input → ⊤)
ends_so None asks = tt
ends_so (Some input) asks = λ wants. tt

-- a call that found no memory and moved nothing keeps all that `run` promises
pub moved_nothing : {R O E : Type 0} (left : R → Option (List ℕ)) (failed_reads : R → ℕ) (read_step : Step R ReadFailed)
    (report : O → Option (List ℕ)) (failed_reports : O → ℕ) (message : E → Option (List ℕ)) (failed_messages : E → ℕ)
    (words : List (List ℕ)) (src : R) (out : O) (err : E)
    → Ran left failed_reads read_step report failed_reports message failed_messages words src src out out err err
    statuses.OutOfMemory
moved_nothing left failed_reads read_step report failed_reports message failed_messages words src out err = record {
  answer = always _ {Q = λ input. IsWritten statuses.OutOfMemory
      → Answered words input statuses.OutOfMemory (report out) (report out) (message err) (message err)}
      (λ input written. absurd written);
  complete = always _ {Q = λ input. IsAccepted words input → IsAnswerEnd statuses.OutOfMemory} (λ input accepted. tt);
  formatted = always _ {Q = λ input. HasForm words input → IsAnswerEnd statuses.OutOfMemory} (λ input form. tt);
  certified = always _ {Q = λ input. IsCertifiable words input → IsAnswerEnd statuses.OutOfMemory} (λ input can. tt);
  verified = always _ {Q = λ input. IsVerifiable words input → IsAnswerEnd statuses.OutOfMemory} (λ input can. tt);
  done = λ e. refl;
  refused = λ refusal. refl;
  memory = λ e. (refl, refl);
  usage = λ e. absurd (grind (arith, e));
  unread = λ fault. (tt, refl);
  usage_text = λ fault of e. absurd (grind (arith, e));
  usage_part = λ fault of e. absurd (grind (arith, e));
  made = λ making. (refl, λ e. grind (arith, e));
  taken = none_taken _ _;
  reading = none_read _ _;
  read_cause = λ e. absurd (grind (arith, e));
  read_words = λ e. absurd (grind (arith, e));
  read_text = λ e. absurd (grind (arith, e));
  write_cause = λ e. absurd (grind (arith, e));
}
