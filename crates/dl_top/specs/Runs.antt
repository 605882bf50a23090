-- What a call of the program leaves behind.
use Rattle.std.specs.Prelude.{◌≡◌, ◌≢◌, ◌+◌, ◌⊎◌, ℕ, List, [], Option, IfSome, Err}
use Rattle.std.specs.Io.KnownBytes.{Appends}
use Rattle.dl_streams.specs.Prelude.{AppendsPartOf, TakesAtMost, Rose, Step, Reading}
use Rattle.dl_streams.specs.declared.ReadFailed.{ReadFailed}
use Rattle.dl_arguments.specs.declared.fault.UsageFault.{UsageFault}
use Rattle.dl_arguments.specs.Words.{words_of}
use Rattle.dl_top.specs.declared.status.Status.{Status}
use Rattle.dl_top.specs.declared.status.Status.TheVariants as statuses
use Rattle.dl_top.specs.declared.fault.Fault.TheVariants as faults
use Rattle.dl_top.specs.Faults.{fault_line}
use Rattle.dl_top.specs.Statuses.{IsWritten, IsRefusal, IsUsageEnd, IsAnswerEnd}
use Rattle.dl_top.specs.Inputs.{HasFault, MakeText, ReadText, input_of, limit_for}
use Rattle.dl_top.specs.Answers.{Answers, IsAccepted, HasForm, IsCertifiable, IsVerifiable}

-- the status and what the two sinks gained follow from the words and the input
pub record Answered (words : List (List ℕ)) (input : List ℕ) (status : Status)
    (out out' err err' : Option (List ℕ)) : Type 0 where
  pub report : List ℕ
  pub message : List ℕ
  pub answer : Answers words input status report message
  pub out_gains : Appends out out' report
  pub err_gains : Appends err err' message

-- the output holds a proper part of what is written for the words and the input
pub record PartOfReport (words : List (List ℕ)) (input : List ℕ)
    (out out' : Option (List ℕ)) : Type 0 where
  pub report : List ℕ
  pub answer : Answers words input statuses.Done report []
  pub gains : AppendsPartOf out out' report

-- the output of faults holds a proper part of the message for the words and the input; where that
-- is of a failed read, a read failed
pub record PartOfMessage (words : List (List ℕ)) (input : List ℕ) (ReadFailed : Type 0)
    (err err' : Option (List ℕ)) : Type 0 where
  pub status : Status
  pub message : List ℕ
  pub answer : Answers words input status [] message
  pub gains : AppendsPartOf err err' message
  pub read : status ≡ statuses.ReadFault → ReadFailed

-- All that `run` promises of a call over these words, with the source and the two sinks before and
-- after it, that ended with the status: its clauses, under their names. Of the source the members
-- are what is left, the failed reads, and what one read may do; of each sink what it holds, and the
-- failed writes.
pub record Ran {R O E : Type 0} (left : R → Option (List ℕ)) (failed_reads : R → ℕ)
    (read_step : Step R ReadFailed) (report : O → Option (List ℕ)) (failed_reports : O → ℕ)
    (message : E → Option (List ℕ)) (failed_messages : E → ℕ) (words : List (List ℕ)) (src src' : R)
    (out out' : O) (err err' : E) (status : Status) : Type 0 where
  pub answer : IfSome (input_of words (left src)) (λ input. IsWritten status
      → Answered words input status (report out) (report out') (message err) (message err'))
  pub complete : IfSome (input_of words (left src)) (λ input.
      IsAccepted words input → IsAnswerEnd status)
  pub formatted : IfSome (input_of words (left src)) (λ input.
      HasForm words input → IsAnswerEnd status)
  pub certified : IfSome (input_of words (left src)) (λ input.
      IsCertifiable words input → IsAnswerEnd status)
  pub verified : IfSome (input_of words (left src)) (λ input.
      IsVerifiable words input → IsAnswerEnd status)
  pub done : status ≡ statuses.Done → err' ≡ err
  pub refused : IsRefusal status → out' ≡ out
  pub memory : status ≡ statuses.OutOfMemory → (out' ≡ out) × (err' ≡ err)
  pub usage : status ≡ statuses.Usage → HasFault words
  pub unread : HasFault words → IsUsageEnd status × (src' ≡ src)
  pub usage_text : (fault : UsageFault) → words_of words ≡ Err fault → status ≡ statuses.Usage
      → Appends (message err) (message err') (fault_line (faults.Usage fault) [] [])
  pub usage_part : (fault : UsageFault) → words_of words ≡ Err fault
      → status ≡ statuses.WriteFault → (out' ≡ out)
      × AppendsPartOf (message err) (message err') (fault_line (faults.Usage fault) [] [])
  pub made : MakeText words → (src' ≡ src) × (status ≢ statuses.ReadFault)
  pub taken : TakesAtMost (left src) (left src') (limit_for words + 1)
  pub reading : Reading read_step src (limit_for words + 1) src'
  pub read_cause : status ≡ statuses.ReadFault → Rose (failed_reads src) (failed_reads src')
  pub read_words : status ≡ statuses.ReadFault → ReadText words
  pub read_text : status ≡ statuses.ReadFault
      → Appends (message err) (message err') (fault_line faults.Read [] [])
  pub write_cause : status ≡ statuses.WriteFault
      → (Rose (failed_reports out) (failed_reports out') × (err' ≡ err)
      × IfSome (input_of words (left src)) (λ input.
      PartOfReport words input (report out) (report out')))
      ⊎ (Rose (failed_messages err) (failed_messages err') × (out' ≡ out)
      × IfSome (input_of words (left src)) (λ input.
      PartOfMessage words input (Rose (failed_reads src) (failed_reads src'))
      (message err) (message err')))
