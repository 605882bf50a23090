-- How a call ends, and with which number.
use Rattle.std.specs.Prelude.{ℕ, ⊤}
use Rattle.dl_top.specs.declared.status.Status.{Status}
use Rattle.dl_top.specs.declared.status.Status.TheVariants.{Done, Usage, Refused, TooWide, ReadFault, WriteFault, OutOfMemory, AskFault}

-- the number that the program ends with
abbrev pub code_of : Status → ℕ
code_of Done = 0
code_of Usage = 2
code_of Refused = 3
code_of TooWide = 4
code_of ReadFault = 5
code_of WriteFault = 6
code_of OutOfMemory = 7
code_of AskFault = 8

-- what was asked for or the text of a fault was written whole
abbrev pub IsWritten : Status → Type 0
IsWritten WriteFault = ⊥
IsWritten OutOfMemory = ⊥
IsWritten status = ⊤

-- the text of a fault was written whole
abbrev pub IsRefusal : Status → Type 0
IsRefusal Done = ⊥
IsRefusal status = IsWritten status

-- the words were not understood, unless there was no memory for the fault's text or its write
-- failed
abbrev pub IsUsageEnd : Status → Type 0
IsUsageEnd Usage = ⊤
IsUsageEnd WriteFault = ⊤
IsUsageEnd OutOfMemory = ⊤
IsUsageEnd status = ⊥

-- neither the words, nor the text, nor the asks were at fault
abbrev pub IsAnswerEnd : Status → Type 0
IsAnswerEnd Usage = ⊥
IsAnswerEnd Refused = ⊥
IsAnswerEnd TooWide = ⊥
IsAnswerEnd AskFault = ⊥
IsAnswerEnd status = ⊤
