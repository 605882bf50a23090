-- Why no report is written, and what is printed then.
use Rattle.std.specs.Prelude.{ℕ, ⊤, ◌≤◌, List, [], ◌++◌, length, Option, Some, None, slice_get, codes}
use Rattle.std.specs.Fmt.{decimal}
use Rattle.dl_lexer.specs.declared.token.Token.{Token}
use Rattle.dl_lexer.specs.Lines.{line_of, column_of}
use Rattle.dl_ast.specs.Lexemes.{lexeme}
use Rattle.dl_arguments.specs.declared.fault.UsageFault.{UsageFault}
use Rattle.dl_arguments.specs.declared.fault.UsageFault.TheVariants as usage
use Rattle.dl_rules.specs.Names.{rule_name, rule_number}
use Rattle.dl_rules.specs.declared.fault.TypeFault.{TypeFault}
use Rattle.dl_top.specs.declared.status.Status.{Status}
use Rattle.dl_top.specs.declared.status.Status.TheVariants as statuses
use Rattle.dl_top.specs.declared.fault.Fault.{Fault}
use Rattle.dl_top.specs.declared.fault.Fault.TheVariants.{Usage, Read, TooLong, BadByte, Syntax, Continuous, Typing, NotCovered, BadStep, AskBeyond, UnknownUnit, NoShare, TooWide}

-- how a call with the fault ends, where its text can be written
abbrev pub status_of : Fault → Status
status_of (Usage fault) = statuses.Usage
status_of Read = statuses.ReadFault
status_of TooLong = statuses.Refused
status_of (BadByte at) = statuses.Refused
status_of (Syntax k) = statuses.Refused
status_of (Continuous k) = statuses.Refused
status_of (Typing fault) = statuses.Refused
status_of (NotCovered u) = statuses.Refused
status_of (BadStep k) = statuses.Refused
status_of (AskBeyond i) = statuses.AskFault
status_of (UnknownUnit i) = statuses.AskFault
status_of (NoShare i) = statuses.AskFault
status_of (TooWide i width) = statuses.TooWide

-- the line and the column of a place
abbrev pub line_col_text : List ℕ → ℕ → List ℕ
line_col_text source at = decimal (line_of source at) ++ codes ":" ++ decimal (column_of source at)
    ++ codes ": "

-- where a token starts; past the last one, where the text ends
abbrev pub token_start : List ℕ → Option Token → ℕ
token_start source (Some token) = token.span.start
token_start source None = length source

-- the bytes of a token; none past the last one
abbrev pub token_text : List ℕ → Option Token → List ℕ
token_text source (Some token) = (lexeme source token).text
token_text source None = []

-- asks, units and steps are counted from 0
abbrev pub ask_text : ℕ → List ℕ
ask_text i = codes "ask " ++ decimal i ++ codes ": "

abbrev pub unit_text : ℕ → List ℕ
unit_text u = codes "unit " ++ decimal u ++ codes ": "

abbrev pub step_text : ℕ → List ℕ
step_text k = codes "step " ++ decimal k ++ codes ": "

abbrev pub usage_text : UsageFault → List ℕ
usage_text usage.Line = codes "usage"
usage_text (usage.Ask i) = ask_text i ++ codes "not an ask"

-- the place, the unit, and the rule by its number and its name
abbrev pub typing_text : TypeFault → List ℕ → List ℕ
typing_text fault source =
    line_col_text source fault.span.start ++ codes "unit " ++ decimal fault.unit ++ codes ": rule "
    ++ decimal (rule_number fault.rule) ++ codes " "
    ++ rule_name fault.rule

-- the text of a fault, in an input with these tokens
abbrev pub reason : Fault → List ℕ → List Token → List ℕ
reason (Usage fault) source tokens = usage_text fault
reason Read source tokens = codes "the input could not be read"
reason TooLong source tokens = codes "the input has more than 1048576 bytes"
reason (BadByte at) source tokens = line_col_text source at ++ codes "no token begins here"
reason (Syntax k) source tokens = line_col_text source (token_start source (slice_get tokens k))
    ++ codes "syntax"
reason (Continuous k) source tokens = line_col_text source (token_start source (slice_get tokens k))
    ++ codes "continuous severity " ++ token_text source (slice_get tokens k)
reason (Typing fault) source tokens = typing_text fault source
reason (NotCovered u) source tokens = unit_text u ++ codes "not covered"
reason (BadStep k) source tokens = step_text k ++ codes "not verified"
reason (AskBeyond i) source tokens = ask_text i ++ codes "beyond the grid"
reason (UnknownUnit i) source tokens = ask_text i ++ codes "no such unit"
reason (NoShare i) source tokens = ask_text i ++ codes "no share under a common factor"
reason (TooWide i width) source tokens = ask_text i ++ codes "needs width " ++ decimal width

-- the line that is printed
abbrev pub fault_line : Fault → List ℕ → List Token → List ℕ
fault_line fault source tokens = codes "decl: " ++ reason fault source tokens ++ codes "\n"

-- the place of a bad byte lies in the text
abbrev pub IsInSource : Fault → List ℕ → Type 0
IsInSource (BadByte at) source = at ≤ length source
IsInSource fault source = ⊤
