-- The asks of the command line.
use Rattle.std.specs.Prelude.{ℕ, ◌+◌, List, [], ◌∷◌, Option, Some, None, Result, Ok, Err}
use Rattle.std.specs.Result.{result_map_both}
use Rattle.dl_limits.specs.declared.rules.Rules.{Rules}
use Rattle.dl_plan.specs.declared.settings.Ask.{Ask}
use Rattle.dl_plan.specs.declared.settings.Asked.{Asked}
use Rattle.dl_arguments.specs.Spelling.{Text}
use Rattle.dl_arguments.specs.Table.{ask_of}

-- an ask with the text that it was written with, in front of the others or of the first misfit's
-- index
abbrev pub with_ask : Text → Option Ask → Result (List Asked) ℕ → Result (List Asked) ℕ
with_ask text None rest = Err 0
with_ask text (Some ask) rest = result_map_both (λ asks. record { text = text; ask = ask } ∷ asks)
    (λ i. 1 + i) rest

-- the asks that the texts spell by these rules, or the index of the first that spells none
unfoldable pub asks_of : Rules → List Text → Result (List Asked) ℕ
asks_of rules [] = Ok []
asks_of rules (text ∷ rest) = with_ask text (ask_of rules text) (asks_of rules rest)
