-- The values that `clap` found of an option, in terms of the words' definitions.
use Rattle.std.specs.Prelude.{◌≡◌, Bool, true, false, List, [], ◌∷◌, MatchOption, Option, Some, None, Result, codes, option_and_then, option_map, unwrap_or}
use Rattle.clap.specs.Matches.{first_value, matched_of, raw_values}
use Rattle.clap.specs.declared.parser.matches.Found.{Found}
use Rattle.dl_plan.specs.declared.settings.Form.{Form}
use Rattle.dl_plan.specs.declared.settings.Settings.{Settings}
use Rattle.dl_arguments.specs.declared.fault.UsageFault.{UsageFault}
use Rattle.dl_arguments.specs.Options.{Values, form_named, is_taken, or_default}
use Rattle.dl_arguments.specs.Spelling.{Text}
use Rattle.dl_arguments.specs.Words.{answer}

-- one value or none
abbrev pub list_of : Option Text → List Text
list_of None = []
list_of (Some text) = text ∷ []

-- the value that was found of each option
abbrev pub values_in : Found → Values
values_in found name = list_of (first_value found name)

-- the form among the words
abbrev pub form_in : Found → Option Form
form_in found = option_and_then form_named (first_value found (codes "form"))

-- the words of the asks, in order
abbrev pub asks_in : Found → List Text
asks_in found = unwrap_or (option_map raw_values (matched_of found (codes "asks"))) []

-- the settings or the fault of what was found
abbrev pub answer_in : Found → Result Settings UsageFault
answer_in found = answer (form_in found) (values_in found) (asks_in found)

-- the value of an option, its default where it is missing, or none where the option does not take
-- what is written there
abbrev pub TakesOption : {A : Type 0} → (Text → Bool) → A → (Text → A) → List Text
    → Option A → Type 0
TakesOption takes default read texts result =
    MatchOption result (is_taken takes texts ≡ false)
    (λ value. (is_taken takes texts ≡ true) × (value ≡ or_default default read texts))
