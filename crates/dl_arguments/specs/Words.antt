-- The settings that the words spell, or their first fault.
use Rattle.std.specs.Prelude.{ℕ, ◌==◌, ◌&&◌, Bool, List, [], ◌∷◌, Option, Some, None, Result, Ok, Err, length, nat_le, nat_lt, if◌then◌else◌}
use Rattle.std.specs.List.{list_all}
use Rattle.dl_limits.specs.Limits.{most_asks}
use Rattle.dl_plan.specs.declared.settings.Asked.{Asked}
use Rattle.dl_plan.specs.declared.settings.Form.{Form}
use Rattle.dl_plan.specs.declared.settings.Form.TheVariants.{Run, Fmt, Cert, Verify}
use Rattle.dl_plan.specs.declared.settings.Settings.{Settings}
use Rattle.dl_arguments.specs.declared.fault.UsageFault.{UsageFault}
use Rattle.dl_arguments.specs.declared.fault.UsageFault.TheVariants.{Line, Ask}
use Rattle.dl_arguments.specs.Asks.{asks_of}
use Rattle.dl_arguments.specs.Options.{Values, are_taken, are_of_cert, are_of_verify, form_named, is_make_alone, rules_in, settings_of}
use Rattle.dl_arguments.specs.Parts.{Part, command_parts, positionals_of, option_values}
use Rattle.dl_arguments.specs.Spelling.{Text, begins_plainly}

-- `run` has 1 to 256 asks, and the other forms have none; `fmt` has no option but `--make`, `cert`
-- none but `--make`, `--bs` and `--log2`, and `verify` none but the last two of these
abbrev pub admits : Form → Values → List Text → Bool
admits Run values asks = nat_lt 0 (length asks) && nat_le (length asks) most_asks
admits Fmt values asks = length asks == 0 && is_make_alone values
admits Cert values asks = length asks == 0 && are_of_cert values
admits Verify values asks = length asks == 0 && are_of_verify values

-- the settings with these asks, or the index of the first that is none
abbrev pub with_asks : Form → Values → Result (List Asked) ℕ → Result Settings UsageFault
with_asks form values (Ok asks) = Ok (settings_of form values asks)
with_asks form values (Err i) = Err (Ask i)

-- the settings of a form, the values of the options, and asks; or the fault
abbrev pub answer : Option Form → Values → List Text → Result Settings UsageFault
answer None values asks = Err Line
answer (Some form) values asks =
    if are_taken values && list_all begins_plainly asks && admits form values asks
    then with_asks form values (asks_of (rules_in values) asks) else Err Line

-- the settings of the values of the options and the positionals: the first positional is the form
abbrev pub to_positionals : Values → List Text → Result Settings UsageFault
to_positionals values [] = Err Line
to_positionals values (form ∷ asks) = answer (form_named form) values asks

-- the settings of the parts of the words; the fault `Line` where there are none
abbrev pub to_parts : Option (List Part) → Result Settings UsageFault
to_parts None = Err Line
to_parts (Some ps) = to_positionals (λ name. option_values name ps) (positionals_of ps)

-- the settings that the words spell, or their first fault
abbrev pub words_of : List Text → Result Settings UsageFault
words_of words = to_parts (command_parts words)
