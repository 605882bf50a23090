-- The command of the words, as `clap` is given it.
use Rattle.std.specs.Prelude.{Some, codes, true}
use Rattle.clap.specs.Words.{App, Rule, Text, new_app, new_rule, with_rule}
use Rattle.clap.specs.Simple.{on_top}
use Rattle.clap.specs.declared.builder.action.ArgAction.TheVariants.{Append}

-- the first positional word
abbrev pub form : Rule
form = record (new_rule (codes "form")) { required = true }

-- all other positional words
abbrev pub asks : Rule
asks = record (new_rule (codes "asks")) { action = Some Append }

-- an option is named by its long name
abbrev pub option_of : Text → Rule
option_of name = record (new_rule name) { long = Some name }

-- the command with no argument yet
abbrev pub bare_command : App
bare_command = on_top (λ s. record s { no_binary_name = true }) (new_app (codes "decl"))

-- the command with its positional words and no option
abbrev pub positionals : App
positionals = with_rule (with_rule bare_command form) asks

-- the command with one more option
abbrev pub with_option : App → Text → App
with_option app name = with_rule app (option_of name)

-- a form, asks, and eight options with a value each
abbrev pub command : App
command =
    with_option (with_option (with_option (with_option
    (with_option (with_option (with_option (with_option positionals (codes "make")) (codes "bs"))
    (codes "log2")) (codes "digits")) (codes "width")) (codes "mwidth")) (codes "format")) (codes "rules")
