-- The parts of the words, from the left: options with their values, and positionals.
use Rattle.std.specs.Prelude.{ℕ, ◌==◌, Bool, List, [], ◌∷◌, Option, Some, None, option_map, if◌then◌else◌}
use Rattle.std.specs.List.{list_any, before_first, after_first}
use Rattle.std.specs.Str.{bytes_eq}
use Rattle.dl_arguments.specs.Options.{options}
use Rattle.dl_arguments.specs.Spelling.{Text}

-- an option with its value, or a positional
pub data Part : Type 0 where
  option : Text → Text → Part
  positional : Text → Part

-- the state of a reader: between two parts, before the value of an option, or behind `--`
pub data Mode : Type 0 where
  between : Mode
  value : Text → Mode
  ended : Mode

-- the kind of a word between two parts: `--`, `--NAME=v`, `--NAME`, one that no hyphen begins, or
-- one that fits nothing
pub data Kind : Type 0 where
  ends : Kind
  whole : Text → Text → Kind
  begins : Text → Kind
  plain : Kind
  misfit : Kind

-- the name of an option
abbrev pub is_name : Text → Bool
is_name name = list_any (λ row. bytes_eq row.0 name) options

abbrev pub is_equals : ℕ → Bool
is_equals c = c == 61

-- two hyphens and this text, which is not empty
abbrev pub named : Text → Kind
named text =
    if is_name (before_first is_equals text)
    then (if list_any is_equals text
    then whole (before_first is_equals text) (after_first is_equals text)
    else begins (before_first is_equals text))
    else misfit

abbrev pub after_hyphens : Text → Kind
after_hyphens [] = ends
after_hyphens (c ∷ cs) = named (c ∷ cs)

abbrev pub after_hyphen : Text → Kind
after_hyphen [] = misfit
after_hyphen (c ∷ cs) = if c == 45 then after_hyphens cs else misfit

-- the kind of a word
abbrev pub kind_of : Text → Kind
kind_of [] = plain
kind_of (c ∷ cs) = if c == 45 then after_hyphen cs else plain

abbrev pub with_part : Part → Option (List Part) → Option (List Part)
with_part p = option_map (λ ps. p ∷ ps)

-- a word of this kind, and the words behind it read as it leaves them
abbrev pub read_kind : Text → Kind → (Mode → Option (List Part)) → Option (List Part)
read_kind word ends next = next ended
read_kind word (whole name v) next = with_part (option name v) (next between)
read_kind word (begins name) next = next (value name)
read_kind word plain next = with_part (positional word) (next between)
read_kind word misfit next = None

-- the parts of the words, where each word fits
unfoldable pub parts_from : Mode → List Text → Option (List Part)
parts_from between [] = Some []
parts_from (value name) [] = None
parts_from ended [] = Some []
parts_from between (word ∷ rest) = read_kind word (kind_of word) (λ mode. parts_from mode rest)
parts_from (value name) (word ∷ rest) = with_part (option name word) (parts_from between rest)
parts_from ended (word ∷ rest) = with_part (positional word) (parts_from ended rest)

-- the parts of all words; none where the words fit no command
abbrev pub command_parts : List Text → Option (List Part)
command_parts = parts_from between

-- the values behind an option's name
abbrev pub option_values : Text → List Part → List Text
option_values name [] = []
option_values name (option n v ∷ ps) = if bytes_eq n name then v ∷ option_values name ps
    else option_values name ps
option_values name (positional w ∷ ps) = option_values name ps

-- the positionals
abbrev pub positionals_of : List Part → List Text
positionals_of [] = []
positionals_of (option n v ∷ ps) = positionals_of ps
positionals_of (positional w ∷ ps) = w ∷ positionals_of ps
