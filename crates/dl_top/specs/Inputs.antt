-- Which text a call is about.
use Rattle.std.specs.Prelude.{◌≡◌, ◌+◌, ◌≤◌, ◌<◌, ◌⊎◌, ◌&&◌, ◌||◌, ℕ, Bool, true, List, [], ◌∷◌, length, take, drop, codes, nat_eq, Option, Some, None, Result, Ok, Err, if◌then◌else◌}
use Rattle.std.specs.List.{starts_with}
use Rattle.std.specs.Str.{bytes_eq}
use Rattle.dl_limits.specs.Limits.{most_text, most_steps_text}
use Rattle.dl_lexer.specs.Lines.{is_newline}
use Rattle.dl_plan.specs.declared.settings.Form.{Form}
use Rattle.dl_plan.specs.declared.settings.Form.TheVariants.{Run, Fmt, Cert, Verify}
use Rattle.dl_plan.specs.declared.settings.Settings.{Settings}
use Rattle.dl_arguments.specs.declared.fault.UsageFault.{UsageFault}
use Rattle.dl_arguments.specs.Words.{words_of}
use Rattle.dl_top.specs.Made.{made_of}

-- the words say these settings
abbrev pub Say : List (List ℕ) → Settings → Type 0
Say words settings = words_of words ≡ Ok settings

-- the words have a fault
abbrev pub HasFault : List (List ℕ) → Type 0
HasFault words = (fault : UsageFault) × (words_of words ≡ Err fault)

-- the words have no fault, and name the seed of a program
pub record MakeText (words : List (List ℕ)) : Type 0 where
  pub settings : Settings
  pub say : Say words settings
  pub seed : ℕ
  pub named : settings.make ≡ Some seed

-- the words have no fault, and name no seed
pub record ReadText (words : List (List ℕ)) : Type 0 where
  pub settings : Settings
  pub say : Say words settings
  pub seedless : settings.make ≡ None

-- the program from a seed, where there is one, else what the source has left
abbrev pub text_for : Option ℕ → Option (List ℕ) → Option (List ℕ)
text_for (Some seed) left = Some (made_of seed)
text_for None left = left

-- the same by the settings of the words; where these have a fault, what the source has left
abbrev pub text_by : Result Settings UsageFault → Option (List ℕ) → Option (List ℕ)
text_by (Ok settings) left = text_for settings.make left
text_by (Err fault) left = left

-- the text that the words are about: the program from a seed where they name one, else what the
-- source has left, where that is known
unfoldable pub input_of : List (List ℕ) → Option (List ℕ) → Option (List ℕ)
input_of words left = text_by (words_of words) left

-- ---- the parts of an input

-- how many bytes an input may have: a program, or with `verify` a program and steps
abbrev pub limit_of : Form → ℕ
limit_of Run = most_text
limit_of Fmt = most_text
limit_of Cert = most_text
limit_of Verify = most_steps_text

-- the first line of the text is `---`
abbrev pub is_divided : List ℕ → Bool
is_divided text = starts_with nat_eq text (codes "---\n") || bytes_eq text (codes "---")

-- the number of bytes before the first line that is `---`: all, where there is none; `begins` says
-- whether a line begins at the start of the text
unfoldable pub length_to_steps : Bool → List ℕ → ℕ
length_to_steps begins [] = 0
length_to_steps begins (byte ∷ rest) =
    if begins && is_divided (byte ∷ rest) then 0 else 1 + length_to_steps (is_newline byte) rest

-- the program: the input, or with `verify` the bytes before the first line that is `---`
abbrev pub program_of : Form → List ℕ → List ℕ
program_of Run input = input
program_of Fmt input = input
program_of Cert input = input
program_of Verify input = take (length_to_steps true input) input

-- the steps: with `verify` what follows the newline of that line
abbrev pub steps_of : Form → List ℕ → List ℕ
steps_of Run input = []
steps_of Fmt input = []
steps_of Cert input = []
steps_of Verify input = drop (length_to_steps true input + 4) input

-- the program by the settings of the words, or the input where these have a fault
abbrev pub program_by : Result Settings UsageFault → List ℕ → List ℕ
program_by (Ok settings) input = program_of settings.form input
program_by (Err fault) input = input

-- the program in an input that the words are about
unfoldable pub program_in : List (List ℕ) → List ℕ → List ℕ
program_in words input = program_by (words_of words) input

-- neither the input nor its program is too long
pub record IsShort (form : Form) (input : List ℕ) : Type 0 where
  pub all : length input ≤ limit_of form
  pub program : length (program_of form input) ≤ most_text

-- the input is too long, or its program
abbrev pub IsTooLong : Form → List ℕ → Type 0
IsTooLong form input = (limit_of form < length input) ⊎ (most_text < length (program_of form input))

-- how many bytes an input of the words may have
abbrev pub limit_by : Result Settings UsageFault → ℕ
limit_by (Ok settings) = limit_of settings.form
limit_by (Err fault) = most_text

-- the most bytes of an input for these words
unfoldable pub limit_for : List (List ℕ) → ℕ
limit_for words = limit_by (words_of words)
