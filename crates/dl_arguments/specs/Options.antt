-- The options of the command line, the values that each takes, and the default of one that is not
-- there.
use Rattle.std.specs.Prelude.{ℕ, Bool, List, [], ◌∷◌, ◌&&◌, Option, Some, None, codes, if◌then◌else◌, is_some, length, drop, nat_le, unwrap_or, ◌==◌}
use Rattle.std.specs.List.{list_all}
use Rattle.std.specs.Str.{bytes_eq}
use Rattle.dl_limits.specs.Limits.{most_digits, most_log2, most_width, most_mean_width}
use Rattle.dl_limits.specs.declared.rules.Rules.{Rules}
use Rattle.dl_limits.specs.declared.rules.Rules.TheVariants.{Standard, Extended}
use Rattle.dl_exact.specs.Fraction.{whole}
use Rattle.dl_frac.specs.Numerals.{numeral_value}
use Rattle.dl_plan.specs.declared.settings.Asked.{Asked}
use Rattle.dl_plan.specs.declared.settings.Form.{Form}
use Rattle.dl_plan.specs.declared.settings.Form.TheVariants.{Run, Fmt, Cert, Verify}
use Rattle.dl_plan.specs.declared.settings.Format.{Format}
use Rattle.dl_plan.specs.declared.settings.Format.TheVariants.{Plain, Csv, Json}
use Rattle.dl_plan.specs.declared.settings.Settings.{Settings}
use Rattle.dl_arguments.specs.Spelling.{Text, is_bucket, is_number_within}
use Rattle.dl_bytes.specs.Prelude.{number}

-- the format of this name
abbrev pub format_named : Text → Option Format
format_named text =
    if bytes_eq text (codes "text") then Some Plain
    else if bytes_eq text (codes "csv") then Some Csv
    else if bytes_eq text (codes "json") then Some Json
    else None

-- the text names a format
abbrev pub is_format : Text → Bool
is_format text = is_some (format_named text)

-- the set of rules of this name
abbrev pub rules_named : Text → Option Rules
rules_named text =
    if bytes_eq text (codes "standard") then Some Standard
    else if bytes_eq text (codes "extended") then Some Extended
    else None

-- the text names a set of rules
abbrev pub is_rules : Text → Bool
is_rules text = is_some (rules_named text)

-- the form of this name
abbrev pub form_named : Text → Option Form
form_named text =
    if bytes_eq text (codes "run") then Some Run
    else if bytes_eq text (codes "fmt") then Some Fmt
    else if bytes_eq text (codes "cert") then Some Cert
    else if bytes_eq text (codes "verify") then Some Verify
    else None

-- the name of an option, and whether it takes a value
abbrev pub Row : Type 0
Row = Text × (Text → Bool)

-- the table of the options
abbrev pub options : List Row
options =
    (codes "make", is_number_within 0 4294967295)
    ∷ (codes "bs", is_bucket)
    ∷ (codes "log2", is_number_within 1 most_log2)
    ∷ (codes "digits", is_number_within 1 most_digits)
    ∷ (codes "width", is_number_within 1 most_width)
    ∷ (codes "mwidth", is_number_within 1 most_mean_width)
    ∷ (codes "format", is_format)
    ∷ (codes "rules", is_rules)
    ∷ []

-- the values behind each option's name
abbrev pub Values : Type 0
Values = Text → List Text

-- an option is given at most once, with a value that it takes
abbrev pub is_taken : (Text → Bool) → List Text → Bool
is_taken takes texts = nat_le (length texts) 1 && list_all takes texts

-- each option does
abbrev pub are_taken : Values → Bool
are_taken values = list_all (λ row. is_taken row.1 (values row.0)) options

-- no option is given but `--make`
abbrev pub is_make_alone : Values → Bool
is_make_alone values = list_all (λ row. length (values row.0) == 0) (drop 1 options)

-- no option of a report is given, and no `--rules`
abbrev pub is_report_plain : Values → Bool
is_report_plain values = list_all (λ row. length (values row.0) == 0) (drop 3 options)

-- a plan that has a certificate has 2 to at most this power cells
abbrev pub most_cert_log2 : ℕ
most_cert_log2 = 10

-- no option is given but `--make`, `--bs` and `--log2`, and the last one is at most 10
abbrev pub are_of_cert : Values → Bool
are_of_cert values = is_taken (is_number_within 1 most_cert_log2) (values (codes "log2"))
    && is_report_plain values

-- the same, and no `--make`
abbrev pub are_of_verify : Values → Bool
are_of_verify values = length (values (codes "make")) == 0 && are_of_cert values

-- the value of an option, or its default
abbrev pub or_default : {A : Type 0} → A → (Text → A) → List Text → A
or_default default read [] = default
or_default default read (text ∷ texts) = read text

abbrev pub no_seed : Option ℕ
no_seed = None

abbrev pub seed_of : Text → Option ℕ
seed_of text = Some (number text)

abbrev pub format_of : Text → Format
format_of text = unwrap_or (format_named text) Plain

abbrev pub rules_of : Text → Rules
rules_of text = unwrap_or (rules_named text) Standard

-- the rules that a text is held to and an ask is read by, wherever among the words they are named
abbrev pub rules_in : Values → Rules
rules_in values = or_default Standard rules_of (values (codes "rules"))

-- the settings of a form, the values of the options, and asks
abbrev pub settings_of : Form → Values → List Asked → Settings
settings_of form values asks = record {
  form = form;
  make = or_default no_seed seed_of (values (codes "make"));
  bs = or_default (whole 1) numeral_value (values (codes "bs"));
  log2 = or_default 10 number (values (codes "log2"));
  digits = or_default 6 number (values (codes "digits"));
  width = or_default 10 number (values (codes "width"));
  mwidth = or_default 1000000 number (values (codes "mwidth"));
  format = or_default Plain format_of (values (codes "format"));
  rules = rules_in values;
  asks = asks;
}
