-- The table of the asks: each row is one spelling, and what it asks; the last one depends on the
-- rules. From it follow which text spells which ask, and what a text is read as.
use Rattle.std.specs.Prelude.{ℕ, ◌≡◌, ◌++◌, ◌==◌, ◌&&◌, ◌⊎◌, Bool, List, [], ◌∷◌, Option, Some, None, codes, map, nat_le, option_and_then, if◌then◌else◌}
use Rattle.std.specs.Str.{bytes_eq}
use Rattle.dl_exact.specs.Prelude.{Fraction, sum_over}
use Rattle.dl_frac.specs.Numerals.{numeral_value}
use Rattle.dl_limits.specs.declared.rules.Rules.{Rules}
use Rattle.dl_limits.specs.declared.rules.Rules.TheVariants.{Standard, Extended}
use Rattle.dl_plan.specs.declared.settings.Ask.{Ask}
use Rattle.dl_plan.specs.declared.settings.Ask.TheVariants.{Pmf, Cdf, Mean, Quantile, LayerMean, Tail, Price, Joint, Kappa, Cotail, Share}
use Rattle.dl_plan.specs.declared.settings.Term.{Term}
use Rattle.dl_plan.specs.Prelude.{common_denominator, most_terms, most_weight_parts}
use Rattle.dl_arguments.specs.Spelling.{Text, is_amount, is_probability, is_weight, is_word}
use Rattle.dl_bytes.specs.Prelude.{number}
use Rattle.dl_arguments.specs.Ways.{Way, one, pair, behind, word_or, made, that, list, cut_at}

-- ---- values

-- `x`, `L` or `A`
abbrev pub amount : Way ℕ
amount = one is_amount number

-- `p`, with so many digits
abbrev pub probability : ℕ → Way Fraction
probability digits = one (is_probability digits) numeral_value

-- `W`
abbrev pub weight : Way Fraction
weight = one is_weight numeral_value

-- `NAME`
abbrev pub name : Way Text
name = one is_word (λ text. text)

-- ---- signs

abbrev pub plus : ℕ
plus = 43

abbrev pub colon : ℕ
colon = 58

abbrev pub at_sign : ℕ
at_sign = 64

abbrev pub letter_s : ℕ
letter_s = 115

abbrev pub letter_x : ℕ
letter_x = 120

-- ---- what follows a head

-- `L`, or `inf`, which is no limit
abbrev pub limit : Way (Option ℕ)
limit = word_or (codes "inf") None (made Some amount)

-- `LxsA`
abbrev pub layer : Way (Option ℕ × ℕ)
layer = pair letter_x limit (behind letter_s amount)

-- `NAME:x`
abbrev pub unit_amount : Way (Text × ℕ)
unit_amount = pair colon name amount

-- `NAME:p`, with so many digits
abbrev pub unit_level : ℕ → Way (Text × Fraction)
unit_level digits = pair colon name (probability digits)

-- `W@P`
abbrev pub term : Way Term
term = made (λ both. record { weight = both.0; p = both.1 }) (pair at_sign weight (probability 9))

-- the weights have a common denominator of at most 1,000,000 and sum to 1
abbrev pub are_weighted : List Term → Bool
are_weighted terms = nat_le (common_denominator (map (λ term. term.weight) terms)) most_weight_parts
    && (sum_over terms (λ term. term.weight)).num == (sum_over terms (λ term. term.weight)).den

-- 1 to 8 terms joined by `+`, whose weights sum to 1
abbrev pub terms : Way (List Term)
terms = that are_weighted (list most_terms plus term)

-- the share of a unit in a tail mean: by the standard rules its probability has at most 4 digits,
-- and by the extended ones as many as that of the tail mean
abbrev pub share_of_tail : Rules → Way Ask
share_of_tail Standard = made (λ both. Cotail both.0 both.1) (unit_level 4)
share_of_tail Extended = made (λ both. Share both.0 both.1) (unit_level 9)

-- ---- the table

-- the head of an ask, in front of a colon, and what follows the colon
pub record Row : Type 1 where
  pub head : Text
  pub follows : Way Ask

abbrev pub row : Text → Way Ask → Row
row head follows = record { head = head; follows = follows }

-- the table of the asks by these rules, each by its head and what follows it
abbrev pub rows : Rules → List Row
rows rules =
    row (codes "pmf") (made Pmf amount)
    ∷ row (codes "cdf") (made Cdf amount)
    ∷ row (codes "q") (made Quantile (probability 9))
    ∷ row (codes "tail") (made Tail (probability 9))
    ∷ row (codes "price") (made Price terms)
    ∷ row (codes "layer") (made (λ both. LayerMean both.0 both.1) layer)
    ∷ row (codes "joint") (made (λ both. Joint both.0 both.1) unit_amount)
    ∷ row (codes "kappa") (made (λ both. Kappa both.0 both.1) unit_amount)
    ∷ row (codes "cotail") (share_of_tail rules)
    ∷ []

-- some row has the head, and the text behind the colon spells the ask by it
abbrev pub SpelledBy : List Row → (head rest : Text) → Ask → Type 0
SpelledBy [] head rest ask = ⊥
SpelledBy (row ∷ rows) head rest ask =
    (head ≡ row.head) × row.follows.Spells rest ask ⊎ SpelledBy rows head rest ask

-- the ask of the text behind the colon, by the first row that has the head
abbrev pub read_by : List Row → (head rest : Text) → Option Ask
read_by [] head rest = None
read_by (row ∷ rows) head rest =
    if bytes_eq head row.head then row.follows.read rest else read_by rows head rest

-- by these rules the text is spelled as this ask: `mean`, or by a row
pub data SpellsAsk (rules : Rules) (text : Text) : Ask → Type 0 where
  mean : text ≡ codes "mean" → SpellsAsk rules text Mean
  by_row : (head rest : Text) (ask : Ask) → text ≡ head ++ colon ∷ rest
      → SpelledBy (rows rules) head rest ask → SpellsAsk rules text ask

-- the ask that the text spells by these rules, if it does
unfoldable pub ask_of : Rules → Text → Option Ask
ask_of rules text = if bytes_eq text (codes "mean") then Some Mean
    else option_and_then (λ cut. read_by (rows rules) cut.0 cut.1) (cut_at colon text)
