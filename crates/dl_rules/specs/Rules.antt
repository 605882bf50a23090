-- The typing rules: the first place where each is broken, if any, in the order in which they
-- are checked. A unit is checked by a rule only where it keeps the rules before it, so that
-- each value that a rule needs is there. Where a rule speaks of the number of claims that are
-- expected, that is the number where it is there and admitted.
use Rattle.std.specs.Prelude.{ℕ, Bool, true, false, not, ◌&&◌, ◌||◌, nat_lt, is_some, List, slice_get, Option, Some, None}
use Rattle.std.specs.List.{list_any}
use Rattle.std.specs.Str.{bytes_eq}
use Rattle.dl_limits.specs.Limits.{most_beta, most_claims, most_count, most_expected, most_horizon, most_shape, rarest_claims}
use Rattle.dl_limits.specs.declared.rules.Bounds.{Bounds}
use Rattle.dl_plan.specs.Horizon.{horizon}
use Rattle.dl_exact.specs.Fraction.{Fraction, whole, ◌over◌, ◌+ℚ◌, ◌*ℚ◌, ◌/ℚ◌}
use Rattle.dl_lexer.specs.declared.token.Span.{Span}
use Rattle.dl_ast.specs.declared.ast.UnitAst.{UnitAst}
use Rattle.dl_ast.specs.declared.ast.NameAst.{NameAst}
use Rattle.dl_ast.specs.declared.ast.Numeral.{Numeral}
use Rattle.dl_ast.specs.declared.ast.SevDef.{SevDef}
use Rattle.dl_ast.specs.declared.ast.PortHead.{PortHead}
use Rattle.dl_ast.specs.declared.ast.CountAst.{CountAst}
use Rattle.dl_ast.specs.declared.ast.CountAst.TheVariants as counts
use Rattle.dl_ast.specs.declared.ast.FreqAst.{FreqAst}
use Rattle.dl_ast.specs.declared.ast.FreqAst.TheVariants as freqs
use Rattle.dl_ast.specs.declared.ast.ZeroAst.{ZeroAst}
use Rattle.dl_ast.specs.declared.ast.ZeroAst.TheVariants.{Plain, Truncated, Modified}
use Rattle.dl_reading.specs.declared.grid.GridExposure.{GridExposure}
use Rattle.dl_reading.specs.declared.grid.GridExposure.TheVariants.{Claims, Loss, Premium}
use Rattle.dl_reading.specs.declared.grid.GridFreq.{GridFreq}
use Rattle.dl_reading.specs.declared.grid.GridFreq.TheVariants.{Fixed, Poisson, Bernoulli, Binomial, Gamma}
use Rattle.dl_reading.specs.declared.grid.GridCount.{GridCount}
use Rattle.dl_reading.specs.declared.grid.GridCount.TheVariants.{Exposed, Listed}
use Rattle.dl_reading.specs.Prelude.{at_if, within, value, is_bad_numeral, is_admitted, is_whole, is_zero, is_above, final_severity, fractions_too_fine}
use Rattle.dl_reading.specs.declared.made.MadeClause.{MadeClause}
use Rattle.dl_reading.specs.declared.made.MadeClause.TheVariants as made
use Rattle.dl_reading.specs.declared.grid.GridUnit.{GridUnit}
use Rattle.dl_rules.specs.UnitNames.{names_of, severity_names}
use Rattle.dl_rules.specs.Exposures.{expected_loss, is_unbounded, claims_above_zero, is_there_and, is_held, shape_of}

-- the span of a name that is one of these
abbrev pub repeated : List (List ℕ) → NameAst → Option Span
repeated names name = at_if (list_any (bytes_eq name.text) names) name.span

-- 1 DuplicateName: the unit's name is that of an earlier unit
unfoldable pub duplicate_name : List UnitAst → UnitAst → Option Span
duplicate_name before u = repeated (names_of before) u.name

-- 14 ZeroMean: the exposure is a loss or a premium, and the severity in the layer, of these amounts
-- of positive probability, has none above 0
abbrev pub has_no_loss : List ℕ → Bool
has_no_loss amounts = not (list_any (nat_lt 0) amounts)

abbrev pub zero_loss : List ℕ → GridExposure → Option Span
zero_loss amounts (Claims n span) = None
zero_loss amounts (Loss n span) = at_if (has_no_loss amounts) span
zero_loss amounts (Premium p r span) = at_if (has_no_loss amounts) span

unfoldable pub zero_mean : List ℕ → GridCount → Option Span
zero_mean amounts (Exposed exposure freq) = zero_loss amounts exposure
zero_mean amounts (Listed counts probs) = None

-- the span of an exposure
abbrev pub exposure_span : GridExposure → Span
exposure_span (Claims n span) = span
exposure_span (Loss n span) = span
exposure_span (Premium p r span) = span

-- 15 CountNotWhole: `fixed` with n claims expected, which is not whole; or a `dfreq` count that is
-- not whole
unfoldable pub count_not_whole : GridCount → Option Fraction → Option Span
count_not_whole (Exposed exposure (Fixed _)) n =
    at_if (is_there_and (λ x. not (is_whole x)) n) (exposure_span exposure)
count_not_whole (Exposed exposure (Poisson _)) n = None
count_not_whole (Exposed exposure (Bernoulli _)) n = None
count_not_whole (Exposed exposure (Binomial p _)) n = None
count_not_whole (Exposed exposure (Gamma c _)) n = None
count_not_whole (Listed counts probs) n =
    at_if (list_any (λ x. not (is_whole x)) counts.values) counts.span

-- 16 CountAboveOne: `bernoulli` with n claims expected, which is above 1
unfoldable pub count_above_one : GridCount → Option Fraction → Option Span
count_above_one (Exposed exposure (Fixed _)) n = None
count_above_one (Exposed exposure (Poisson _)) n = None
count_above_one (Exposed exposure (Bernoulli _)) n =
    at_if (is_there_and (λ x. is_above x (whole 1)) n) (exposure_span exposure)
count_above_one (Exposed exposure (Binomial p _)) n = None
count_above_one (Exposed exposure (Gamma c _)) n = None
count_above_one (Listed counts probs) n = None

-- 17 TrialsNotWhole: `binomial p` with p 0 or above 1, or with n claims expected and n / p not
-- whole
abbrev pub has_no_trials : Fraction → Option Fraction → Bool
has_no_trials p n =
    is_zero p || is_above p (whole 1) || is_there_and (λ x. not (is_whole (x /ℚ p))) n

unfoldable pub trials_not_whole : GridCount → Option Fraction → Option Span
trials_not_whole (Exposed exposure (Fixed _)) n = None
trials_not_whole (Exposed exposure (Poisson _)) n = None
trials_not_whole (Exposed exposure (Bernoulli _)) n = None
trials_not_whole (Exposed exposure (Binomial p span)) n =
    at_if (has_no_trials p n) span
trials_not_whole (Exposed exposure (Gamma c _)) n = None
trials_not_whole (Listed counts probs) n = None

-- 18 ShapeNotWhole: `mixed gamma c` with c 0, or, by rules that want whole shapes, with 1 / c^2 not
-- whole
abbrev pub has_no_shape : Bounds → Fraction → Bool
has_no_shape bounds c = is_zero c || (bounds.whole_shapes && not (is_whole (shape_of c)))

abbrev pub no_shape_of : Bounds → GridFreq → Option Span
no_shape_of bounds (Fixed _) = None
no_shape_of bounds (Poisson _) = None
no_shape_of bounds (Bernoulli _) = None
no_shape_of bounds (Binomial p _) = None
no_shape_of bounds (Gamma c span) = at_if (has_no_shape bounds c) span

unfoldable pub shape_not_whole : Bounds → GridCount → Option Span
shape_not_whole bounds (Exposed exposure freq) = no_shape_of bounds freq
shape_not_whole bounds (Listed counts probs) = None

-- 19 TooFine: a list of probabilities, the shares of a clause, or the mixture is not fine; or,
-- where they are, the expected loss, the expected count, or for Poisson and gamma the expected
-- number of claims above 0, is not admitted; or, by rules that do not want whole shapes, the shape
-- of a gamma count is not admitted, or one of these two numbers over the shape is not held
abbrev pub loss_too_fine : Option Fraction → Bool
loss_too_fine None = false
loss_too_fine (Some loss) = not (is_admitted loss)

-- a number that is there is not held over a shape
abbrev pub is_coarse_over : Fraction → Option Fraction → Bool
is_coarse_over r n = is_there_and (λ x. not (is_held (x /ℚ r))) n

abbrev pub shape_too_fine : Fraction → Option Fraction → Option Fraction → Bool
shape_too_fine r n above = not (is_admitted r) || is_coarse_over r n || is_coarse_over r above

abbrev pub freq_too_fine : Bounds → GridFreq → Option Fraction → Option Fraction → Bool
freq_too_fine bounds (Fixed _) n above = false
freq_too_fine bounds (Poisson _) n above = false
freq_too_fine bounds (Bernoulli _) n above = false
freq_too_fine bounds (Binomial p _) n above = false
freq_too_fine bounds (Gamma c _) n above =
    not bounds.whole_shapes && shape_too_fine (shape_of c) n above

unfoldable pub exposed_too_fine : Bounds → GridCount → Option Fraction → Option Fraction → Bool
exposed_too_fine bounds (Exposed exposure freq) n above = loss_too_fine (expected_loss exposure)
    || not (is_some n) || (is_unbounded freq && not (is_some above))
    || freq_too_fine bounds freq n above
exposed_too_fine bounds (Listed counts probs) n above = false

unfoldable pub too_fine : Bounds → GridUnit → Option Fraction → Option Span
too_fine bounds u n = at_if (fractions_too_fine bounds u
    || exposed_too_fine bounds u.count n (claims_above_zero (final_severity u) n)) u.name

-- 20 TooManyClaims: the expected number of claims above 0 of Poisson or gamma passes 4,096; the
-- shape passes 10,000, or that number over it 32,768; a fixed count or the trials pass 65,536; or a
-- `dfreq` count passes 256
abbrev pub passes : Fraction → ℕ → Bool
passes x limit = is_above x (whole limit)

-- a shape passes 10,000, or a number that is there passes 32,768 over it
abbrev pub is_shape_large : Fraction → Option Fraction → Bool
is_shape_large r above =
    passes r most_shape || is_there_and (λ x. passes (x /ℚ r) most_beta) above

unfoldable pub has_too_many_claims : GridCount → Option Fraction → Option Fraction → Bool
has_too_many_claims (Exposed exposure (Fixed _)) n above =
    is_there_and (λ x. passes x most_claims) n
has_too_many_claims (Exposed exposure (Poisson _)) n above =
    is_there_and (λ x. passes x most_expected) above
has_too_many_claims (Exposed exposure (Bernoulli _)) n above = false
has_too_many_claims (Exposed exposure (Binomial p _)) n above =
    is_there_and (λ x. passes (x /ℚ p) most_claims) n
has_too_many_claims (Exposed exposure (Gamma c _)) n above =
    is_there_and (λ x. passes x most_expected) above || is_shape_large (shape_of c) above
has_too_many_claims (Listed counts probs) n above =
    list_any (λ x. passes x most_count) counts.values

unfoldable pub too_many_claims : GridUnit → Option Fraction → Option Span
too_many_claims u n =
    at_if (has_too_many_claims u.count n (claims_above_zero (final_severity u) n)) u.name

-- 21 HorizonTooLarge: the horizon of the aggregate clause on a grid of so many cells passes 16,384
-- where these are at most 4,096, else 65,536
unfoldable pub horizon_too_large : ℕ → MadeClause → Option Span
horizon_too_large cells made.Missing = None
horizon_too_large cells made.TooFine = None
horizon_too_large cells (made.Whole clause span) =
    at_if (nat_lt (most_horizon cells) (horizon (Some clause) cells)) span

-- 22 TooManyUnits: there are more than `most` units
abbrev pub name_of : Option UnitAst → Option Span
name_of None = None
name_of (Some u) = Some u.name.span

unfoldable pub too_many_units : (most : ℕ) → List UnitAst → Option Span
too_many_units most units = name_of (slice_get units most)

-- 23 DuplicateSeverity: the name of a severity is that of an earlier one
unfoldable pub duplicate_severity : List SevDef → SevDef → Option Span
duplicate_severity before d = repeated (severity_names before) d.name

-- 25 ZeroBase: the probability of no claim is changed to 1 or more, or where fewer than 1/16 or
-- more than 4,096 claims are expected, or where one claim of a gamma count with a shape r below 1
-- and n claims expected weighs less than 1/16 of none: that weight is r * n / (r + n); no text
-- changes the probability of no claim of a `dfreq` count
abbrev pub is_one_rare : Fraction → Fraction → Bool
is_one_rare r n =
    is_above (whole 1) r && is_above (1 over rarest_claims) (r *ℚ (n /ℚ (r +ℚ n)))

abbrev pub is_claim_rare : GridFreq → Fraction → Bool
is_claim_rare (Fixed _) n = false
is_claim_rare (Poisson _) n = false
is_claim_rare (Bernoulli _) n = false
is_claim_rare (Binomial p _) n = false
is_claim_rare (Gamma c _) n = is_one_rare (shape_of c) n

abbrev pub is_no_base : GridFreq → Fraction → Bool
is_no_base freq n =
    is_above (1 over rarest_claims) n || passes n most_expected || is_claim_rare freq n

abbrev pub has_no_base : GridFreq → Fraction → Option Fraction → Bool
has_no_base freq p n = not (is_above (whole 1) p) || is_there_and (is_no_base freq) n

-- the span of a distribution
abbrev pub freq_span : GridFreq → Span
freq_span (Fixed span) = span
freq_span (Poisson span) = span
freq_span (Bernoulli span) = span
freq_span (Binomial p span) = span
freq_span (Gamma c span) = span

abbrev pub no_base_of : GridCount → Fraction → Option Fraction → Option Span
no_base_of (Exposed exposure freq) p n = at_if (has_no_base freq p n) (freq_span freq)
no_base_of (Listed counts probs) p n = Some counts.span

unfoldable pub zero_base : GridCount → Option Fraction → Option Fraction → Option Span
zero_base count zero n = within (λ p. no_base_of count p n) zero

-- 26 CommonUnit: the portfolio has a shared factor, and the unit's count is not Poisson or its
-- probability of no claim is changed, or the unit has an aggregate clause
abbrev pub is_changed : ZeroAst → Bool
is_changed Plain = false
is_changed (Truncated _) = true
is_changed (Modified _ _) = true

abbrev pub is_poisson : FreqAst → Bool
is_poisson (freqs.Fixed _) = false
is_poisson (freqs.Poisson _) = true
is_poisson (freqs.Geometric _) = false
is_poisson (freqs.Bernoulli _) = false
is_poisson (freqs.Binomial p _) = false
is_poisson (freqs.Gamma c _) = false

abbrev pub is_plain_poisson : CountAst → Bool
is_plain_poisson (counts.Exposed exposure freq zero) = is_poisson freq && not (is_changed zero)
is_plain_poisson (counts.Listed counted probs span) = false

abbrev pub has_common : Option PortHead → Bool
has_common None = false
has_common (Some h) = is_some h.common

unfoldable pub common_unit : Option PortHead → UnitAst → Option Span
common_unit port u =
    at_if (has_common port && (not (is_plain_poisson u.count) || is_some u.agr)) u.name.span

-- 27 CommonShape: the coefficient of variation c of the shared factor is a bad numeral or 0, or, by
-- rules that want whole shapes, 1 / c^2 is not whole
abbrev pub has_bad_shape : Bounds → Numeral → Bool
has_bad_shape bounds c = is_bad_numeral c || has_no_shape bounds (value c)

unfoldable pub common_shape : Bounds → Option PortHead → Option Span
common_shape bounds = within (λ (h : PortHead).
    within (λ (c : Numeral). at_if (has_bad_shape bounds c) c.span) h.common)
