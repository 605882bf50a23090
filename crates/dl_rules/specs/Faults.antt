-- The first fault of a program: the first broken rule in the written order, with its unit and its
-- place.
use Rattle.std.specs.Prelude.{ℕ, ◌^◌, ◌≡◌, ⊤, List, [], ◌∷◌, ◌++◌, length, map, Option, Some, None}
use Rattle.dl_limits.specs.Limits.{most_amount_at}
use Rattle.dl_limits.specs.Rules.{bounds_of}
use Rattle.dl_limits.specs.declared.rules.Bounds.{Bounds}
use Rattle.dl_limits.specs.declared.rules.Rules.{Rules}
use Rattle.dl_exact.specs.Fraction.{Fraction}
use Rattle.dl_lexer.specs.declared.token.Span.{Span}
use Rattle.dl_ast.specs.declared.ast.MixAst.{MixAst}
use Rattle.dl_ast.specs.declared.ast.Numeral.{Numeral}
use Rattle.dl_ast.specs.declared.ast.PortHead.{PortHead}
use Rattle.dl_ast.specs.declared.ast.SevDef.{SevDef}
use Rattle.dl_ast.specs.declared.ast.UnitAst.{UnitAst}
use Rattle.dl_ast.specs.declared.ast.Program.{Program}
use Rattle.dl_plan.specs.declared.settings.Settings.{Settings}
use Rattle.dl_rules.specs.declared.rule.Rule.{Rule}
use Rattle.dl_rules.specs.declared.rule.Rule.TheVariants as rules
use Rattle.dl_rules.specs.declared.fault.TypeFault.{TypeFault}
use Rattle.dl_reading.specs.declared.flaws.Flaws.{Flaws}
use Rattle.dl_reading.specs.Prelude.{◌else◌, at_if, within, first_in, in_turn, flaws_of, value, grid_of, severity_in_layer, support, made_of, weights_differ, none_above, overlap, share_above_one, off_grid_cession}
use Rattle.dl_reading.specs.declared.grid.GridCount.{GridCount}
use Rattle.dl_reading.specs.declared.grid.GridUnit.{GridUnit}
use Rattle.dl_rules.specs.Exposures.{expected_claims, shape_of}
use Rattle.dl_rules.specs.Factor.{Part, part_in, is_too_large}
use Rattle.dl_rules.specs.Totals.{Size, is_total_large, size_in}
use Rattle.dl_rules.specs.Rules.{duplicate_name, zero_mean, count_not_whole, count_above_one, trials_not_whole, shape_not_whole, too_fine, too_many_claims, horizon_too_large, too_many_units, zero_base, common_unit, common_shape, duplicate_severity}
use Rattle.dl_rules.specs.Severities.{mixture_of, body_span}

-- the rule is broken by a unit at a place
abbrev pub breaks : ℕ → Rule → Option Span → Option TypeFault
breaks unit rule None = None
breaks unit rule (Some span) = Some (record { unit = unit; rule = rule; span = span })

-- how many cells the grid has
abbrev pub cells_asked : Settings → ℕ
cells_asked settings = 2 ^ settings.log2

-- the bounds of the rules that are set
abbrev pub bounds_asked : Settings → Bounds
bounds_asked settings = bounds_of settings.rules

-- the greatest amount on that grid, in buckets
abbrev pub most_asked : Settings → ℕ
most_asked settings = most_amount_at (cells_asked settings)

-- the first of these rules that is broken, each with its place, if any
abbrev pub first_broken : ℕ → List (Rule × Option Span) → Option TypeFault
first_broken unit rules = first_in (λ rule. breaks unit rule.0 rule.1) rules

-- none of them is broken
abbrev pub AllKept : List (Rule × Option Span) → Type 0
AllKept [] = ⊤
AllKept (rule ∷ rules) = (rule.1 ≡ None) × AllKept rules

-- the rules that reading a unit can break
abbrev pub text_rules : Flaws → List (Rule × Option Span)
text_rules flaws =
    (rules.BadNumeral, flaws.numeral) ∷ (rules.BadRange, flaws.range)
    ∷ (rules.ListTooLong, flaws.long) ∷ (rules.LengthsDiffer, flaws.lengths)
    ∷ (rules.NotOne, flaws.sum) ∷ (rules.OffGrid, flaws.off_grid)
    ∷ (rules.TooFar, flaws.too_far) ∷ []

abbrev pub fault_of_text : ℕ → Flaws → Option TypeFault
fault_of_text unit flaws = first_broken unit (text_rules flaws)

-- the rules on its clauses
abbrev pub layer_rules : GridUnit → List (Rule × Option Span)
layer_rules u =
    (rules.Overlap, overlap u) ∷ (rules.ShareAboveOne, share_above_one u)
    ∷ (rules.OffGridCession, off_grid_cession u) ∷ []

-- the rules on its severity, its layer and its clauses
abbrev pub clause_rules : GridUnit → List (Rule × Option Span)
clause_rules u =
    (rules.WeightsDiffer, weights_differ u) ∷ (rules.NoneAbove, none_above u) ∷ layer_rules u

-- the rules on whole numbers, with n claims expected
abbrev pub whole_rules : Bounds → GridCount → Option Fraction → List (Rule × Option Span)
whole_rules bounds count n =
    (rules.CountNotWhole, count_not_whole count n) ∷ (rules.CountAboveOne, count_above_one count n)
    ∷ (rules.TrialsNotWhole, trials_not_whole count n)
    ∷ (rules.ShapeNotWhole, shape_not_whole bounds count) ∷ []

-- the rules on its count, and on the sizes of what it means
abbrev pub number_rules : Bounds → GridUnit → Option Fraction → List (Rule × Option Span)
number_rules bounds u n =
    whole_rules bounds u.count n ++ (rules.TooFine, too_fine bounds u n)
    ∷ (rules.TooManyClaims, too_many_claims u n) ∷ []

abbrev pub count_rules : Bounds → Fraction → GridUnit → List (Rule × Option Span)
count_rules bounds bs u =
    (rules.ZeroMean, zero_mean (support (severity_in_layer u)) u.count)
    ∷ number_rules bounds u (expected_claims bounds bs u)

-- the rules on its horizon, and on the change of its probability of no claim
abbrev pub change_rules : Settings → GridUnit → List (Rule × Option Span)
change_rules settings u =
    (rules.HorizonTooLarge, horizon_too_large (cells_asked settings) (made_of u.agr))
    ∷ (
      rules.ZeroBase,
      zero_base u.count u.zero
          (expected_claims (bounds_asked settings) settings.bs u),
    ) ∷ []

-- the rules on the unit in whole buckets, in their order
abbrev pub grid_rules : Settings → GridUnit → List (Rule × Option Span)
grid_rules settings u =
    clause_rules u ++ count_rules (bounds_asked settings) settings.bs u ++ change_rules settings u

unfoldable pub fault_on_grid : Settings → ℕ → GridUnit → Option TypeFault
fault_on_grid settings unit u = first_broken unit (grid_rules settings u)

-- the first rule that a unit whose severity is this mixture breaks, by its number, with the units
-- before it
unfoldable pub fault_with : Settings → List UnitAst → UnitAst → MixAst → Option TypeFault
fault_with settings before u m =
    breaks (length before) rules.DuplicateName (duplicate_name before u)
    else fault_of_text (length before) (flaws_of (bounds_asked settings) (most_asked settings)
    settings.bs u m)
    else fault_on_grid settings (length before) (grid_of settings.bs u m)

-- the same where there may be no mixture, since no severity has the name
abbrev pub fault_of_mixture : Settings → List UnitAst → UnitAst → Option MixAst → Option TypeFault
fault_of_mixture settings before u None =
    breaks (length before) rules.UnknownSeverity (Some (body_span u.sev.body))
fault_of_mixture settings before u (Some m) = fault_with settings before u m

-- the first rule that a unit breaks, in this portfolio and with the named severities and the units
-- before it
unfoldable pub first_fault_of : Settings → Option PortHead → List SevDef → List UnitAst → UnitAst
    → Option TypeFault
first_fault_of settings port sevs before u =
    fault_of_mixture settings before u (mixture_of sevs u.sev.body)
    else breaks (length before) rules.CommonUnit (common_unit port u)

-- the rule on the names of severities, by the severity's number
abbrev pub fault_of_severity : List SevDef → SevDef → Option TypeFault
fault_of_severity before d =
    breaks (length before) rules.DuplicateSeverity (duplicate_severity before d)

-- 28 CommonSize: what the units bring is too large for the shape of the shared factor
abbrev pub common_size : Bounds → Option PortHead → List Part → Option Span
common_size bounds port parts = within (λ (h : PortHead). within (λ (c : Numeral).
    at_if (is_too_large bounds.parts (shape_of (value c)) parts) h.name.span) h.common) port

-- the claims that the units of a program bring
abbrev pub parts_in : Settings → Program → List Part
parts_in settings program = map (part_in settings.bs program.sevs) program.units

-- the rules on the whole portfolio
unfoldable pub fault_of_port : Settings → Program → Option TypeFault
fault_of_port settings program =
    breaks 0 rules.CommonShape (common_shape (bounds_asked settings) program.port)
    else breaks 0 rules.CommonSize (common_size (bounds_asked settings) program.port
    (parts_in settings program))

-- 30 TotalTooLarge: the units of a portfolio are too large all together
abbrev pub total_too_large : (cells : ℕ) → Option PortHead → List Size → Option Span
total_too_large cells port sizes =
    within (λ (h : PortHead). at_if (is_total_large cells sizes) h.name.span) port

-- how large the units of a program are
abbrev pub sizes_in : Settings → Program → List Size
sizes_in settings program = map (size_in settings.bs program.sevs) program.units

unfoldable pub fault_of_total : Settings → Program → Option TypeFault
fault_of_total settings program = breaks 0 rules.TotalTooLarge (total_too_large
    (cells_asked settings) program.port (sizes_in settings program))

-- more units than a program may have first; then the named severities and the units in the order of
-- the text; then the whole portfolio, and last how large its units are all together
unfoldable pub first_fault : Program → Settings → Option TypeFault
first_fault program settings =
    breaks (bounds_asked settings).units rules.TooManyUnits
    (too_many_units (bounds_asked settings).units program.units)
    else in_turn fault_of_severity [] program.sevs
    else in_turn (first_fault_of settings program.port program.sevs) [] program.units
    else fault_of_port settings program
    else fault_of_total settings program

-- the settings with these rules
abbrev pub by : Rules → Settings → Settings
by rules settings = record settings { rules = rules }
