-- The conditions on units that share a factor.
use Rattle.std.specs.Prelude.{ℕ, ◌≡◌, Bool, true, false, not, ◌||◌, if◌then◌else◌, List, [], ◌∷◌, map, flat_map, fold, Option, Some, None}
use Rattle.dl_limits.specs.Limits.{most_expected, most_shape}
use Rattle.dl_limits.specs.declared.rules.Bounds.{Bounds}
use Rattle.dl_exact.specs.Prelude.{Fraction, whole, ◌over◌, ◌+ℚ◌, ◌*ℚ◌, ◌/ℚ◌, lcm}
use Rattle.dl_ast.specs.declared.ast.MixAst.{MixAst}
use Rattle.dl_ast.specs.declared.ast.Numeral.{Numeral}
use Rattle.dl_ast.specs.declared.ast.SevDef.{SevDef}
use Rattle.dl_ast.specs.declared.ast.UnitAst.{UnitAst}
use Rattle.dl_plan.specs.declared.severity.Sev.{Sev}
use Rattle.dl_plan.specs.declared.plan.Unit.{Unit as UnitOfPlan}
use Rattle.dl_plan.specs.Prelude.{Pairs, probability, IsClaimCount, expected_count as expected_of_plan, HasPartsOf48Bits, thinned_mean, raised}
use Rattle.dl_reading.specs.declared.grid.GridCount.{GridCount}
use Rattle.dl_reading.specs.declared.grid.GridCount.TheVariants.{Exposed, Listed}
use Rattle.dl_reading.specs.Prelude.{value, is_admitted, is_fine, is_zero, grid_of, final_severity, support}
use Rattle.dl_reading.specs.declared.grid.GridUnit.{GridUnit}
use Rattle.dl_rules.specs.Exposures.{expected_count, thinned, is_held}
use Rattle.dl_rules.specs.Rules.{passes, has_bad_shape}
use Rattle.dl_rules.specs.Severities.{mixture_of}

-- x is the coefficient of variation that is written, and it has a shape
pub record IsVariation (bounds : Bounds) (c : Numeral) (x : Fraction) : Type 0 where
  pub good : has_bad_shape bounds c ≡ false
  pub value : x ≡ value c

-- the claims that a unit brings: how many are expected, how many of them above 0, and the positive
-- probabilities of the amounts of one
pub record Part : Type 0 where
  pub expected : Fraction
  pub above : Fraction
  pub probabilities : List Fraction

-- x and the numbers of a list added up, where the sum is admitted after each of them
unfoldable pub running_sum : Fraction → List Fraction → Option Fraction
running_sum x [] = Some x
running_sum x (y ∷ ys) = if is_admitted (x +ℚ y) then running_sum (x +ℚ y) ys else None

-- where v claims of all parts are expected, the share of a part
abbrev pub claim_share : Fraction → Part → Fraction
claim_share v part = part.expected /ℚ v

-- the share times the probability of each amount
abbrev pub amount_shares : Fraction → Part → List Fraction
amount_shares v part = map (λ p. claim_share v part *ℚ p) part.probabilities

-- a number of claims is not held over the shape r, or not admitted for the shape r + 1
abbrev pub is_coarse_under : Fraction → Fraction → Bool
is_coarse_under r x = not (is_held (x /ℚ r)) || not (is_admitted (raised r x))

-- v claims of all parts are expected, h of them above 0, under a factor of shape r; common
-- denominators are at most `most`
abbrev pub passes_bounds : (most : ℕ) → Fraction → Fraction → Fraction → List Part → Bool
passes_bounds most r v h parts =
    is_zero v || is_coarse_under r v || is_coarse_under r h
    || passes (raised r h) most_expected
    || not (is_fine most (map (claim_share v) parts))
    || not (is_fine most (flat_map (amount_shares v) parts))

abbrev pub passes_with : (most : ℕ) → Fraction → Option Fraction → Option Fraction → List Part
    → Bool
passes_with most r None h parts = true
passes_with most r (Some v) None parts = true
passes_with most r (Some v) (Some h) parts = passes_bounds most r v h parts

-- r is not admitted, or r + 1 is not, or passes 10,000
abbrev pub has_no_next : Fraction → Bool
has_no_next r = not (is_admitted r)
    || (not (is_admitted (r +ℚ whole 1)) || passes (r +ℚ whole 1) most_shape)

-- the parts are too large for a factor of shape r
unfoldable pub is_too_large : (most : ℕ) → Fraction → List Part → Bool
is_too_large most r parts =
    has_no_next r
    || passes_with most r (running_sum (whole 0) (map (λ part. part.expected) parts))
    (running_sum (whole 0) (map (λ part. part.above) parts)) parts

-- ---- of a program

-- listed counts, of which no factor is shared, count as none
abbrev pub claims_expected : Fraction → GridUnit → GridCount → Fraction
claims_expected bs u (Exposed exposure freq) = expected_count bs u exposure
claims_expected bs u (Listed counts probs) = whole 0

-- so many claims of this severity
abbrev pub part_with : Fraction → Pairs → Part
part_with n severity = record {
  expected = n;
  above = thinned severity n;
  probabilities = map (probability severity) (support severity);
}

abbrev pub part_on : Fraction → GridUnit → Part
part_on bs u = part_with (claims_expected bs u u.count) (final_severity u)

abbrev pub part_of_mixture : Fraction → UnitAst → Option MixAst → Part
part_of_mixture bs u None = part_with (whole 0) []
part_of_mixture bs u (Some m) = part_on bs (grid_of bs u m)

abbrev pub part_in : Fraction → List SevDef → UnitAst → Part
part_in bs sevs u = part_of_mixture bs u (mixture_of sevs u.sev.body)

-- ---- of a plan

abbrev pub part_of : UnitOfPlan → Part
part_of u = record {
  expected = expected_of_plan u.freq;
  above = thinned_mean u;
  probabilities = map (λ item. item.weight over u.sev.total) u.sev.items;
}

-- a share times the probability of each amount
abbrev pub times_amounts : Fraction → Sev → List Fraction
times_amounts share sev = map (λ item. share *ℚ item.weight over sev.total) sev.items

-- the least common multiple of m and the denominators
abbrev pub common_multiple : ℕ → List Fraction → ℕ
common_multiple m xs = fold (λ k x. lcm k x.den) m xs

-- a unit whose expected claims, and those above 0, are admitted
pub record IsCounted (u : UnitOfPlan) : Type 0 where
  pub count : IsClaimCount u.freq
  pub expected : HasPartsOf48Bits (expected_of_plan u.freq)
  pub thinned : HasPartsOf48Bits (thinned_mean u)
