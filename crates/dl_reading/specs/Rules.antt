-- The rules of a unit on lists that belong together, on its amounts, its layer and its clauses: the
-- first place where each is broken, if any. A unit is asked a rule only where it keeps the rules
-- before it, so that each value that a rule needs is there. These are asked of the unit in whole
-- buckets; those before them as it is read.
use Rattle.std.specs.Prelude.{ℕ, Bool, true, false, not, ◌&&◌, ◌||◌, ◌==◌, nat_lt, List, [], length, map, fold, Option, Some, None}
use Rattle.std.specs.List.{list_any}
use Rattle.dl_exact.specs.Prelude.{gcd, Fraction, whole}
use Rattle.dl_lexer.specs.declared.token.Span.{Span}
use Rattle.dl_reading.specs.declared.grid.ValueList.{ValueList}
use Rattle.dl_reading.specs.declared.grid.Shares.{Shares}
use Rattle.dl_reading.specs.declared.grid.GridCount.{GridCount}
use Rattle.dl_reading.specs.declared.grid.GridCount.TheVariants.{Exposed, Listed}
use Rattle.dl_reading.specs.declared.grid.GridLayer.{GridLayer}
use Rattle.dl_reading.specs.declared.grid.GridShare.{GridShare}
use Rattle.dl_reading.specs.declared.grid.GridShare.TheVariants.{Whole, So, Po}
use Rattle.dl_reading.specs.declared.grid.GridCeded.{GridCeded}
use Rattle.dl_reading.specs.declared.grid.GridClause.{GridClause}
use Rattle.dl_reading.specs.declared.grid.GridUnit.{GridUnit}
use Rattle.dl_reading.specs.declared.made.MadeClause.{MadeClause}
use Rattle.dl_reading.specs.declared.made.MadeClause.TheVariants.{Missing, TooFine}
use Rattle.dl_reading.specs.declared.made.MadeClause.TheVariants as made
use Rattle.dl_plan.specs.Clause.{kept}
use Rattle.dl_reading.specs.First.{◌else◌, at_if, within, first_in, in_turn}
use Rattle.dl_reading.specs.Lists.{is_zero, is_above}
use Rattle.dl_reading.specs.Clauses.{ceded_layer, made_of, overlaps, is_off, is_off_multiples}
use Rattle.dl_reading.specs.Severity.{is_conditioned, mixed_pairs, severity_in_layer, support}

-- two lists that belong together have different numbers of values
unfoldable pub other_length : ValueList → Shares → Option Span
other_length values probs = at_if (not (length values.values == length probs.values)) probs.span

abbrev pub count_lengths : GridCount → Option Span
count_lengths (Exposed exposure freq) = None
count_lengths (Listed counts probs) = within (other_length counts) probs

-- 9 WeightsDiffer: `wts` has not one value per atom
unfoldable pub weights_differ : GridUnit → Option Span
weights_differ u = within (λ (l : Shares).
    at_if (not (length l.values == length u.sev.atoms)) l.span) u.sev.weights

-- 10 NoneAbove: the attachment is above 0, there is no `!`, and no amount of positive probability
-- exceeds it
unfoldable pub none_above : GridUnit → Option Span
none_above u =
    within (λ (l : GridLayer). at_if (is_conditioned u.bang l
    && not (list_any (nat_lt l.attach) (support (mixed_pairs u.sev)))) l.span) u.layer

-- 11 Overlap: a layer of a clause overlaps an earlier one
unfoldable pub overlap_in : GridClause → Option Span
overlap_in c =
    in_turn (λ before (l : GridCeded). at_if
    (list_any (λ m. overlaps (ceded_layer m) (ceded_layer l)) before) l.layer.span) []
    c.layers

unfoldable pub overlap : GridUnit → Option Span
overlap u = within overlap_in u.occ else within overlap_in u.agr

-- 12 ShareAboveOne: a share with `so` exceeds 1; or a part with `po` exceeds its limit, or its
-- limit is 0 or `inf`
abbrev pub part_exceeds : Fraction → Option Fraction → Bool
part_exceeds part (Some n) = is_above part n || is_zero n
part_exceeds part None = true

abbrev pub share_exceeds : GridShare → Bool
share_exceeds Whole = false
share_exceeds (So x) = is_above x (whole 1)
share_exceeds (Po x limit) = part_exceeds x limit

unfoldable pub share_above_one_in : GridClause → Option Span
share_above_one_in c = first_in (λ (l : GridCeded).
    at_if (share_exceeds l.share) l.span) c.layers

unfoldable pub share_above_one : GridUnit → Option Span
share_above_one u = within share_above_one_in u.occ else within share_above_one_in u.agr

-- 13 OffGridCession: the occurrence clause maps an amount of the support to no whole number; or the
-- aggregate clause does so with a multiple of the greatest common divisor of the final amounts. A
-- clause whose shares are not fine is not asked, nor is the aggregate clause behind one.
abbrev pub common_amount_of : List ℕ → ℕ
common_amount_of amounts = fold gcd 0 amounts

-- where the aggregate clause breaks the rule, on final amounts
abbrev pub off_grid_sums : MadeClause → List ℕ → Option Span
off_grid_sums Missing amounts = None
off_grid_sums TooFine amounts = None
off_grid_sums (made.Whole clause span) amounts =
    at_if (is_off_multiples clause (common_amount_of amounts)) span

-- where one of both clauses breaks the rule, on amounts in the layer
abbrev pub off_grid_amounts : MadeClause → MadeClause → List ℕ → Option Span
off_grid_amounts Missing agr amounts = off_grid_sums agr amounts
off_grid_amounts TooFine agr amounts = None
off_grid_amounts (made.Whole clause span) agr amounts =
    at_if (list_any (is_off clause) amounts) span else off_grid_sums agr
    (map (λ x. (kept clause x).num) amounts)

unfoldable pub off_grid_cession : GridUnit → Option Span
off_grid_cession u = off_grid_amounts (made_of u.occ) (made_of u.agr) (support (severity_in_layer u))
