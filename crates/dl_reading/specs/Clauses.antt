-- The reinsurance clauses of a unit: shares, limits and attachments. Amounts are in buckets.
use Rattle.std.specs.Prelude.{ℕ, ◌+◌, ◌*◌, ◌/◌, max, Bool, true, not, ◌&&◌, nat_lt, if◌then◌else◌, ⊤, List, map, fold, Option, Some, None}
use Rattle.std.specs.List.{list_any, range_with_len}
use Rattle.dl_limits.specs.Limits.{most_parts}
use Rattle.dl_exact.specs.Fraction.{Fraction, whole, ◌/ℚ◌}
use Rattle.dl_plan.specs.declared.cede.CedeLayer.{CedeLayer}
use Rattle.dl_plan.specs.Prelude.{Clause, IsClause, kept, edge}
use Rattle.dl_reading.specs.Lists.{is_fine, is_whole}
use Rattle.dl_reading.specs.declared.grid.GridShare.{GridShare}
use Rattle.dl_reading.specs.declared.grid.GridShare.TheVariants as grid_shares
use Rattle.dl_reading.specs.declared.grid.GridCeded.{GridCeded}
use Rattle.dl_reading.specs.declared.grid.GridClause.{GridClause}
use Rattle.dl_reading.specs.declared.made.MadeClause.{MadeClause}
use Rattle.dl_reading.specs.declared.made.MadeClause.TheVariants.{Missing, TooFine, Whole}

-- the part of a limit
abbrev pub part_of : Fraction → Option Fraction → Fraction
part_of x (Some n) = x /ℚ n
part_of x None = whole 0

-- all of a layer; a share of it; or an amount of money out of its limit
abbrev pub share_of : GridShare → Fraction
share_of grid_shares.Whole = whole 1
share_of (grid_shares.So x) = x
share_of (grid_shares.Po x limit) = part_of x limit

abbrev pub ceded_layer : GridCeded → CedeLayer
ceded_layer c = record {
  share = share_of c.share;
  limit = c.layer.limit;
  attach = c.layer.attach;
}

abbrev pub clause_of : GridClause → Clause
clause_of c = (c.net, map ceded_layer c.layers)

abbrev pub shares_of : GridClause → List Fraction
shares_of c = map (λ l. share_of l.share) c.layers

-- a clause, none, or the mark that its shares are not fine
abbrev pub made_of : Option GridClause → MadeClause
made_of None = Missing
made_of (Some c) = if is_fine most_parts (shares_of c) then Whole (clause_of c) c.span else TooFine

-- it is one
abbrev pub IsMade : MadeClause → Type 0
IsMade Missing = ⊤
IsMade TooFine = ⊤
IsMade (Whole clause span) = IsClause clause

-- x lies below the top of a layer from a, where it has one
abbrev pub is_below_top : Option ℕ → ℕ → ℕ → Bool
is_below_top None a x = true
is_below_top (Some limit) a x = nat_lt x (a + limit)

-- the greater attachment lies below both tops
abbrev pub overlaps : CedeLayer → CedeLayer → Bool
overlaps l m =
    let greater : ℕ = max l.attach m.attach in
    is_below_top l.limit l.attach greater && is_below_top m.limit m.attach greater

-- the clause maps x to no whole number
abbrev pub is_off : Clause → ℕ → Bool
is_off clause x = not (is_whole (kept clause x))

abbrev pub greatest_edge : Clause → ℕ
greatest_edge clause = fold (λ greatest l. max greatest (edge l)) 0 clause.1

-- The clause maps a multiple of step to no whole number. From the greatest edge on it is linear, so
-- the multiples up to the second one past that edge decide for all.
abbrev pub is_off_multiples : Clause → ℕ → Bool
is_off_multiples clause step = list_any (λ n. is_off clause (n * step))
    (range_with_len 0 (greatest_edge clause / step + 3))
