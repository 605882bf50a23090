-- When a row of a report is good: its ends hold what the plan declares, and lie no farther apart
-- than is needed.
use Rattle.std.specs.Prelude.{ℕ, ◌≡◌, ◌+◌, ◌-◌, ◌^◌, ◌<◌, ◌≤◌, ◌⊎◌, ◌↔◌, ⊤, Option, None, Some, MatchOption, List, All, Any}
use Rattle.dl_limits.specs.Limits.{rarest_parts, bits_of}
use Rattle.dl_exact.specs.Fraction.{Fraction, ◌over◌, ◌+ℚ◌, ◌<ℚ◌}
use Rattle.dl_model.specs.Prelude.{Holds, AtLeast, AtMost, Below, Quantity, PricedTerm, One, Point, Cdf, Mean, Layer, Tail, Price, Joint, IsQuantile, IsBracketed, HoldsShare, declared}
use Rattle.dl_measures.specs.Prelude.{IsTight, AreTermsOf, AreQuantiles}
use Rattle.dl_shares.specs.Drawn.{Declares}
use Rattle.dl_shares.specs.Settled.{MayBeAbsent}
use Rattle.dl_plan.specs.declared.plan.Plan.{Plan}
use Rattle.dl_plan.specs.declared.settings.Ask.{Ask}
use Rattle.dl_plan.specs.declared.settings.Ask.TheVariants as asks
use Rattle.dl_plan.specs.declared.settings.Asked.{Asked}
use Rattle.dl_plan.specs.declared.settings.Term.{Term}
use Rattle.dl_report.specs.declared.report.End.{End}
use Rattle.dl_report.specs.declared.report.End.TheVariants.{Number, Whole, Beyond, Absent}
use Rattle.dl_report.specs.declared.report.Row.{Row}
use Rattle.dl_budget.specs.Prelude.{total_budget, index_of, needed}

-- the ends of a plan's grids and means are in units of 1 over this
abbrev pub scale : Plan → ℕ
scale plan = 2 ^ bits_of plan.cells

-- ---- what the plan declares

-- the quantity, given another one, lies from l to h: its declared value over that of the other
abbrev pub DeclaresGiven : Plan → (given quantity : Quantity) → Fraction → Fraction → Type 0
DeclaresGiven plan given quantity l h = Holds (declared plan quantity) (declared plan given) l h

-- the tail mean at p lies from l to h, at each quantile that p has
abbrev pub DeclaresTail : Plan → Fraction → Fraction → Fraction → Type 0
DeclaresTail plan p l h = (q : ℕ) → IsQuantile (declared plan) q p
    → Declares plan (Tail p q) l h

-- the quantity is at least v, at most v, or below v
abbrev pub IsAtLeast : Plan → Quantity → Fraction → Type 0
IsAtLeast plan quantity v = AtLeast (declared plan quantity) (declared plan One) v

abbrev pub IsAtMost : Plan → Quantity → Fraction → Type 0
IsAtMost plan quantity v = AtMost (declared plan quantity) (declared plan One) v

abbrev pub IsBelow : Plan → Quantity → Fraction → Type 0
IsBelow plan quantity v = Below (declared plan quantity) (declared plan One) v

-- The price by these terms lies from l to h, with each quantile that their probabilities have; and
-- no whole numbers in the places of the quantiles give less than l.
pub record IsPriceBetween (plan : Plan) (terms : List Term) (l h : Fraction) : Type 0 where
  pub holds : (priced : List PricedTerm) → AreTermsOf terms priced
      → AreQuantiles (declared plan) priced → Declares plan (Price priced) l h
  pub least : (priced : List PricedTerm) → AreTermsOf terms priced
      → IsAtLeast plan (Price priced) l

-- the share of unit i in the tail mean at p lies from l to h, at each quantile that p has
abbrev pub DeclaresShare : Plan → ℕ → Fraction → Fraction → Fraction → Type 0
DeclaresShare plan i p l h = (q : ℕ) → IsQuantile (declared plan) q p
    → HoldsShare (declared plan) i p q l h

-- the distribution at the last cell of the grid
abbrev pub at_the_end : Plan → Quantity
at_the_end plan = Cdf (plan.cells - 1)

-- the least probability of a total for which a share is reported
abbrev pub least_likely : Fraction
least_likely = 1 over rarest_parts

-- ---- rows

-- two numbers with d digits behind the point between which it lies, at most so many units of the
-- last digit apart
pub record AreRowEnds (LiesBetween : Fraction → Fraction → Type 0) (d most : ℕ)
    (row : Row) : Type 0 where
  pub low : ℕ
  pub high : ℕ
  pub is_low : row.low ≡ Number low
  pub is_high : row.high ≡ Number high
  pub order : low ≤ high
  pub narrow : high ≤ low + most
  pub holds : LiesBetween (low over 10 ^ d) (high over 10 ^ d)

-- the end of a bracket past the grid has no number
abbrev pub bracket_end : Option ℕ → End
bracket_end None = Beyond
bracket_end (Some hi) = Whole hi

-- A bracket of the quantile at p: the distribution is below p before it and at least p at its end,
-- and within d of p inside it. Its end lies past the grid only where the distribution at the last
-- cell is below p + d.
pub record IsBracket (plan : Plan) (p d : Fraction) (row : Row) : Type 0 where
  pub lo : ℕ
  pub hi : Option ℕ
  pub is_low : row.low ≡ Whole lo
  pub is_high : row.high ≡ bracket_end hi
  pub inside : MatchOption hi (lo ≤ plan.cells) (λ x. (lo ≤ x) × (x < plan.cells))
  pub bracketed : IsBracketed (declared plan) lo hi p
  pub tight : IsTight (declared plan) plan.cells lo hi p d
  pub beyond : hi ≡ None → IsBelow plan (at_the_end plan) (p +ℚ d)

-- A tail mean at p in numbers. They come only where the distribution reaches p inside the grid.
pub record IsTailMean (plan : Plan) (p : Fraction) (d most : ℕ) (row : Row) : Type 0 where
  pub reached : IsAtLeast plan (at_the_end plan) p
  pub ends : AreRowEnds (DeclaresTail plan p) d most row

-- both ends lie past the grid
pub record IsPastGrid (row : Row) : Type 0 where
  pub is_low : row.low ≡ Beyond
  pub is_high : row.high ≡ Beyond

-- No tail mean at p: only where the distribution at the last cell is below p + d.
pub record IsBeyond (plan : Plan) (p d : Fraction) (row : Row) : Type 0 where
  pub past : IsPastGrid row
  pub below : IsBelow plan (at_the_end plan) (p +ℚ d)

-- The high end of a quantile lies past the grid exactly where its level is above `reach`; and so do
-- both ends of a tail mean, and of a share of it at every quantile.
abbrev pub IsPastAbove : (reach : Fraction) → Ask → Row → Type 0
IsPastAbove reach (asks.Quantile p) row = (row.high ≡ Beyond) ↔ (reach <ℚ p)
IsPastAbove reach (asks.Tail p) row = IsPastGrid row ↔ (reach <ℚ p)
IsPastAbove reach (asks.Share unit p) row = IsPastGrid row ↔ (reach <ℚ p)
IsPastAbove reach ask row = ⊤

-- A price by these terms in numbers. They come only where the distribution reaches the probability
-- of each term inside the grid.
pub record IsPrice (plan : Plan) (terms : List Term) (d most : ℕ) (row : Row) : Type 0 where
  pub reached : All (λ term. IsAtLeast plan (at_the_end plan) term.p) terms
  pub ends : AreRowEnds (IsPriceBetween plan terms) d most row

-- No price by these terms: only where the distribution at the last cell is below p + d for the
-- probability p of some term, whatever its weight.
pub record IsBeyondSome (plan : Plan) (terms : List Term) (d : Fraction) (row : Row) : Type 0 where
  pub past : IsPastGrid row
  pub below : Any (λ term. IsBelow plan (at_the_end plan) (term.p +ℚ d)) terms

-- The share of unit i in the total x in numbers: its mean outcome, given that total. They come only
-- where the probability of that total is at least 1 / rarest_parts.
pub record IsShareOfUnit (plan : Plan) (i x d most : ℕ) (row : Row) : Type 0 where
  pub likely : IsAtLeast plan (Point x) least_likely
  pub ends : AreRowEnds (DeclaresGiven plan (Point x) (Joint i x)) d most row

-- No share in the total x: only where the probability of that total is below 1 / rarest_parts
-- + d.
pub record IsTooRare (plan : Plan) (x : ℕ) (d : Fraction) (row : Row) : Type 0 where
  pub is_low : row.low ≡ Absent
  pub is_high : row.high ≡ Absent
  pub rare : IsBelow plan (Point x) (least_likely +ℚ d)

-- The share of unit i in the tail mean at p in numbers. They come only where the distribution
-- reaches p inside the grid.
pub record IsTailShare (plan : Plan) (i : ℕ) (p : Fraction) (d most : ℕ) (row : Row) : Type 0 where
  pub reached : IsAtLeast plan (at_the_end plan) p
  pub ends : AreRowEnds (DeclaresShare plan i p) d most row

-- No share in the tail mean at p: only where the distribution is within d of p at some total of the
-- grid, or the probability of the quantile is below 1 / rarest_parts + d.
pub record IsNoTailShare (plan : Plan) (p d : Fraction) (row : Row) : Type 0 where
  pub is_low : row.low ≡ Absent
  pub is_high : row.high ≡ Absent
  pub why : MayBeAbsent (declared plan) plan.cells p d

-- the most that the ends of the distribution and of its points lie apart; ends in units of 1/S
abbrev pub total_error : (S : ℕ) → Plan → Fraction
total_error S plan = total_budget S plan over S

-- a good row of an ask, with d digits, from ends in units of 1/S
abbrev pub IsAnswerTo : (S : ℕ) → Plan → ℕ → Ask → Row → Type 0
IsAnswerTo S plan d (asks.Pmf x) row = AreRowEnds (Declares plan (Point x)) d
    (needed S plan (asks.Pmf x) d) row
IsAnswerTo S plan d (asks.Cdf x) row = AreRowEnds (Declares plan (Cdf x)) d
    (needed S plan (asks.Cdf x) d) row
IsAnswerTo S plan d asks.Mean row = AreRowEnds (Declares plan Mean) d
    (needed S plan asks.Mean d) row
IsAnswerTo S plan d (asks.Quantile p) row = IsBracket plan p (total_error S plan) row
IsAnswerTo S plan d (asks.LayerMean limit attach) row =
    AreRowEnds (Declares plan (Layer limit attach)) d
    (needed S plan (asks.LayerMean limit attach) d) row
IsAnswerTo S plan d (asks.Tail p) row =
    IsTailMean plan p d (needed S plan (asks.Tail p) d) row
    ⊎ IsBeyond plan p (total_error S plan) row
IsAnswerTo S plan d (asks.Price terms) row =
    IsPrice plan terms d (needed S plan (asks.Price terms) d) row
    ⊎ IsBeyondSome plan terms (total_error S plan) row
IsAnswerTo S plan d (asks.Joint unit at) row =
    AreRowEnds (Declares plan (Joint (index_of unit plan.units) at)) d
    (needed S plan (asks.Joint unit at) d) row
IsAnswerTo S plan d (asks.Kappa unit at) row =
    IsShareOfUnit plan (index_of unit plan.units) at d (needed S plan (asks.Kappa unit at) d) row
    ⊎ IsTooRare plan at (total_error S plan) row
IsAnswerTo S plan d (asks.Cotail unit p) row =
    IsTailShare plan (index_of unit plan.units) p d (needed S plan (asks.Cotail unit p) d) row
    ⊎ IsBeyond plan p (total_error S plan) row
    ⊎ IsNoTailShare plan p (total_error S plan) row
IsAnswerTo S plan d (asks.Share unit p) row =
    IsTailShare plan (index_of unit plan.units) p d (needed S plan (asks.Share unit p) d) row
    ⊎ IsBeyond plan p (total_error S plan) row

-- the ask as it was written, and two good ends
pub record IsGood (plan : Plan) (d : ℕ) (asked : Asked) (row : Row) : Type 0 where
  pub ask : row.ask ≡ asked.text
  pub answer : IsAnswerTo (scale plan) plan d asked.ask row
