-- The budget of an ask in units of 1/S, what it needs, and when it passes.
use Rattle.std.specs.Prelude.{ℕ, ◌+◌, ◌-◌, ◌*◌, ◌^◌, ◌<◌, ◌≤◌, Option, None, Some, IfSome, List, length, get_or, map, sum_by, bytes_eq, option_map}
use Rattle.std.specs.List.{position_or_len}
use Rattle.dl_limits.specs.Limits.{rarest_parts}
use Rattle.dl_exact.specs.Fraction.{Fraction, whole, ◌over◌, ◌*ℚ◌}
use Rattle.dl_grid.specs.Width.{up, convolution_spread, layer_width, tail_width}
use Rattle.dl_plan.specs.declared.plan.Unit.{Unit as UnitOfPlan}
use Rattle.dl_plan.specs.declared.plan.Plan.{Plan}
use Rattle.dl_plan.specs.declared.settings.Ask.{Ask}
use Rattle.dl_plan.specs.declared.settings.Ask.TheVariants.{Pmf, Cdf, Mean, Quantile, LayerMean, Tail, Price, Joint, Kappa, Cotail, Share}
use Rattle.dl_plan.specs.declared.settings.Asked.{Asked}
use Rattle.dl_plan.specs.declared.settings.Settings.{Settings}
use Rattle.dl_plan.specs.declared.settings.Term.{Term}
use Rattle.dl_plan.specs.Prelude.{facts_of, IsAskInRange}
use Rattle.dl_budget.specs.Shared.{raised_budget, shared_joint_budget, thinned_at}
use Rattle.dl_budget.specs.Units.{unit_budgets, unit_mean_budget, total_budget, others_budget, mean_budget}

-- how many units come before the one of this name
abbrev pub index_of : List ℕ → List UnitOfPlan → ℕ
index_of name units = position_or_len (λ u. bytes_eq u.name name) units

-- the number of the unit that an ask names, counted from 0; that of all units where none has the
-- name
abbrev pub named_unit : List UnitOfPlan → Ask → Option ℕ
named_unit units ask = option_map (λ name. index_of name units) (facts_of ask).unit

-- for each ask, that number
abbrev pub named_units : List UnitOfPlan → List Asked → List (Option ℕ)
named_units units asks = map (λ asked. named_unit units asked.ask) asks

-- the share of unit i in the total: of independent units all of its outcomes beside all of those of
-- the others, on each cell; of units that share a factor, all of its claims beside the raised unit
abbrev pub joint_by : Option Fraction → (S : ℕ) → Plan → ℕ → ℕ
joint_by None S plan i = plan.cells * convolution_spread S plan.cells
    (get_or (unit_budgets S plan.cells plan.units) i 0) (others_budget S plan i)
joint_by (Some r) S plan i = shared_joint_budget plan.cells
    (raised_budget S plan.cells r plan.units) (thinned_at plan.units i)

-- that of a plan
abbrev pub joint_budget : (S : ℕ) → Plan → ℕ → ℕ
joint_budget S plan i = joint_by plan.common S plan i

-- that of the mean of a layer
abbrev pub layer_mean_budget : (S : ℕ) → Plan → Option ℕ → ℕ → ℕ
layer_mean_budget S plan limit attach =
    layer_width limit attach (mean_budget S plan) (total_budget S plan)

-- that of the tail mean at p
abbrev pub tail_budget : (S : ℕ) → Plan → Fraction → ℕ
tail_budget S plan p =
    tail_width p (mean_budget S plan) plan.cells (total_budget S plan)

-- that of a price: of each term its part of the tail mean, rounded once at each end
abbrev pub price_budget : (S : ℕ) → Plan → List Term → ℕ
price_budget S plan terms =
    sum_by (λ term. up (term.weight *ℚ whole (tail_budget S plan term.p)) + 2) terms

-- that of a share of a total, which has probability 1 / rarest_parts or more
abbrev pub kappa_budget : (S : ℕ) → Plan → ℕ → ℕ
kappa_budget S plan i =
    rarest_parts * (plan.cells * total_budget S plan + joint_budget S plan i) + 2

-- that of the share of unit i in the tail mean at p
abbrev pub cotail_budget : (S : ℕ) → Plan → ℕ → Fraction → ℕ
cotail_budget S plan i p = up
    (((get_or (map (unit_mean_budget S plan.cells) plan.units) i 0 + joint_budget S plan i
    + 2 * plan.cells + plan.cells * (total_budget S plan + 2)
    + kappa_budget S plan i + 4) * p.den) over (p.den - p.num)) + 4

-- that of the same at every quantile, before it is divided by 1 - p: from the widths of the unit's
-- mean, of its joint means and of the total; under a common factor its mean is exact but for its ends
abbrev pub undivided_by : Option Fraction → (S : ℕ) → Plan → ℕ → ℕ
undivided_by None S plan i = get_or (map (unit_mean_budget S plan.cells) plan.units) i 0
    + 4 * joint_budget S plan i + 6 * (plan.cells * total_budget S plan) + 8 * plan.cells + 4
undivided_by (Some r) S plan i = 1
    + 4 * joint_budget S plan i + 6 * (plan.cells * total_budget S plan) + 4 * plan.cells + 4

-- that of the share of unit i in the tail mean at p, at every quantile
abbrev pub share_budget : (S : ℕ) → Plan → ℕ → Fraction → ℕ
share_budget S plan i p =
    up ((undivided_by plan.common S plan i * p.den) over (p.den - p.num)) + 4

-- the budget of an ask
unfoldable pub ask_budget : (S : ℕ) → Plan → Ask → ℕ
ask_budget S plan (Pmf x) = total_budget S plan
ask_budget S plan (Cdf x) = total_budget S plan
ask_budget S plan Mean = mean_budget S plan
ask_budget S plan (Quantile p) = total_budget S plan
ask_budget S plan (LayerMean limit attach) = layer_mean_budget S plan limit attach
ask_budget S plan (Tail p) = tail_budget S plan p
ask_budget S plan (Price terms) = price_budget S plan terms
ask_budget S plan (Joint unit at) = joint_budget S plan (index_of unit plan.units)
ask_budget S plan (Kappa unit at) = kappa_budget S plan (index_of unit plan.units)
ask_budget S plan (Cotail unit p) = cotail_budget S plan (index_of unit plan.units) p
ask_budget S plan (Share unit p) = share_budget S plan (index_of unit plan.units) p

-- how many units of the last printed digit a budget comes to, and one more
unfoldable pub in_digits : (S budget digits : ℕ) → ℕ
in_digits S budget digits = 1 + up ((budget * 10 ^ digits) over S)

-- the width that an ask needs
abbrev pub needed : (S : ℕ) → Plan → Ask → ℕ → ℕ
needed S plan ask digits = in_digits S (ask_budget S plan ask) digits

-- the most that the settings let an ask need: probabilities and quantiles have one limit, means the
-- other
abbrev pub most_for : Settings → Ask → ℕ
most_for settings ask = (facts_of ask).most settings

-- the settings let the ask pass
abbrev pub Passes : (S : ℕ) → Plan → Ask → Settings → Type 0
Passes S plan ask settings = needed S plan ask settings.digits ≤ most_for settings ask

-- the ask lies inside a grid of so many cells
abbrev pub IsInside : ℕ → Ask → Type 0
IsInside cells ask = (facts_of ask).least_cells ≤ cells

-- there is a unit of this name
abbrev pub IsNamed : List ℕ → List UnitOfPlan → Type 0
IsNamed name units = index_of name units < length units

-- a unit that the ask names is there
abbrev pub NamesUnit : List UnitOfPlan → Ask → Type 0
NamesUnit units ask = IfSome (facts_of ask).unit (λ name. IsNamed name units)

-- an ask about this plan: inside its grid, of one of its units, with values in their ranges
pub record IsAskOf (plan : Plan) (ask : Ask) : Type 0 where
  pub inside : IsInside plan.cells ask
  pub unit : NamesUnit plan.units ask
  pub values : IsAskInRange ask
