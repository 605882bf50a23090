-- The result of an evaluation: a good report, or its first fault.
use Rattle.std.specs.Prelude.{ℕ, ◌≡◌, ◌<◌, ⊤, None, List, length, get_or, zip, All}
use Rattle.dl_exact.specs.Prelude.{Fraction}
use Rattle.dl_plan.specs.declared.plan.Plan.{Plan}
use Rattle.dl_plan.specs.declared.settings.Ask.{Ask}
use Rattle.dl_plan.specs.declared.settings.Ask.TheVariants.{Cotail}
use Rattle.dl_plan.specs.declared.settings.Asked.{Asked}
use Rattle.dl_plan.specs.declared.settings.Settings.{Settings}
use Rattle.dl_report.specs.declared.report.Report.{Report}
use Rattle.dl_budget.specs.Asks.{IsInside, NamesUnit, Passes, needed}
use Rattle.dl_answers.specs.declared.fault.EvalFault.{EvalFault}
use Rattle.dl_answers.specs.declared.fault.EvalFault.TheVariants.{AskBeyond, UnknownUnit, NoShare, TooWide, OutOfMemory}
use Rattle.dl_answers.specs.Rows.{scale, IsGood, IsPastAbove}

-- The number of digits of the settings, and one good row for each ask, in order. Up to the level
-- `reach`, and no farther, quantiles have a high end inside the grid, and tail means and shares of
-- them at every quantile have numbers: at one level all alike.
pub record IsGoodReport (plan : Plan) (settings : Settings) (report : Report) : Type 0 where
  pub digits : report.digits ≡ settings.digits
  pub as_many : length report.rows ≡ length settings.asks
  pub rows : All (λ pair. IsGood plan settings.digits pair.0 pair.1) (zip settings.asks report.rows)
  pub reach : Fraction
  pub past : All (λ pair. IsPastAbove reach pair.0.ask pair.1) (zip settings.asks report.rows)

-- each ask lies inside the grid; each names a unit of the plan, if it names one; and each passes
-- the width rule
abbrev pub AreInside : Plan → Settings → Type 0
AreInside plan settings = All (λ asked. IsInside plan.cells asked.ask) settings.asks

abbrev pub NameUnits : Plan → Settings → Type 0
NameUnits plan settings = All (λ asked. NamesUnit plan.units asked.ask) settings.asks

-- an ask for a share of the tail mean is admitted only where the units share no factor
abbrev pub HasShare : Plan → Ask → Type 0
HasShare plan (Cotail unit p) = plan.common ≡ None
HasShare plan ask = ⊤

abbrev pub HaveShares : Plan → Settings → Type 0
HaveShares plan settings = All (λ asked. HasShare plan asked.ask) settings.asks

abbrev pub AllPass : Plan → Settings → Type 0
AllPass plan settings = All (λ asked. Passes (scale plan) plan asked.ask settings) settings.asks

-- ask i is the first that P does not hold of
pub record IsFirstNot (P : Asked → Type 0) (all : List Asked) (i : ℕ) : Type 0 where
  pub inside : i < length all
  pub here : (default : Asked) → ¬ P (get_or all i default)
  pub before : (k : ℕ) (default : Asked) → k < i → P (get_or all k default)

-- ask i is the first that needs more width than the settings give, and it needs this one
pub record IsFirstWide (plan : Plan) (settings : Settings) (i width : ℕ) : Type 0 where
  pub first : IsFirstNot (λ asked. Passes (scale plan) plan asked.ask settings) settings.asks i
  pub needs : (default : Asked) → width ≡ needed (scale plan) plan
      (get_or settings.asks i default).ask settings.digits

-- the first ask that passes the grid; else the first that names no unit; else the first for a share
-- of the tail mean, where the units share a factor; else the first that needs too much width
abbrev pub RefusesAsk : Plan → Settings → EvalFault → Type 0
RefusesAsk plan settings (AskBeyond i) = IsFirstNot
    (λ asked. IsInside plan.cells asked.ask) settings.asks i
RefusesAsk plan settings (UnknownUnit i) = AreInside plan settings
    × IsFirstNot (λ asked. NamesUnit plan.units asked.ask) settings.asks i
RefusesAsk plan settings (NoShare i) = AreInside plan settings × NameUnits plan settings
    × IsFirstNot (λ asked. HasShare plan asked.ask) settings.asks i
RefusesAsk plan settings (TooWide i width) = AreInside plan settings × NameUnits plan settings
    × HaveShares plan settings × IsFirstWide plan settings i width
RefusesAsk plan settings OutOfMemory = ⊤

-- no ask is refused
pub record AreAdmitted (plan : Plan) (settings : Settings) : Type 0 where
  pub inside : AreInside plan settings
  pub named : NameUnits plan settings
  pub shares : HaveShares plan settings
  pub pass : AllPass plan settings

-- a good report, where no ask is refused
abbrev pub IsAnswered : Plan → Settings → Report → Type 0
IsAnswered plan settings report = AreAdmitted plan settings × IsGoodReport plan settings report
