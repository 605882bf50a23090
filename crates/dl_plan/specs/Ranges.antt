-- The ranges of the settings, as the command line gives them.
use Rattle.std.specs.Prelude.{⊤, ◌<◌, ◌≤◌, length, All}
use Rattle.dl_limits.specs.Limits.{most_asks, most_digits, most_log2, numeral_bound, most_level_den, most_share_den}
use Rattle.dl_exact.specs.Fraction.{Fraction, whole, ◌<ℚ◌}
use Rattle.dl_plan.specs.declared.settings.Ask.{Ask}
use Rattle.dl_plan.specs.declared.settings.Settings.{Settings}
use Rattle.dl_plan.specs.declared.settings.Ask.TheVariants.{Price, Cotail}
use Rattle.dl_plan.specs.Facts.{facts_of}
use Rattle.dl_plan.specs.Terms.{ArePriced}

-- a bucket size above 0, as a numeral of at most 11 digits gives it
pub record IsBucket (bs : Fraction) : Type 0 where
  pub above : whole 0 <ℚ bs
  pub num : bs.num < numeral_bound
  pub den : bs.den ≤ numeral_bound

-- a probability below 1, as a numeral of at most 9 digits gives it
pub record IsLevel (p : Fraction) : Type 0 where
  pub below : p <ℚ whole 1
  pub num : p.num ≤ most_level_den
  pub den : p.den ≤ most_level_den

-- each probability of the ask is such
abbrev pub HasLevels : Ask → Type 0
HasLevels ask = All IsLevel (facts_of ask).levels

-- the terms of an ask for a price are those of one
abbrev pub HasTerms : Ask → Type 0
HasTerms (Price terms) = ArePriced terms
HasTerms ask = ⊤

-- the probability of an ask for a share of the tail mean has parts of at most 10,000
abbrev pub HasShareLevel : Ask → Type 0
HasShareLevel (Cotail unit p) = p.den ≤ most_share_den
HasShareLevel ask = ⊤

-- an ask with such values
pub record IsAskInRange (ask : Ask) : Type 0 where
  pub levels : HasLevels ask
  pub terms : HasTerms ask
  pub share : HasShareLevel ask

-- a bucket size; from 2 to 65,536 cells; from 1 to 9 digits; widths of at least 1; and at most 256
-- asks
pub record AreInRange (settings : Settings) : Type 0 where
  pub bucket : IsBucket settings.bs
  pub some_cells : 1 ≤ settings.log2
  pub few_cells : settings.log2 ≤ most_log2
  pub some_digits : 1 ≤ settings.digits
  pub few_digits : settings.digits ≤ most_digits
  pub width : 1 ≤ settings.width
  pub mwidth : 1 ≤ settings.mwidth
  pub asks : All (λ asked. IsAskInRange asked.ask) settings.asks
  pub few_asks : length settings.asks ≤ most_asks
