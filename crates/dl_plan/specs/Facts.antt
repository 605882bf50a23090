-- The facts of each ask before anything is computed, one row for each, from which follow whether it
-- fits a grid and a plan, and how far its ends may lie apart.
use Rattle.std.specs.Prelude.{ℕ, ◌+◌, Option, Some, None, List, [], ◌∷◌, map}
use Rattle.dl_exact.specs.Fraction.{Fraction}
use Rattle.dl_plan.specs.declared.settings.Ask.{Ask}
use Rattle.dl_plan.specs.declared.settings.Ask.TheVariants.{Pmf, Cdf, Mean, Quantile, LayerMean, Tail, Price, Joint, Kappa, Cotail, Share}
use Rattle.dl_plan.specs.declared.settings.Settings.{Settings}
use Rattle.dl_plan.specs.Horizon.{edge_of}

-- the fewest cells of a grid that the ask lies inside, 0 where any will do; the unit that it names;
-- the probabilities that it is for; and the most that the settings let its ends lie apart
pub record AskFacts : Type 0 where
  pub least_cells : ℕ
  pub unit : Option (List ℕ)
  pub levels : List Fraction
  pub most : Settings → ℕ

-- a row of the table
abbrev pub facts : ℕ → Option (List ℕ) → List Fraction → (Settings → ℕ) → AskFacts
facts least_cells unit levels most =
    record { least_cells = least_cells; unit = unit; levels = levels; most = most }

-- the settings' width of a probability or a quantile, and that of a mean
abbrev pub of_probability : Settings → ℕ
of_probability settings = settings.width

abbrev pub of_mean : Settings → ℕ
of_mean settings = settings.mwidth

-- the table: least cells, unit, probabilities, and which width
abbrev pub facts_of : Ask → AskFacts
facts_of (Pmf x) = facts (x + 1) None [] of_probability
facts_of (Cdf x) = facts (x + 1) None [] of_probability
facts_of Mean = facts 0 None [] of_mean
facts_of (Quantile p) = facts 0 None (p ∷ []) of_probability
facts_of (LayerMean limit attach) = facts (edge_of limit attach) None [] of_mean
facts_of (Tail p) = facts 0 None (p ∷ []) of_mean
facts_of (Price terms) = facts 0 None (map (λ term. term.p) terms) of_mean
facts_of (Joint unit at) = facts (at + 1) (Some unit) [] of_mean
facts_of (Kappa unit at) = facts (at + 1) (Some unit) [] of_mean
facts_of (Cotail unit p) = facts 0 (Some unit) (p ∷ []) of_mean
facts_of (Share unit p) = facts 0 (Some unit) (p ∷ []) of_mean
