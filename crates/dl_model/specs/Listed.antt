-- Listed counts and listed amounts: whole numbers, each with a whole weight.
use Rattle.std.specs.Prelude.{ℕ, List, map}
use Rattle.dl_exact.specs.Fraction.{Fraction, ◌over◌}
use Rattle.dl_plan.specs.declared.item.Item.{Item}
use Rattle.dl_plan.specs.Weighted.{weight_at, weight_sum}

-- the probability of x: its share of the weight of all
abbrev pub probability_at : List Item → ℕ → Fraction
probability_at items x = weight_at items x over weight_sum items

-- these numbers with equal weights; one that is listed k times is k times as likely
abbrev pub equally_likely : List ℕ → List Item
equally_likely values = map (λ value. record { amount = value; weight = 1 }) values
