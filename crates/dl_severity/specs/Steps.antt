-- The steps of a severity, as lists of amounts with their probabilities.
use Rattle.std.specs.Prelude.{ℕ, nat_lt, if◌then◌else◌, Option, List, [], ◌∷◌, ◌++◌, map, zip}
use Rattle.dl_exact.specs.Fraction.{Fraction, ◌over◌, ◌*ℚ◌}
use Rattle.dl_plan.specs.declared.item.Item.{Item}
use Rattle.dl_plan.specs.declared.severity.Sev.{Sev}
use Rattle.dl_plan.specs.Prelude.{Pairs, pairs_of, Clause, layer, kept}
use Rattle.dl_severity.specs.declared.weights.Weights.{Weights}

-- each amount with its weight over the total
abbrev pub weighed : List ℕ → Weights → Pairs
weighed amounts weights =
    map (λ pair. (pair.0, pair.1 over weights.total)) (zip amounts weights.weights)

-- an amount with its weight as an item
abbrev pub items_of : List ℕ → List ℕ → List Item
items_of amounts weights =
    map (λ pair. record { amount = pair.0; weight = pair.1 }) (zip amounts weights)

-- the pairs with each probability times a share
abbrev pub scaled : Fraction → Pairs → Pairs
scaled share pairs = map (λ pair. (pair.0, share *ℚ pair.1)) pairs

-- the pairs of each atom times its weight over the total, one atom after another
abbrev pub mixture_of : ℕ → List Sev → List ℕ → Pairs
mixture_of total [] weights = []
mixture_of total (atom ∷ atoms) [] = []
mixture_of total (atom ∷ atoms) (weight ∷ weights) =
    scaled (weight over total) (pairs_of atom) ++ mixture_of total atoms weights

-- the mixture of atoms by these weights over their total
abbrev pub mixture : List Sev → Weights → Pairs
mixture atoms weights = mixture_of weights.total atoms weights.weights

-- the share of an item over a total
abbrev pub mixed_probability : Fraction → ℕ → Item → Fraction
mixed_probability share total item = share *ℚ item.weight over total

-- each amount mapped, with its probability
abbrev pub with_amounts : (ℕ → ℕ) → Pairs → Pairs
with_amounts f pairs = map (λ pair. (f pair.0, pair.1)) pairs

-- the part of each amount in a layer
abbrev pub layered : Option ℕ → ℕ → Pairs → Pairs
layered limit attach pairs = with_amounts (layer limit attach) pairs

-- the outcome of each amount after a clause; a whole number is its numerator
abbrev pub ceded_each : Clause → Pairs → Pairs
ceded_each clause pairs = with_amounts (λ x. (kept clause x).num) pairs

-- an item with its amount mapped
abbrev pub with_amount : (ℕ → ℕ) → Item → Item
with_amount f item = record { amount = f item.amount; weight = item.weight }

-- a list with one item more, if that has a weight
abbrev pub with_weighed : List Item → Item → List Item
with_weighed items item = if nat_lt 0 item.weight then items ++ item ∷ [] else items
