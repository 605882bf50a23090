-- Amounts in buckets, or numbers of claims, with whole weights.
use Rattle.std.specs.Prelude.{ℕ, ◌≡◌, ◌*◌, ◌/◌, ◌<◌, ◌≤◌, ◌==◌, if◌then◌else◌, List, length, map, fold, sum_by, All, [], ◌∷◌, max}
use Rattle.std.specs.List.Sorted.{IsStrictlyIncreasing}
use Rattle.dl_limits.specs.Limits.{most_weights}
use Rattle.dl_exact.specs.Gcd.{gcd}
use Rattle.dl_plan.specs.declared.item.Item.{Item}

-- the amounts of items, in order
abbrev pub amounts_of : List Item → List ℕ
amounts_of items = map (λ item. item.amount) items

-- the sum of the weights of items
abbrev pub weight_sum : List Item → ℕ
weight_sum items = sum_by (λ item. item.weight) items

-- the weight of x
abbrev pub weight_at : List Item → ℕ → ℕ
weight_at items x = sum_by (λ item. if item.amount == x then item.weight else 0) items

-- the sum of amount times weight
abbrev pub weighted_sum : List Item → ℕ
weighted_sum items = sum_by (λ item. item.amount * item.weight) items

-- the greatest common divisor of the weights
abbrev pub common_weight : List Item → ℕ
common_weight items = fold (λ d item. gcd d item.weight) 0 items

-- the item with its weight divided by d
abbrev pub divided_by : ℕ → Item → Item
divided_by d item = record { amount = item.amount; weight = item.weight / d }

-- the greatest common divisor of the amounts: each is a multiple of it
abbrev pub common_amount : List Item → ℕ
common_amount items = fold (λ d item. gcd d item.amount) 0 items

-- at least one item, amounts rising, and weights above 0 that sum to the total, at most 2^40, and
-- have no common divisor above 1
pub record IsWeighted (items : List Item) (total : ℕ) : Type 0 where
  pub some : 0 < length items
  pub rising : IsStrictlyIncreasing (amounts_of items)
  pub positive : All (λ item. 0 < item.weight) items
  pub sum : weight_sum items ≡ total
  pub within : total ≤ most_weights
  pub lowest : common_weight items ≡ 1

-- the greatest amount, 0 of none
abbrev pub greatest : List Item → ℕ
greatest [] = 0
greatest (item ∷ items) = max item.amount (greatest items)
