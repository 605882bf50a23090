-- The severity of one claim: what the whole weights mean, and the conditioning on large amounts.
use Rattle.std.specs.Prelude.{ℕ, ◌≡◌, ◌==◌, nat_lt, if◌then◌else◌, List, map, filter}
use Rattle.dl_exact.specs.Prelude.{Fraction, whole, ◌over◌, ◌*ℚ◌, ◌/ℚ◌, sum_over}
use Rattle.dl_plan.specs.declared.item.Item.{Item}
use Rattle.dl_plan.specs.declared.severity.Sev.{Sev}
use Rattle.dl_plan.specs.Weighted.{weight_at}

-- amounts in buckets, each with a probability; an amount may occur more than once
abbrev pub Pairs : Type 0
Pairs = List (ℕ × Fraction)

-- the probability of x: that of equal amounts is added up
abbrev pub probability : Pairs → ℕ → Fraction
probability pairs x = sum_over pairs (λ pair. if pair.0 == x then pair.1 else whole 0)

-- the probability of all amounts of the list
abbrev pub mass : Pairs → Fraction
mass pairs = sum_over pairs (λ pair. pair.1)

-- the mean amount
abbrev pub mean_amount : Pairs → Fraction
mean_amount pairs = sum_over pairs (λ pair. whole pair.0 *ℚ pair.1)

-- the amounts above a, each with its probability over that of all of them
abbrev pub conditioned : ℕ → Pairs → Pairs
conditioned a pairs =
    let above : Pairs = filter (λ pair. nat_lt a pair.0) pairs in
    map (λ pair. (pair.0, pair.1 /ℚ mass above)) above

-- amounts with whole weights: each has its weight over the total as its probability
abbrev pub shares : List Item → ℕ → Pairs
shares items total = map (λ item. (item.amount, item.weight over total)) items

-- the amounts of a severity with their probabilities
abbrev pub pairs_of : Sev → Pairs
pairs_of sev = shares sev.items sev.total

-- the probability of x: its weight over the total
abbrev pub probability_of : Sev → ℕ → Fraction
probability_of sev x = weight_at sev.items x over sev.total

-- the severity means these amounts, equal ones added up
abbrev pub HasDistribution : Sev → Pairs → Type 0
HasDistribution sev pairs = (x : ℕ) → probability_of sev x ≡ probability pairs x
