-- The terms of a price with whole numbers for their quantiles, and how wide its ends are.
use Rattle.std.specs.Prelude.{ℕ, ◌≡◌, ◌+◌, ◌*◌, List, map, sum_by, All}
use Rattle.dl_limits.specs.Limits.{most_level_den, most_mean}
use Rattle.dl_exact.specs.Fraction.{whole, ◌*ℚ◌}
use Rattle.dl_grid.specs.Width.{up, tail_width}
use Rattle.dl_plan.specs.declared.settings.Term.{Term}
use Rattle.dl_model.specs.Prelude.{Series, Quantity, PricedTerm, IsQuantile}

-- a term without the number for its quantile
abbrev pub term_of : PricedTerm → Term
term_of t = record { weight = t.weight; p = t.p }

-- these terms, each with some whole number
abbrev pub AreTermsOf : List Term → List PricedTerm → Type 0
AreTermsOf terms priced = map term_of priced ≡ terms

-- each number is the quantile at the probability of its term
abbrev pub AreQuantiles : (Quantity → Series) → List PricedTerm → Type 0
AreQuantiles declares priced = All (λ t. IsQuantile declares t.quantile t.p) priced

-- the most units that a tail mean comes to, where the mean of the total and the parts of p are
-- at most what they can be
abbrev pub most_tail : ℕ
most_tail = most_mean * (most_level_den + 1)

-- how wide a term of a price may be: its part of the tail mean, rounded once at each end
abbrev pub term_width : (mean cells spread : ℕ) → Term → ℕ
term_width mean cells spread term =
    up (term.weight *ℚ whole (tail_width term.p mean cells spread)) + 2

-- how wide a price may be, from the width of the mean of the total, and from the cells and the
-- spread of its grid
abbrev pub price_width : List Term → (mean cells spread : ℕ) → ℕ
price_width terms mean cells spread = sum_by (term_width mean cells spread) terms
