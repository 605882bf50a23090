-- The terms of a price: a weighted sum of tail means.
use Rattle.std.specs.Prelude.{ℕ, ◌≡◌, ◌≤◌, List, length, map}
use Rattle.dl_exact.specs.Prelude.{whole, sum_over}
use Rattle.dl_plan.specs.declared.settings.Term.{Term}
use Rattle.dl_plan.specs.Fine.{common_denominator}

-- the terms of a price
abbrev pub most_terms : ℕ
most_terms = 8

-- the common denominator of their weights
abbrev pub most_weight_parts : ℕ
most_weight_parts = 1000000

-- 1 to 8 terms whose weights have a common denominator of at most 1,000,000 and sum to 1
pub record ArePriced (terms : List Term) : Type 0 where
  pub some : 1 ≤ length terms
  pub few : length terms ≤ most_terms
  pub fine : common_denominator (map (λ term. term.weight) terms) ≤ most_weight_parts
  pub total : sum_over terms (λ term. term.weight) ≡ whole 1
