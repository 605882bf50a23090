-- The definitions that other crates cite, passed on from one place. Declares nothing.
pub use Rattle.dl_budget.specs.Asks.{IsInside, NamesUnit, Passes, cotail_budget, index_of, joint_budget, kappa_budget, named_unit, named_units, needed, price_budget, tail_budget}
unfoldable pub use Rattle.dl_budget.specs.Asks.{in_digits}
pub use Rattle.dl_budget.specs.Claims.{claims_budget, geometric_spread, none_budget, rest_part, shape_spread, whole_part, whole_spread}
unfoldable pub use Rattle.dl_budget.specs.Claims.{count_budget, gamma_budget, poisson_budget}
unfoldable pub use Rattle.dl_budget.specs.Halvings.{halvings}
pub use Rattle.dl_budget.specs.Shared.{raised_budget, shape_budget, thinned_at}
pub use Rattle.dl_budget.specs.Units.{after_clause, mean_budget, others_budget, total_budget, unit_budget, unit_budgets, unit_mean_budget}
