-- The definitions that other crates cite, passed on from one place. Declares nothing.
pub use Rattle.dl_model.specs.ChangedZero.{changed}
pub use Rattle.dl_model.specs.CommonFactor.{CountsTotal, pooled_severity}
pub use Rattle.dl_model.specs.CommonUnits.{IsPoissonSum, poisson_units}
pub use Rattle.dl_model.specs.Compound.{cell, cell_from, convolve}
unfoldable pub use Rattle.dl_model.specs.Compound.{at_zero, power}
pub use Rattle.dl_model.specs.Counts.{IsPanjer, binomial, fixed, gamma_of}
unfoldable pub use Rattle.dl_model.specs.Counts.{gamma, poisson}
pub use Rattle.dl_model.specs.Family.{Encloses, Family, GridEncloses, IsProper, SameCells, compound, nothing, product, times_itself}
pub use Rattle.dl_model.specs.Listed.{probability_at}
pub use Rattle.dl_model.specs.Measures.{AreDeclared, IsBracketed, IsDeclaredLoss, IsQuantile, unit_of, without}
pub use Rattle.dl_model.specs.Plans.{aggregate_of, aggregates_of, claims_of, compound_of, count_weights, declared, loss_of, mean_ceded, outcome_after}
pub use Rattle.dl_model.specs.Program.{AreDeclarable, Cdf, Joint, Layer, Loss, Mean, One, Outcome, Part, Point, Price, PricedTerm, Quantity, Share, Tail, partial_sums, total, where_true}
unfoldable pub use Rattle.dl_model.specs.Program.{sum_over_outcomes}
pub use Rattle.dl_model.specs.Recursion.{Recursion, from_before}
pub use Rattle.dl_model.specs.Series.{AtLeast, AtMost, Below, Holds, IsBound, Series}
pub use Rattle.dl_model.specs.Severity.{IsWithinOne}
pub use Rattle.dl_model.specs.Shares.{HoldsShare}
pub use Rattle.dl_model.specs.Units.{Aggregate, IsDeclared, loss, mapped}
