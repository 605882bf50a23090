-- The definitions that other crates cite, passed on from one place. Declares nothing.
pub use Rattle.dl_outcomes.specs.Before.{HoldsMean, HoldsNone, IsBefore}
pub use Rattle.dl_outcomes.specs.Ends.{changed_mean_width, changed_spread}
