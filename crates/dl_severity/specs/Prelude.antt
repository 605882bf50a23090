-- The definitions that other crates cite, passed on from one place. Declares nothing.
pub use Rattle.dl_severity.specs.Buckets.{HasPartsOf18Digits, buckets}
pub use Rattle.dl_severity.specs.Fits.{FitsStep}
pub use Rattle.dl_severity.specs.Ranges.{IsRange, PassesRoom, range_denominator, range_values}
pub use Rattle.dl_severity.specs.Steps.{ceded_each, items_of, layered, mixture_of, scaled, with_amount, with_weighed}
pub use Rattle.dl_severity.specs.Weighed.{IsWeighing}
pub use Rattle.dl_severity.specs.Weighing.{sum_of}
