-- The definitions that other crates cite, passed on from one place. Declares nothing.
pub use Rattle.dl_frac.specs.Exact.{FitsFrac, Gives, IsTooFine}
unfoldable pub use Rattle.dl_frac.specs.Numerals.{is_bad, numeral_value}
