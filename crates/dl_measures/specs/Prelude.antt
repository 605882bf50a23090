-- The definitions that other crates cite, passed on from one place. Declares nothing.
pub use Rattle.dl_measures.specs.Brackets.{IsFirstAtLeast, IsFirstFound}
pub use Rattle.dl_measures.specs.Ends.{IsTight, high_cdf, low_cdf}
pub use Rattle.dl_measures.specs.Layers.{layer_most}
pub use Rattle.dl_measures.specs.Prices.{AreQuantiles, AreTermsOf, price_width}
