-- The definitions that other crates cite, passed on from one place. Declares nothing.
pub use Rattle.dl_parser.specs.Viable.{IsContinuous, Stops}
pub use Rattle.dl_parser.specs.Within.{AllInside}
