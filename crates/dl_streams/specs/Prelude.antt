-- The definitions that other crates cite, passed on from one place. Declares nothing.
pub use Rattle.dl_streams.specs.Bytes.{AppendsPartOf, TakesAtMost}
pub use Rattle.dl_streams.specs.Faults.{Rose}
pub use Rattle.dl_streams.specs.Steps.{Reading, Step}
