-- The definitions that other crates cite, passed on from one place. Declares nothing.
pub use Rattle.dl_report.specs.Lines.{lines_of}
pub use Rattle.dl_report.specs.Objects.{AsksAreText, json_of}
pub use Rattle.dl_report.specs.Plain.{IsInRange, IsPlain}
pub use Rattle.dl_report.specs.Records.{csv_of}
