-- The definitions that other crates cite, passed on from one place. Declares nothing.
pub use Rattle.dl_answers.specs.Admission.{IsAdmissionOf}
pub use Rattle.dl_answers.specs.Answers.{AreAdmitted, IsAnswered, IsFirstNot, IsGoodReport, RefusesAsk}
pub use Rattle.dl_answers.specs.Grounds.{AreReached, cells_read}
pub use Rattle.dl_answers.specs.Rows.{IsGood}
