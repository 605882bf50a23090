pub mod Rows
pub mod Answers
pub mod Admission
pub mod Grounds
pub mod Prelude
