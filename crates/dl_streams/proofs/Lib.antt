-- The lemmas of this crate.
mod Taken
pub mod Appended
