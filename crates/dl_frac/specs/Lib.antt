pub mod Exact
pub mod Cuts
pub mod Numerals
pub mod Reads
pub mod Prelude
