pub mod Reading
pub mod Factored
pub mod Plain
pub mod Within
pub mod Parsing
pub mod Viable
pub mod Prelude
