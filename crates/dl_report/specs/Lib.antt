pub mod Ends
pub mod Lines
pub mod Objects
pub mod Plain
pub mod Records
pub mod Values
pub mod Writing
pub mod Prelude
