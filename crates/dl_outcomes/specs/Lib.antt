pub mod TakenIn
pub mod Means
pub mod Before
pub mod Ends
pub mod Prelude
