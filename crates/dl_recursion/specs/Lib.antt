pub mod Runs
pub mod Recursion
pub mod Blocks
pub mod ToGrid
pub mod Geometric
pub mod Passes
