mod Common
pub mod Contributions
pub mod Runs
pub mod Windows
pub mod Pairs
pub mod BlockSums
pub mod Steps
pub mod Grow
pub mod Falling
pub mod GridEnds
pub mod Top
pub mod Units
pub mod Geometric
pub mod Raising
