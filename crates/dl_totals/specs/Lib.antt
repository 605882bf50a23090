pub mod Sums
pub mod Shared
pub mod Chosen
pub mod Tree
