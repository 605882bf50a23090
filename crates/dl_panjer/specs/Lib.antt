pub mod Exponential
pub mod Ends
pub mod Cells
pub mod Outward
pub mod Bases
