mod Common
pub mod SizeLaws
pub mod Repeats
pub mod HalvingLaws
pub mod Bases
pub mod Counts
pub mod NoneSizes
pub mod Horizons
pub mod Sums
pub mod Means
pub mod Tails
mod TailShares
pub mod SharedUnits
mod Prices
pub mod Rows
