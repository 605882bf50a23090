mod Common
pub mod Columns
pub mod Ends
pub mod Filled
pub mod Fits
