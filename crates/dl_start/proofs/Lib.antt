mod Common
pub mod Rounding
pub mod Products
pub mod Beginnings
pub mod Shares
pub mod Squares
pub mod Widths
