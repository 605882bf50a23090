pub mod Gcd
pub mod Multiples
pub mod Fraction
pub mod Rounding
pub mod Power
pub mod Sum
pub mod Count
pub mod Prelude
