mod Common
pub mod Rounding
pub mod Operations
pub mod SumLaws
pub mod Conditions
pub mod Enclosures
