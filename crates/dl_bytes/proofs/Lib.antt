mod Common
pub mod Beginnings
pub mod FirstSign
pub mod DigitLaws
pub mod Numerals
pub mod NumeralTests
