mod Common
pub mod FractionLaws
pub mod Tens
pub mod NumeralLaws
pub mod SmallNumerals
