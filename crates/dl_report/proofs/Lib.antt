mod Common
mod Examples
pub mod Ascii
pub mod CsvRecords
pub mod Digits
pub mod Joined
pub mod JsonObjects
pub mod Fractions
pub mod Parting
pub mod EndLaws
pub mod RowLaws
pub mod ObjectLaws
