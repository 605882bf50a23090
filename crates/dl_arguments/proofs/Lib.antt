mod Common
pub mod Cuts
pub mod TestedValues
pub mod AskLists
pub mod Reading
pub mod Simulation
pub mod RowLemmas
pub mod Whole
pub mod Cleaned
pub mod Judged
pub mod Signs
pub mod WayLaws
pub mod NumeralBytes
pub mod Prices
pub mod TermLists
pub mod TableLaws
pub mod WrittenLaws
pub mod RangeLaws
pub mod PlainAsks
mod Heads
