pub mod Common
pub mod CellEnds
mod FoundBrackets
mod Widths
pub mod MarkLaws
pub mod Sums
pub mod Reached
pub mod LayerEnds
pub mod TailLaws
mod Parts
mod PriceSums
