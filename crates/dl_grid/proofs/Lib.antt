mod Common
pub mod Room
pub mod Sizes
pub mod CellLaws
pub mod EndLists
pub mod CellSets
pub mod WidthLaws
pub mod PlaceSums
pub mod Products
pub mod Computed
