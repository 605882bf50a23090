mod Common
pub mod Terms
pub mod Roundings
pub mod Reciprocals
pub mod EndLaws
pub mod ItemSums
pub mod Reading
pub mod Steps
pub mod Recursions
pub mod Base
pub mod Outward
pub mod Compounds
pub mod Mass
pub mod Spreads
pub mod Starts
pub mod Grids
pub mod EndsOf
pub mod Shapes
