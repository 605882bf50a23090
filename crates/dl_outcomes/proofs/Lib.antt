mod Common
pub mod Walk
pub mod Mapped
pub mod Ceded
pub mod Rest
pub mod MeanSizes
pub mod MeanEnds
pub mod Rounded
pub mod Values
pub mod Losses
pub mod Cells
pub mod Means
