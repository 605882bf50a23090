mod Common
pub mod Severities
pub mod Families
pub mod Widths
pub mod Positive
pub mod Places
pub mod NoClaim
pub mod Trials
pub mod TrialGrids
pub mod CountKinds
pub mod Thinned
mod Pushed
pub mod Shapes
