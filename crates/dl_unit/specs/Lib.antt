pub mod Trials
pub mod Narrow
