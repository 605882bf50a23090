pub mod Formed
pub mod Samples
mod Earlier
