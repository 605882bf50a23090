pub mod Steps
pub mod Refusals
pub mod Weighing
pub mod Weighed
pub mod Buckets
pub mod Ranges
pub mod Fits
pub mod Prelude
