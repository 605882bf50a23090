pub mod Pooled
pub mod Extra
