-- The words of this crate's contracts.
pub mod Faults
pub mod Bytes
pub mod Memory
pub mod System
pub mod Steps
pub mod Prelude
