mod Common
pub mod Gathering
pub mod Mapped
pub mod Mixed
pub mod Ranged
pub mod Sharing
pub mod Whole
pub mod Lattices
