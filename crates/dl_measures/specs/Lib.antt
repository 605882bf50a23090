pub mod Brackets
pub mod Layers
pub mod Ends
pub mod Running
pub mod Prices
pub mod Prelude
