pub mod Cells
pub mod Convolution
pub mod Room
pub mod Width
pub mod Prelude
