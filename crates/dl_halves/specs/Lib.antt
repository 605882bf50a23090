pub mod Halves
pub mod Modulo
