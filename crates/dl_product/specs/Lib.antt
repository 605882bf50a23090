pub mod Ends
pub mod Heads
pub mod Operand
pub mod Places
pub mod Windows
