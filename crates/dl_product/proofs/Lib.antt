mod Common
pub mod Apart
pub mod Reading
pub mod Rests
pub mod Taken
pub mod Zeros
