pub mod Units
pub mod Same
pub mod Pooled
pub mod Origins
