mod Common
pub mod Units
pub mod Alone
mod Named
mod Mixtures
pub mod GammaUnits
