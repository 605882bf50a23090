mod Common
pub mod FirstPlaces
pub mod Fits
pub mod Halving
pub mod Karatsuba
pub mod Same
pub mod Written
