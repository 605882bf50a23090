pub mod Pieces
pub mod Canonical
pub mod Printing
pub mod Apart
pub mod ReadingBack
