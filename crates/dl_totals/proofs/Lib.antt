mod Common
pub mod Added
mod OneGrid
pub mod Chosen
pub mod Apart
pub mod Singles
mod Alone
pub mod TreeLaws
