mod Common
mod Sets
mod Starts
mod ReadsBack
mod Took
mod Stopped
mod Loops
mod Steps
mod Written
pub mod Whole
pub mod Covered
