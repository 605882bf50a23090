mod Common
pub mod Growing
pub mod Shown
pub mod Nodes
pub mod Ends
pub mod Cut
pub mod SameText
