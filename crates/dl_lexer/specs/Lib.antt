pub mod Bytes
pub mod Classes
pub mod Cutting
pub mod Keywords
pub mod Lines
pub mod Tokens
pub mod Prelude
