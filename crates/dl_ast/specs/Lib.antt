pub mod Lexemes
pub mod Rules
pub mod Grammar
pub mod OldGrammar
pub mod WellFormed
pub mod Prelude
