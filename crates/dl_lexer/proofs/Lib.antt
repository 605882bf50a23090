mod Common
pub mod BlankLemmas
pub mod CoverLaws
pub mod CutSteps
pub mod Longest
pub mod NumeralLengths
pub mod Prefix
pub mod Spellings
pub mod TokenKinds
pub mod WordLengths
