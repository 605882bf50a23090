pub mod Scales
pub mod RuleBounds
