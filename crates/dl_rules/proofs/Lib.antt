mod Common
mod Naming
mod SeverityNames
mod Stops
pub mod ClauseFacts
pub mod ListedCounts
pub mod Ratios
pub mod Sizes
pub mod Shapes
pub mod Exposed
pub mod ExposedCounts
pub mod FineClaims
pub mod KeptCounts
pub mod PlannedCounts
pub mod RunningSums
pub mod FactorShares
pub mod FactorBounds
pub mod Aggregates
pub mod UnitFacts
pub mod ProgramSizes
pub mod ProgramUnits
pub mod FactorParts
pub mod FactorKept
pub mod Accepted
pub mod OnePlan
mod RuleLists
mod Texts
pub mod WiderBounds
pub mod BothRules
