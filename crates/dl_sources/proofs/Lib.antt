mod Common
pub mod Scales
mod Losses
mod SumLaws
mod ReadAs
mod UnitLaws
mod ZeroLaws
mod AlikeLaws
mod Means
mod Taken
mod Parted
mod ByHalves
mod Alone
mod Found
mod FactorLaws
mod PooledUnits
mod ClaimsGrids
