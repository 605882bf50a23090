mod Common
mod BesideJoint
mod Quotients
mod Nested
mod WeightedSums
mod WeightedEnds
mod JointBounds
mod Tilted
mod ClaimWidths
mod JointValues
mod PlainUnits
mod OneClaim
pub mod PoissonJoint
pub mod CommonJoint
pub mod GammaJoint
mod ClaimCounts
mod PairSums
mod JointSums
mod UnitMeans
mod ShareEnds
mod Widths
mod TailParts
mod TailBrackets
mod TailWidths
mod Absent
mod ClaimEnds
mod ClaimSums
mod JointMost
mod TailJoints
mod TailEnds
pub mod Origins
