-- The definitions that other crates cite, passed on from one place. Declares nothing.
pub use Rattle.dl_shares.specs.Settled.{IsPast, MayBeAbsent}
pub use Rattle.dl_shares.specs.Source.{GivesJoints, IsSharedBy, exact_high, exact_low, joint_width, reach}
pub use Rattle.dl_shares.specs.Widths.{share_width, whole_share_width}
