-- The definitions that other crates cite, passed on from one place. Declares nothing.
pub use Rattle.dl_cert.specs.Covered.{IsCovered, IsNotCovered}
pub use Rattle.dl_cert.specs.Verified.{IsBadStep, IsCertificate, IsVerified}
