-- The definitions that other crates cite, passed on from one place. Declares nothing.
unfoldable pub use Rattle.dl_exact.specs.Count.{count_below, count_pairs}
pub use Rattle.dl_exact.specs.Fraction.{Fraction, whole}
unfoldable pub use Rattle.dl_exact.specs.Fraction.{lesser, nought, read_as, ◌*ℚ◌, ◌+ℚ◌, ◌-ℚ◌, ◌/ℚ◌, ◌<ℚ◌, ◌over◌, ◌≤ℚ◌}
unfoldable pub use Rattle.dl_exact.specs.Gcd.{euclid, gcd}
pub use Rattle.dl_exact.specs.Multiples.{IsLcm}
unfoldable pub use Rattle.dl_exact.specs.Multiples.{lcm}
unfoldable pub use Rattle.dl_exact.specs.Power.{choose, factorial, ◌^ℚ◌}
pub use Rattle.dl_exact.specs.Rounding.{IsCeiling, IsFloor}
unfoldable pub use Rattle.dl_exact.specs.Rounding.{up}
unfoldable pub use Rattle.dl_exact.specs.Sum.{sum_below, sum_over, sum_pairs, sum_to}
