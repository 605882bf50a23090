-- The definitions that other crates cite, passed on from one place. Declares nothing.
pub use Rattle.dl_grid.specs.Cells.{AreEnds, IsGrid, mass_low, spread}
unfoldable pub use Rattle.dl_grid.specs.Cells.{all_at_zero, high_at, low_at}
pub use Rattle.dl_grid.specs.Convolution.{IsConvolution}
pub use Rattle.dl_grid.specs.Room.{HasRoom, IsGridSize}
pub use Rattle.dl_grid.specs.Width.{IsSizeWithin, layer_width, sum_spread, tail_width}
unfoldable pub use Rattle.dl_grid.specs.Width.{convolution_spread, mixed_spread, power_spread, rounded_spread, up}
