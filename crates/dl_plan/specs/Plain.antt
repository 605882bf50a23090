-- The bytes that the words of an ask are written with.
use Rattle.std.specs.Prelude.{ℕ, ◌≢◌, ◌<◌}

-- a byte above the blank that is no quote mark, no comma and no backslash: each form of a report
-- writes it as it is
pub record IsPlainByte (byte : ℕ) : Type 0 where
  pub above : 32 < byte
  pub quote_mark : byte ≢ 34
  pub comma : byte ≢ 44
  pub backslash : byte ≢ 92
