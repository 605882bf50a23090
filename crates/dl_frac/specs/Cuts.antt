-- Quotients from which a common divisor is taken out.
use Rattle.std.specs.Prelude.{ℕ, ◌≡◌, ◌*◌, ◌<◌}
use Prim.Native.Nat.{◌∣◌}

-- m over e is n over d, with a common divisor of both parts taken out
pub record IsCut (n d m e : ℕ) : Type 0 where
  pub num : m ∣ n
  pub den : e ∣ d
  pub same : m * d ≡ n * e
  pub above : 0 < e
