-- How often a mean is halved.
use Rattle.std.specs.Prelude.{ℕ, zero, suc, ◌+◌, ◌*◌, ◌^◌, ◌≤◌, nat_le, if◌then◌else◌}
use Rattle.dl_exact.specs.Fraction.{Fraction, whole, ◌over◌, ◌/ℚ◌, ◌≤ℚ◌}

-- h is the least number of halvings that bring m to at most 1/2
pub record IsHalvings (m : Fraction) (h : ℕ) : Type 0 where
  pub enough : m /ℚ whole (2 ^ h) ≤ℚ 1 over 2
  pub least : (i : ℕ) → m /ℚ whole (2 ^ i) ≤ℚ 1 over 2 → h ≤ i

-- that number, where it is at least h and at most `more` above it
unfoldable pub halvings_from : (more h : ℕ) → Fraction → ℕ
halvings_from zero h m = h
halvings_from (suc more) h m = if nat_le (2 * m.num) (2 ^ h * m.den) then h
    else halvings_from more (h + 1) m

-- that number
unfoldable pub halvings : Fraction → ℕ
halvings m = halvings_from (m.num + 1) 0 m
