-- Divided powers, which make up the sum over a claims list (Loss Models, "Compound frequency
-- distributions": a Poisson count splits by a multinomial).
use Rattle.std.specs.Prelude.{ℕ}
use Rattle.dl_exact.specs.Prelude.{Fraction, whole, ◌/ℚ◌, factorial}
use Rattle.dl_model.specs.Compound.{power}

-- the n-fold convolution of f over n!: n claims whose order does not count
abbrev pub divided_power : (ℕ → Fraction) → ℕ → ℕ → Fraction
divided_power f n s = power f n s /ℚ whole (factorial n)
