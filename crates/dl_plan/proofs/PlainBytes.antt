-- Which bytes are plain.
use Rattle.dl_plan.proofs.Common.{ℕ, ◌<◌, ◌≤◌, arith, IsPlainByte}

-- a byte from `-` to below the backslash
pub low_plain : (byte : ℕ) → 45 ≤ byte → byte < 92 → IsPlainByte byte
low_plain byte h k = grind arith

-- a byte from `a` on
pub high_plain : (byte : ℕ) → 97 ≤ byte → IsPlainByte byte
high_plain byte h = grind arith
