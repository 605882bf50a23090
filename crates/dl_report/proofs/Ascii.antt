-- Digits are written in ASCII.
use Rattle.dl_report.proofs.Common.{ℕ, ◌+◌, ◌<◌, ◌^◌, ◌/◌, ◌%◌, zero, suc, [], ◌∷◌, ◌++◌, arith, codes, IsAscii-append, decimal, IsAscii, with_digits, last_digits, IsAscii-nil}

pub one_ascii : (byte : ℕ) → byte < 128 → IsAscii (byte ∷ [])
one_ascii byte h zero = h
one_ascii byte h (suc i) = omega arith

digits_ascii : (d n : ℕ) → IsAscii (last_digits d n)
unfolding last_digits
digits_ascii zero n = IsAscii-nil
digits_ascii (suc d) n = IsAscii-append ((48 + n / 10 ^ d % 10) ∷ []) (last_digits d n) (one_ascii _ (omega arith))
    (digits_ascii d n)

-- a number is, where its whole part is
pub with_digits_ascii : (d n : ℕ) → IsAscii (decimal (n / 10 ^ d)) → IsAscii (with_digits d n)
with_digits_ascii d n whole = IsAscii-append (decimal (n / 10 ^ d) ++ codes ".") (last_digits d n)
    (IsAscii-append (decimal (n / 10 ^ d)) (codes ".") whole (one_ascii 46 (omega arith))) (digits_ascii d n)
