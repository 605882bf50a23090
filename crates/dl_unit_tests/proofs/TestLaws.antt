-- What the tests ask of their numbers.
use Rattle.std.proofs.Common.{ℕ, ◌≡◌, ◌*◌, ◌^◌, ◌<◌, ◌≤◌, arith, sym, subst, mul-le-mul_left, mul-le-mul_right}
use Rattle.std.proofs.Math.Nat.{zero-lt-suc}
use Rattle.dl_exact.specs.Prelude.{Fraction, ◌over◌, ◌/ℚ◌, ◌≤ℚ◌, whole}
use Rattle.dl_exact.proofs.Over.{over_div, over_le}
use Rattle.dl_exact.proofs.Laws.{one_pos}

pub at_most_4096 : (m : Fraction) (n d : ℕ) → m ≡ n over d → 0 < d → n ≤ 4096 → m ≤ℚ whole 4096
at_most_4096 m n d e pos small = subst (λ t. t ≤ℚ whole 4096) (sym e)
    (over_le n d 4096 1 pos (zero-lt-suc 0) (omega (arith, small, mul-le-mul_left 4096 pos)))

pub print_fits : (h b : ℕ) → h ≤ 2 ^ b → h * 10 ^ 9 ≤ 2 ^ 127 * 2 ^ b
print_fits h b le = omega (arith, mul-le-mul_right (10 ^ 9) le)

pub half_of : (m : Fraction) → m ≡ 1 over 2 → m /ℚ whole (2 ^ 0) ≤ℚ 1 over 2
half_of m e = subst (λ t. t /ℚ whole 1 ≤ℚ 1 over 2) (sym e)
    (subst (λ t. t ≤ℚ 1 over 2) (sym (over_div 1 2 1 1 (zero-lt-suc 1) one_pos one_pos))
    (over_le _ _ 1 2 (zero-lt-suc 1) (zero-lt-suc 1) (omega arith)))
