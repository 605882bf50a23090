use Rattle.dl_start.proofs.Common.{◌≡◌, ℕ, zero, suc, ◌^◌, refl, ap₂, ◌∙◌, Fraction, whole, ◌over◌, ◌+ℚ◌, sum_to, gamma, over_same, one_pos, one_times, plus_zero, at_zero, gamma_none}
use Rattle.dl_start.proofs.Products.{two_pos}
use Rattle.dl_start.proofs.shape.no_start.Goals as goal

-- a gamma count of shape 0 has no claim
all : (c : Fraction) (N : ℕ) → sum_to N (gamma (whole 0) c) ≡ whole 1
unfolding sum_to at_zero
all c zero = gamma_none c zero
all c (suc N) = ap₂ (λ a b. a +ℚ b) (all c N) (gamma_none c (suc N)) ∙ plus_zero (whole 1)

pub returns-clause-holds : goal.returns-clause-holds
returns-clause-holds c x =
    let one : 9223372036854775808 over 2 ^ 63 ≡ whole 1 = over_same (2 ^ 63) (2 ^ 63) 1 1 (two_pos 63) one_pos refl in (
      (λ N u b. rw (one, all x N, one_times (whole 1)) (b zero)),
      (λ N u b. rw (one, one_times u, ← all x zero) (b zero)),
    )
