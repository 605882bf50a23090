-- The spreads of counts are within the budget of a unit.
use Rattle.dl_unit.proofs.Common.{ℕ, ◌≡◌, ◌+◌, ◌*◌, ◌^◌, ◌<◌, ◌≤◌, arith, ap, ◌∙◌, Fraction, pw_rises, poisson_budget, halvings, power_spread}

pub poisson_within : (S K b x n h : ℕ) (m : Fraction) → 0 < S → n ≡ 2 ^ h → h ≡ halvings m → b ≤ 8 * K + 128
    → x ≤ power_spread S K b n → x ≤ poisson_budget S K m
unfolding poisson_budget
poisson_within S K b x n h m pos is_n is_h narrow within =
    let base : ℕ = 8 * K + 128 in
    let same : power_spread S K base n ≡ power_spread S K base (2 ^ halvings m) = ap (power_spread S K base) (is_n ∙ ap (λ t. 2 ^ t) is_h) in
    omega (arith, within, pw_rises S K K b base n pos (omega arith) narrow, same)
