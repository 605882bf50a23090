-- A step that is taken so many times: its value and its size after one time more.
use Rattle.dl_budget.proofs.Common.{IsPlanScale, ℕ, ◌≡◌, ◌+◌, ◌*◌, ◌^◌, ◌≤◌, arith, sym, ap, ◌∙◌, mul-le-mul_right, pow-le-pow_right, most_operands, convolution_spread, power_spread, mixed_spread, rounded_spread, IsSizeWithin, pow_more, mixed_next, pw_doubled}
use Rattle.dl_budget.proofs.SizeLaws.{within_step, size_least, square_size, room_below}

pub listed_value : (S k b n x z : ℕ) → x ≡ mixed_spread S k b n → z ≡ convolution_spread S k b x + 2 → z ≡ mixed_spread S k b (n + 1)
listed_value S k b n x z before step = step ∙ ap (λ t. convolution_spread S k b t + 2) before ∙ sym (mixed_next S k b n)

pub doubled_value : (S k b n x z : ℕ) → x ≡ power_spread S k b (2 ^ n) → z ≡ convolution_spread S k x x → z ≡ power_spread S k b (2 ^ (n + 1))
doubled_value S k b n x z before step = step ∙ ap (λ t. convolution_spread S k t t) before ∙ sym (pw_doubled S k b n)

-- one number of claims more
pub listed_size : (B k b n x z : ℕ) → IsPlanScale B
    → rounded_spread k 2 1 + (n + 1) * rounded_spread k 2 b ≤ most_operands
    → IsSizeWithin (2 ^ B) (rounded_spread k 2 1 + n * rounded_spread k 2 b) (rounded_spread k 2 x)
    → z ≡ convolution_spread (2 ^ B) k b x + 2 → IsSizeWithin (2 ^ B) (rounded_spread k 2 1 + (n + 1) * rounded_spread k 2 b)
    (rounded_spread k 2 z)
listed_size B k b n x z e room size step =
    within_step B k 2 (rounded_spread k 2 b) _ _ b x z e (omega arith) (omega (arith, room))
    (size_least (2 ^ B) _ _ (omega arith)) size step

-- one doubling more
pub doubled_size : (B k b n x z : ℕ) → IsPlanScale B → 2 ^ (n + 1) * rounded_spread k 0 b ≤ most_operands
    → IsSizeWithin (2 ^ B) (2 ^ n * rounded_spread k 0 b) (rounded_spread k 0 x) → z ≡ convolution_spread (2 ^ B) k x x
    → IsSizeWithin (2 ^ B) (2 ^ (n + 1) * rounded_spread k 0 b) (rounded_spread k 0 z)
doubled_size B k b n x z e room size step =
    square_size B k b (2 ^ n) (2 ^ (n + 1)) x z e (omega (arith, pow_more 2 n)) room size step

-- fewer steps have room too
pub listed_room : (k b m n : ℕ) → m ≤ n → rounded_spread k 2 1 + n * rounded_spread k 2 b ≤ most_operands
    → rounded_spread k 2 1 + m * rounded_spread k 2 b ≤ most_operands
listed_room k b m n h room = omega (arith, room, mul-le-mul_right (rounded_spread k 2 b) h)

pub doubled_room : (k b m n : ℕ) → m ≤ n → 2 ^ n * rounded_spread k 0 b ≤ most_operands
    → 2 ^ m * rounded_spread k 0 b ≤ most_operands
doubled_room k b m n h room = room_below (rounded_spread k 0 b) (2 ^ m) (2 ^ n)
    (pow-le-pow_right {n = 2} (omega arith) {i = m} {j = n} h) room
