-- The quotient of two enclosed values: what its ends hold, and how far apart they lie. S units make 1.
use Rattle.dl_shares.proofs.Common.{ℕ, ◌≡◌, ◌+◌, ◌-◌, ◌*◌, ◌/◌, ◌<◌, ◌≤◌, arith, ap, div_ceil, mul-le-mul_right, le_of_mul-le-mul_right, lt-div-mul-add, div_ceil_times, ◌over◌, over_le, le_refl, over_pos, Series, AtLeast, Holds, at_least_wider, at_most_wider, quotient, div_low, div_high}

pub quotient_holds : (S j J a A parts : ℕ) → 0 < S → 0 < a → 0 < A → 0 < parts → S ≤ a * parts → (Q R O : Series)
    → Holds Q O (j over S) (J over S) → Holds R O (a over S) (A over S)
    → AtLeast R O (1 over parts) × Holds Q R ((j * S / A) over S) (div_ceil (J * S) a over S)
quotient_holds S j J a A parts s low high some enough Q R O p q =
    let exact = quotient Q R O (j over S) (J over S) (a over S) (A over S) (over_pos a S low s)
    (over_pos A S high s) p q in (
      at_least_wider R O (a over S) (1 over parts) q.0 (over_le 1 parts a S some s (omega arith)),
      (
        at_least_wider Q R _ _ exact.0 (div_low S s j A (j over S) (A over S) high (over_pos A S high s) (le_refl _)
            (le_refl _)),
        at_most_wider Q R _ _ exact.1 (div_high S s J a (J over S) (a over S) low (le_refl _) (le_refl _)),
      ),
    )

-- what the low end leaves of the whole quotient, where the divisor is w wider than a and the quotient is at most k
low_leaves : (S j a w A k l : ℕ) → A ≡ a + w → 0 < A → j * S ≤ (l + 1) * A → j ≤ k * A → j * S ≤ (l + 1) * a + k * w * S
low_leaves S j a w A k l e pos p q =
    le_of_mul-le-mul_right {k = A} (omega (
      arith,
      mul-le-mul_right a p,
      mul-le-mul_right (S * w) q,
      ap (λ t. j * S * t) e,
    )) pos

joined : (S j W a w k l h parts : ℕ) → 0 < a → j * S ≤ (l + 1) * a + k * w * S → h * a < (j + W) * S + a → S ≤ a * parts
    → h ≤ l + (parts * (k * w + W) + 2)
joined S j W a w k l h parts pos p q r =
    le_of_mul-le-mul_right {k = a} (omega (arith, mul-le-mul_right (k * w + W) r)) pos

pub quotient_width : (S j J a A parts k : ℕ) → j ≤ J → a ≤ A → 0 < a → S ≤ a * parts → j ≤ k * A
    → div_ceil (J * S) a - j * S / A ≤ parts * (k * (A - a) + (J - j)) + 2
quotient_width S j J a A parts k p q pos enough inside =
    let floor : j * S < j * S / A * A + A = lt-div-mul-add (omega arith) in
    let ceiling : div_ceil (J * S) a * a < J * S + a = (div_ceil_times (J * S) a pos).1 in
    let whole : J * S ≡ (j + (J - j)) * S = ap (λ t. t * S) (omega arith) in
    let low = low_leaves S j a (A - a) A k (j * S / A) (omega arith) (omega arith) (omega arith) inside in
    omega (arith, joined S j (J - j) a (A - a) k (j * S / A) (div_ceil (J * S) a) parts pos low (omega arith) enough)
