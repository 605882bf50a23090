-- The cells past those that count: at most the greatest of the last ones.
use Rattle.dl_recursion.proofs.Common.{◌≡◌, inl, inr, ℕ, suc, zero, ◌+◌, ◌-◌, ◌*◌, ◌^◌, ◌<◌, ◌≤◌, List, [], ◌∷◌, ◌++◌, length, get_or, arith, mul-pos, mul-le-mul, mul-le-mul_right, le_of_mul-le-mul_right, zero-lt-suc, sum_by, sum_by-cons, All, cases_lt, Fraction, whole, Part, part_sum, contribution, FollowsInWhole, EncloseScaled, AreFalling, AreLast, get_or-append, get_or_push, get_or_past, length-append}
use Rattle.dl_recursion.proofs.Contributions.{contribution_yes, contribution_no, falling_factor}
use Rattle.dl_recursion.proofs.Pairs.{contribution_pairs}
use Rattle.dl_recursion.proofs.Steps.{low_step, high_step}
use Rattle.dl_recursion.proofs.Grow.{pushed}

-- what parts give to cell s, by the greatest of the cells that they reach
module _ (a b s top h : ℕ) (cells : List ℕ) (last : AreLast cells (s - top) h) where
  part_below : (p : Part) → p.amount ≤ top → contribution a b cells s p ≤ (a * s + (b - a) * top) * p.weight * h
  part_below p l = elim (cases_lt s p.amount) [
    | inl out ↦ omega (arith, contribution_no a b cells s p out)
    | inr within ↦
        let end : get_or cells (s - p.amount) 0 ≤ h = last.below (s - p.amount) (omega (arith, l)) in
        let factor : (a * (s - p.amount) + b * p.amount) * p.weight ≤ (a * s + (b - a) * top) * p.weight =
        mul-le-mul_right p.weight (falling_factor a b s p.amount top within l) in
        omega (arith, contribution_yes a b cells s p within, mul-le-mul factor end)
  ]

  parts_below : (parts : List Part) → All (λ p. p.amount ≤ top) parts
      → sum_by (contribution a b cells s) parts ≤ (a * s + (b - a) * top) * part_sum parts * h
  parts_below [] all = omega arith
  parts_below (p ∷ ps) all =
      rw (sum_by-cons (contribution a b cells s) p ps, sum_by-cons (λ (p : Part). p.weight) p ps)
      (omega (arith, part_below p (all zero p (zero-lt-suc _)), parts_below ps (λ k d q. all (suc k) d (omega (arith, q)))))

-- what holds of the factors at a cell holds at each later one
falling_on : (a b q top w n t : ℕ) → 0 < n → (a * n + b * top) * w ≤ q * n
    → (a * (n + t) + b * top) * w ≤ q * (n + t)
falling_on a b q top w n t some h =
    let each : a * w ≤ q = le_of_mul-le-mul_right {k = n} (omega (arith, h)) some in
    omega (arith, h, mul-le-mul_right t each)

-- one of those cells more
pub rest_pushed : (parts : List Part) (a b q top : ℕ) (r : ℕ → Fraction) (n₀ n h e : ℕ) (low high : List ℕ)
    → 0 < n₀ → n₀ ≤ n → AreFalling parts a b q top n₀ → AreLast high (n - top) h → All (λ p. 0 < p.amount) parts → 0 < q
    → FollowsInWhole parts a b q r → length low ≡ n → length high ≡ n → EncloseScaled r e n low high
    → EncloseScaled r e (suc n) (low ++ 0 ∷ []) (high ++ h ∷ [])
rest_pushed parts a b q top r n₀ zero h e low high some within falling last amounts q_pos F low_n high_n R = absurd (omega (arith, some, within))
rest_pushed parts a b q top r n₀ (suc m) h e low high some within falling last amounts q_pos F low_n high_n R =
    let t = suc m - n₀ in
    let n_is : n₀ + t ≡ suc m = omega (arith, within) in
    let falls : (a * suc m + (b - a) * top) * part_sum parts ≤ q * suc m =
    rw n_is at (falling_on a (b - a) q top (part_sum parts) n₀ t some falling.falling) in
    let D_pos : 0 < q * suc m = mul-pos q_pos (zero-lt-suc m) in
    pushed r e (suc m) low high 0 h low_n high_n R
    (low_step m (q * suc m) (2 ^ e) (whole (2 ^ 61)) _ r D_pos (F.next m) (λ k. get_or low k 0) 0 (omega arith)
    (λ k l. R.low_end k (omega (arith, l))))
    (high_step m (q * suc m) (2 ^ e) (whole (2 ^ 61)) _ r D_pos (F.next m) (λ k. get_or high k 0) h
    (rw (← contribution_pairs a b m high parts amounts)
    (omega (arith, parts_below a b (suc m) top h high last parts falling.reach, mul-le-mul_right h falls)))
    (λ k l. R.high_end k (omega (arith, l))))

-- the last ends with one more
pub last_pushed : (ends : List ℕ) (n top h : ℕ) → length ends ≡ n → AreLast ends (n - top) h
    → AreLast (ends ++ h ∷ []) (n + 1 - top) h
last_pushed ends n top h e last = record {
  below = λ k l. elim (cases_lt k n) [
    | inl before ↦ rw (get_or-append ends (h ∷ []) 0 k (omega (arith, e, before))) (last.below k (omega (arith, l)))
    | inr past ↦ grind (arith, get_or_push ends h 0 n e, get_or_past (ends ++ h ∷ []) k 0, length-append)
  ];
}
