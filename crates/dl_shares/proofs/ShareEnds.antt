-- The conditional mean of a unit at a total q, and what makes its share of the tail mean of it.
use Rattle.dl_shares.proofs.Common.{ℕ, suc, ◌≡◌, inl, inr, ◌+◌, ◌-◌, ◌*◌, ◌^◌, ◌<◌, ◌≤◌, min, List, length, take, arith, sym, ap, subst, ◌∙◌, add-one, min-eq_left, min-eq_right, min-le_left, mul-le-mul, mul-le-mul_left, mul-le-mul_right, div_ceil, div_ceil_least, cases_lt, pow_pos, Fraction, whole, ◌over◌, ◌-ℚ◌, ◌*ℚ◌, ◌/ℚ◌, ◌≤ℚ◌, ◌<ℚ◌, count_below, one_pos, times_comm, times_le_both, le_refl, over_same, Iv, low_at, high_at, mass_low, mass_high, IsGrid, HasRoom, cells_fit, low_sum, Series, AtMost, AtLeast, Holds, Loss, AreDeclarable, Quantity, One, Point, Cdf, Joint, Share, partial_sums, total, HoldsShare, GridEncloses, at_least_wider, at_most_wider, high_mass, rest, parts, rest_pos, inverse, over_le_over, div_is_times, rest_is, cdf_ends}
use Rattle.dl_shares.proofs.WeightedEnds.{room_of}
use Rattle.dl_exact.proofs.Laws.{le_trans}
use Rattle.dl_shares.proofs.JointBounds.{joint_le_point, joint_most}

-- ---- the lesser of two high ends

most_lesser : (Q R : Series) (S a b : ℕ) → AtMost Q R (a over S) → AtMost Q R (b over S) → AtMost Q R (min a b over S)
most_lesser Q R S a b p q = elim (cases_lt a b) [
  | inl l ↦ subst (λ t. AtMost Q R (t over S)) (sym (min-eq_left (omega arith))) p
  | inr l ↦ subst (λ t. AtMost Q R (t over S)) (sym (min-eq_right l)) q
]

least_lesser : (Q R : Series) (S a b : ℕ) → 0 < S → AtLeast Q R (a over S) → AtLeast Q R (min a b over S)
least_lesser Q R S a b s p = at_least_wider Q R (a over S) (min a b over S) p
    (over_le_over (min a b) a S s (min-le_left a b))

-- where it is at most q, so may the ends be
pub whole_lowered : (Q R : Series) (S lo hi q : ℕ) → 0 < S → Holds Q R (lo over S) (hi over S) → AtMost Q R (whole q)
    → Holds Q R (min lo (q * S) over S) (min hi (q * S) over S)
whole_lowered Q R S lo hi q s held most = (
  least_lesser Q R S lo (q * S) s held.0,
  most_lesser Q R S hi (q * S) held.1 (subst (AtMost Q R) (over_same q 1 (q * S) S one_pos s (omega arith)) most),
)

-- ---- no outcome of a unit is above the total

pub joint_lowered : (us : List Loss) (i q S j J A : ℕ) → 0 < S
    → Holds (partial_sums us (Joint i q)) (partial_sums us One) (j over S) (J over S)
    → AtMost (partial_sums us (Point q)) (partial_sums us One) (A over S)
    → Holds (partial_sums us (Joint i q)) (partial_sums us One) (min j (q * A) over S) (min J (q * A) over S)
joint_lowered us i q S j J A s held at = (
  least_lesser (partial_sums us (Joint i q)) (partial_sums us One) S j (q * A) s held.0,
  most_lesser (partial_sums us (Joint i q)) (partial_sums us One) S J (q * A) held.1 (joint_most (partial_sums us) (joint_le_point us) i q A S s at),
)

pub share_lowered : (us : List Loss) (i q S k K : ℕ) → 0 < S
    → Holds (partial_sums us (Joint i q)) (partial_sums us (Point q)) (k over S) (K over S)
    → Holds (partial_sums us (Joint i q)) (partial_sums us (Point q)) (min k (q * S) over S) (min K (q * S) over S)
share_lowered us i q S k K s held = (
  least_lesser (partial_sums us (Joint i q)) (partial_sums us (Point q)) S k (q * S) s held.0,
  most_lesser (partial_sums us (Joint i q)) (partial_sums us (Point q)) S K (q * S) held.1 (λ N u b.
      subst (λ t. partial_sums us (Joint i q) N ≤ℚ t *ℚ u) (over_same q 1 (q * S) S one_pos s (omega arith))
      (le_trans _ _ _ (joint_le_point us i q N) (times_le_both _ _ _ _ (le_refl (whole q)) (b N)))),
)

-- so it can be divided by a probability, or multiplied by one
pub lowered_fits : (S q h a : ℕ) → HasRoom (q + 1) S → a ≤ S → h ≤ q * a → h * S ≤ 2 ^ 126
lowered_fits S q h a room small le =
    omega (arith, mul-le-mul_right S le, mul-le-mul_left q (mul-le-mul_right S small))

-- the product with a part of 1
pub product_fits : (S q a k : ℕ) → HasRoom (q + 1) S → a ≤ S → k ≤ q * S → (a * k ≤ q * S * S) × (a * k ≤ 2 ^ 126)
product_fits S q a k room small few =
    let most : a * k ≤ S * (q * S) = mul-le-mul small few in
    (omega arith, omega arith)

-- what lies above a total and the share at it
pub sum_small : {B : ℕ} (cells : List (Iv B)) (q b a k : ℕ) → IsGrid cells → q < length cells → a ≤ 2 ^ B
    → k ≤ q * 2 ^ B → b ≤ 2 ^ 97 → b + div_ceil (a * k) (2 ^ B) ≤ 2 ^ 98
sum_small {B} cells q b a k grid inside small few le =
    omega (
      arith,
      div_ceil_least (a * k) (2 ^ B) (q * 2 ^ B) (pow_pos B)
          (product_fits (2 ^ B) q a k (room_of cells q grid inside) small few).0,
      cells_fit cells q grid (omega arith),
    )

pub scaled_fits : (h d k : ℕ) → 0 < k → h ≤ 2 ^ 98 → d ≤ 10000 → (h * d < 2 ^ 128) × (div_ceil (h * d) k ≤ 2 ^ 112)
scaled_fits h d k pos small few =
    let most : h * d ≤ 2 ^ 98 * 10000 = mul-le-mul small few in (
      omega arith,
      omega (arith, div_ceil_least (h * d) k (h * d) pos (omega (arith, mul-le-mul_left (h * d) pos))),
    )

-- ---- the distribution at q

pub cdf_holds : {B : ℕ} (cells : List (Iv B)) (us : List Loss) (q lo hi : ℕ) → IsGrid cells → q < length cells
    → AreDeclarable us → GridEncloses cells (total us)
    → lo ≡ min (mass_low (take (q + 1) cells)) (2 ^ B) → hi ≡ min (mass_high (take (q + 1) cells)) (2 ^ B)
    → Holds (partial_sums us (Cdf q)) (partial_sums us One) (lo over 2 ^ B) (hi over 2 ^ B)
cdf_holds {B} cells us q lo hi grid inside w e low high =
    let s = pow_pos B in
    let exact = cdf_ends us (2 ^ B) (length cells) (low_at cells) (high_at cells) w s e q inside in
    let sum = low_sum (q + 1) cells in
    let same : count_below (suc q) (low_at cells) ≡ count_below (q + 1) (low_at cells) =
    ap (λ n. count_below n (low_at cells)) (sym (add-one q)) in
    let top : min (2 ^ B) (count_below (suc q) (high_at cells)) ≡ hi =
    omega (arith, high_mass (q + 1) cells, ap (λ n. count_below n (high_at cells)) (add-one q)) in (
      at_least_wider (partial_sums us (Cdf q)) (partial_sums us One) _ _ exact.0
          (over_le_over _ _ (2 ^ B) s (omega arith)),
      subst (λ t. AtMost (partial_sums us (Cdf q)) (partial_sums us One) (t over 2 ^ B)) top exact.1,
    )

-- ---- over what p leaves of 1

pub over_what_is_left : (p x : Fraction) (n d : ℕ) → p <ℚ whole 1 → n ≡ p.den → d ≡ p.den - p.num
    → x *ℚ n over d ≡ x /ℚ (whole 1 -ℚ p)
over_what_is_left p x n d below e f =
    let left : whole 1 -ℚ p ≡ rest p below = rest_is p (rest p below) (parts p below) in
    times_comm x (n over d)
    ∙ ap (λ t. t *ℚ x) (ap (λ m. m over d) e ∙ ap (λ m. p.den over m) f ∙ sym (inverse p below))
    ∙ sym (div_is_times x (rest p below) (rest_pos p below))
    ∙ ap (λ t. x /ℚ t) (sym left)

-- ---- wider ends

pub share_wider : (φ : Quantity → Series) (i q : ℕ) (p l l' h h' : Fraction) → HoldsShare φ i p q l h → l' ≤ℚ l
    → h ≤ℚ h' → HoldsShare φ i p q l' h'
share_wider φ i q p l l' h h' held low high = record {
  at_most = λ u le part. at_most_wider (φ (Share i p q u)) (φ One) h h' (held.at_most u le part) high;
  at_least = λ u le part. at_least_wider (φ (Share i p q u)) (φ One) l l' (held.at_least u le part) low;
}
