-- How large the budget of the probability of no claim can be: that of claims of amount 1 alone, on one cell.
use Rattle.dl_budget.proofs.Common.{IsPlanScale, ℕ, zero, suc, ◌≡◌, ◌+◌, ◌*◌, ◌^◌, ◌≤◌, arith, inl, inr, refl, sym, ap, subst, ◌∙◌, mul-le-mul, pow_pos, pow-le-pow_right, most_operands, Fraction, whole, ◌≤ℚ◌, over_div, div_le_both, div_times, le_plus, le_refl, one_times, times_le_both, below_one, one_pos, convolution_spread, power_spread, rounded_spread, IsSizeWithin, pw_one, count_budget, gamma_budget, poisson_budget, eq-zero-or-pos, ◌/◌, ◌%◌, ◌==◌, if◌then◌else◌, eqb_tells, most_none_budget, Freq, Fixed, Table, Bernoulli, Binomial, Poisson, Gamma, IsClaimCount, IsGammaCount, IsGammaOn, IsNewZero, geometric_spread, shape_spread, whole_part, pw_none, pw_even, pw_odd, halvings, none_budget, subst₂, cases_lt, over_pos, ◌+ℚ◌, ◌*ℚ◌, ◌/ℚ◌, ◌<ℚ◌, ◌over◌}
use Rattle.dl_exact.proofs.Laws.{le_of_eq, le_trans, lt_of_lt_of_le, plus_comm, times_le_cancel, times_one}
use Rattle.dl_budget.proofs.Bases.{base_within, both_size, budget_below, budget_both, budget_whole, one_within, powers_within, whole_few, whole_some}
use Rattle.dl_budget.proofs.HalvingLaws.{first_below_14}
use Rattle.dl_budget.proofs.SizeLaws.{room_below, size_least, square_size, odd_size, spread_near, far_below}

-- ---- powers

-- the power of a grid of which n together have room
pw_size : (B k b fuel m : ℕ) → IsPlanScale B → m ≤ fuel → 1 ≤ m → m * rounded_spread k 0 b ≤ most_operands
    → IsSizeWithin (2 ^ B) (m * rounded_spread k 0 b) (rounded_spread k 0 (power_spread (2 ^ B) k b m))
pw_size B k b zero m e few some room = absurd (omega (arith, few, some))
pw_size B k b (suc fuel) m e few some room = elim (eqb_tells m 1) [
  | inl one ↦ size_least (2 ^ B) _ _
      (omega (
        arith,
        ap (λ t. t * rounded_spread k 0 b) one.1,
        ap (λ t. rounded_spread k 0 (power_spread (2 ^ B) k b t)) one.1,
        ap (rounded_spread k 0) (pw_one (2 ^ B) k b),
      ))
  | inr more ↦ elim (eqb_tells (m % 2) 0) [
    | inl even ↦
        let j = m / 2 in
        let half : j + j ≡ m = omega (arith, even.1) in
        let double : m ≡ 2 * j = omega (arith, even.1) in
        let least : 1 ≤ j = omega (arith, half, some) in
        square_size B k b j m _ _ e half room
        (pw_size B k b fuel j e (omega (arith, half, few, least)) least (room_of j m (omega (arith, half)) room))
        (ap (power_spread (2 ^ B) k b) double ∙ pw_even (2 ^ B) k b j least)
    | inr odd ↦
        let j = m / 2 in
        let half : j + j + 1 ≡ m = omega (arith, odd.1) in
        let double : m ≡ 2 * j + 1 = omega (arith, odd.1) in
        let least : 1 ≤ j = omega (arith, half, some, more.1) in
        (odd_size B k b j m _ _ _ e half room
        (pw_size B k b fuel j e (omega (arith, half, few)) least (room_of j m (omega (arith, half)) room)) refl
        (ap (power_spread (2 ^ B) k b) double ∙ pw_odd (2 ^ B) k b j least
        ∙ ap (λ t. convolution_spread (2 ^ B) k t b) (pw_even (2 ^ B) k b j least))).1
  ]
]
  where
    room_of : (j m : ℕ) → j ≤ m → m * rounded_spread k 0 b ≤ most_operands → j * rounded_spread k 0 b ≤ most_operands
    room_of j m less room = room_below (rounded_spread k 0 b) j m less room

pub pw_near : (B k b m c : ℕ) → IsPlanScale B → 1 ≤ m → m * rounded_spread k 0 b ≤ c → c ≤ most_operands
    → 63 * power_spread (2 ^ B) k b m ≤ 64 * c
pw_near B k b m c e some within room =
    let few : m * rounded_spread k 0 b ≤ most_operands = omega (arith, within, room) in
    omega (
      arith,
      spread_near 63 (2 ^ B) k 0 _ (power_spread (2 ^ B) k b m) (pow_pos B) (far_below B _ e (omega (arith, few)))
          (pw_size B k b m m e (omega arith) some few),
    )

-- ---- each kind of count

trials_small : (B b m : ℕ) → IsPlanScale B → b ≤ 6 → m ≤ 65536 → power_spread (2 ^ B) 1 b m ≤ most_none_budget
unfolding rounded_spread
trials_small B b zero e narrow few = omega (arith, pw_none (2 ^ B) 1 b)
trials_small B b (suc m) e narrow few =
    let one : b + 2 * 1 + 1 + 0 ≤ 9 = omega (arith, narrow) in
    omega (arith, pw_near B 1 b (suc m) 589824 e (omega arith) (omega (arith, mul-le-mul few one)) (omega arith))

poisson_small : (B : ℕ) (mean : Fraction) → IsPlanScale B → mean ≤ℚ whole 4096
    → poisson_budget (2 ^ B) 1 mean ≤ most_none_budget
unfolding poisson_budget rounded_spread
poisson_small B mean e within =
    let h = halvings mean in
    let power : 2 ^ h ≤ 2 ^ 13 =
    pow-le-pow_right {n = 2} (omega arith) {i = h} {j = 13} (first_below_14 mean within) in
    let bound = pw_near B 1 136 (2 ^ h) (139 * 2 ^ 13) e (pow_pos h) (omega (arith, power)) (omega arith) in
    omega arith

-- of a gamma count of a shape below 1 that can be changed, the mean over the shape is at most 65,536
pub none_beta : (r v : Fraction) → whole 0 <ℚ r → v ≤ℚ whole 4096 → 1 over 16 ≤ℚ r *ℚ (v /ℚ (r +ℚ v))
    → v /ℚ r ≤ℚ whole 65536
none_beta r v above within some =
    let sum : whole 0 <ℚ r +ℚ v = lt_of_lt_of_le _ _ _ above (le_plus r v) in
    let less : v ≤ℚ r +ℚ v = subst (λ t. v ≤ℚ t) (plus_comm v r) (le_plus v r) in
    let part : v /ℚ (r +ℚ v) ≤ℚ whole 1 = times_le_cancel _ _ (r +ℚ v) sum
    (subst₂ (λ s t. s ≤ℚ t) (sym (div_times v (r +ℚ v) sum)) (sym (one_times (r +ℚ v))) less) in
    let least : 1 over 16 ≤ℚ r =
    le_trans _ _ _ some
    (subst (λ t. r *ℚ (v /ℚ (r +ℚ v)) ≤ℚ t) (times_one r) (times_le_both r r _ _ (le_refl r) part)) in
    le_trans _ _ _ (div_le_both v (whole 4096) r (1 over 16) (over_pos 1 16 (omega arith) (omega arith)) within least)
    (le_of_eq _ _ (over_div 4096 1 1 16 one_pos (omega arith) one_pos))

none_base : (shape mean p : Fraction) → IsGammaCount shape mean → IsNewZero (Gamma shape mean) p → shape <ℚ whole 1
    → shape_spread 1 (mean /ℚ shape) ≤ 8 * 65537 + 1
none_base shape mean p count z below =
    omega (
      arith,
      base_within 8 65536 1 (mean /ℚ shape)
          (subst (λ x. x ≤ℚ whole 65536) (sym (one_times (mean /ℚ shape)))
          (none_beta shape mean count.shape.above z.most (z.some below))),
    )

-- it can be counted with on one cell
pub none_on : (shape mean p : Fraction) → IsGammaCount shape mean → IsNewZero (Gamma shape mean) p
    → IsGammaOn 1 shape mean
none_on shape mean p count z = record {
  few = omega arith;
  of_shape = count.shape;
  within = z.most;
  beta = count.beta;
  below_one = λ below. omega (arith, none_base shape mean p count z below);
}

-- a shape of at least 1
module _ (B : ℕ) (r m : Fraction) (e : IsPlanScale B) (on : IsGammaOn 1 r m) (some : 1 ≤ whole_part r) where
  room : whole_part r * rounded_spread 1 0 (geometric_spread 1 (m /ℚ r)) ≤ 110480
  unfolding rounded_spread
  room = omega (arith, base_within 5 4096 (whole_part r) (m /ℚ r) (powers_within 1 r m on), whole_few r on.of_shape)

  rest : rounded_spread 1 0 (shape_spread 1 (m /ℚ r)) ≤ 32780
  unfolding rounded_spread
  rest = omega (arith, base_within 8 4096 1 (m /ℚ r) (one_within 1 r m on some))

  whole_small : gamma_budget (2 ^ B) 1 r m ≤ most_none_budget
  whole_small = elim (eq-zero-or-pos (r.num % r.den)) [
    | inl none ↦ rw (budget_whole (2 ^ B) 1 r m none)
        (omega (arith, pw_near B 1 (geometric_spread 1 (m /ℚ r)) (whole_part r) 110480 e some room (omega arith)))
    | inr part ↦ rw (budget_both (2 ^ B) 1 r m part some)
        (omega (
          arith,
          spread_near 63 (2 ^ B) 1 0 _ _ (pow_pos B) (far_below B _ e (omega (arith, room, rest)))
              (both_size B 1 r m _ _ _ e on some (pw_size B 1 (geometric_spread 1 (m /ℚ r)) (whole_part r) (whole_part r) e
              (omega arith) some (omega (arith, room))) refl refl),
          room,
          rest,
        ))
  ]

gamma_small : (B : ℕ) (shape mean p : Fraction) → IsPlanScale B → IsGammaCount shape mean
    → IsNewZero (Gamma shape mean) p → gamma_budget (2 ^ B) 1 shape mean ≤ most_none_budget
gamma_small B r m p e count z = elim (cases_lt r.num r.den) [
  | inl below ↦ rw (budget_below (2 ^ B) 1 r m count.shape.above below)
      (omega (arith, none_base r m p count z (below_one r below)))
  | inr least ↦ whole_small B r m e (none_on r m p count z) (whole_some r least)
]

-- 0 where n is 0
none_or : (n x most : ℕ) → x ≤ most → (if n == 0 then 0 else x) ≤ most
none_or n x most within = elim (eqb_tells n 0) [
  | inl is ↦ rw is.0 (omega arith)
  | inr differs ↦ rw differs.0 within
]

-- at most 142 * 2^13, less than 1/306 of the scale
pub none_small : (B : ℕ) (freq : Freq) (p : Fraction) → IsPlanScale B → IsClaimCount freq → IsNewZero freq p
    → none_budget (2 ^ B) freq ≤ most_none_budget
unfolding count_budget
none_small B (Fixed m) p e count z = trials_small B 1 m e (omega arith) count
none_small B (Table counts total) p e count z = absurd z.exposed
none_small B (Bernoulli q) p e count z = omega arith
none_small B (Binomial trials q) p e count z = trials_small B 6 trials e (omega arith) count.0
none_small B (Poisson mean) p e count z = none_or mean.num _ most_none_budget (poisson_small B mean e z.most)
none_small B (Gamma shape mean) p e count z =
    none_or mean.num _ most_none_budget (gamma_small B shape mean p e count z)

pub none_within : (B : ℕ) (freq : Freq) (x : ℕ) → IsPlanScale B → IsClaimCount freq → (p : Fraction) × IsNewZero freq p
    → x ≡ none_budget (2 ^ B) freq → x ≤ most_none_budget
none_within B freq x e count changed is = omega (arith, is, none_small B freq changed.0 e count changed.1)
