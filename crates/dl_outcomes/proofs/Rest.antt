-- The cell that takes in all large sums: what the cells of the other sums leave of 1.
use Rattle.dl_outcomes.proofs.Common.{ℕ, ◌≡◌, ◌≢◌, ◌+◌, ◌-◌, ◌*◌, ◌^◌, ◌<◌, ◌≤◌, List, length, set, arith, refl, ap, subst, eq-eqb, ne_eqb, ◌∙◌, if◌then◌else◌, Iv, low_at, high_at, mass_low, spread, Clause, count_below, low_set, high_set, spread_set, width_at, where_whole, sum_elsewhere, IsTakenIn, IsLeft, high_is, width_within}
use Rattle.dl_outcomes.proofs.Walk.{whole_le, kept_or_elsewhere, elsewhere_wide}

-- the sums that are taken in are no wider than all
whole_spread : {B : ℕ} (clause : Clause) (sums : List (Iv B))
    → count_below (length sums) (where_whole clause (width_at sums)) ≤ spread sums
whole_spread clause sums =
    omega (arith, whole_le clause (width_at sums) (length sums), width_within (length sums) sums)

pub all_spread : {B : ℕ} (clause : Clause) (sums grid : List (Iv B))
    → spread grid ≤ count_below (length sums) (where_whole clause (width_at sums)) → spread grid ≤ 2 * spread sums
all_spread clause sums grid before = omega (arith, whole_spread clause sums)

module _ {B : ℕ} {clause : Clause} {sums grid : List (Iv B)} {t : ℕ} (at : t < length grid)
    (taken : IsTakenIn clause sums grid t) where
  wide : sum_elsewhere clause (length sums) (high_at sums) t
      ≡ sum_elsewhere clause (length sums) (low_at sums) t + sum_elsewhere clause (length sums) (width_at sums) t
  wide = elsewhere_wide clause (low_at sums) (high_at sums) (length sums) t (λ s. omega (arith, high_is sums s))

  -- the cells other than t hold no more than those of the other sums
  pub rest_mass : (lo : ℕ) → mass_low grid ≤ count_below (length sums) (where_whole clause (low_at sums))
      → sum_elsewhere clause (length sums) (low_at sums) t ≤ 2 ^ B
      → lo ≡ 2 ^ B - sum_elsewhere clause (length sums) (high_at sums) t → mass_low grid - low_at grid t + lo ≤ 2 ^ B
  rest_mass lo mass fits e = omega (arith, wide, kept_or_elsewhere clause (low_at sums) (length sums) t)

  module _ (v : Iv B) (low : v.lo ≡ 2 ^ B - sum_elsewhere clause (length sums) (high_at sums) t)
      (high : v.hi ≡ 2 ^ B - sum_elsewhere clause (length sums) (low_at sums) t) where
    pub rest_spread : spread grid ≤ count_below (length sums) (where_whole clause (width_at sums))
        → spread (set grid t v) ≤ 2 * spread sums
    rest_spread before =
        let whole = whole_spread clause sums in
        let parts = kept_or_elsewhere clause (width_at sums) (length sums) t in
        let rest : v.hi - v.lo ≤ spread sums = omega (arith, wide) in
        omega (arith, spread_set grid t v at)

    pub rest_left : sum_elsewhere clause (length sums) (low_at sums) t ≤ 2 ^ B → (y : ℕ) → t ≡ y
        → IsLeft clause sums (set grid t v) y
    rest_left within y same =
        subst (IsLeft clause sums (set grid t v)) same record {
          low = low_set grid t t v at ∙ ap (λ b. if b then v.lo else low_at grid t) (eq-eqb t t refl) ∙ low;
          high = high_set grid t t v at ∙ ap (λ b. if b then v.hi else high_at grid t) (eq-eqb t t refl) ∙ high;
          within = within;
        }

  pub others_taken : (v : Iv B) (y : ℕ) → t ≢ y → IsTakenIn clause sums grid y → IsTakenIn clause sums (set grid t v) y
  others_taken v y other there = record {
    low = low_set grid t y v at ∙ ap (λ b. if b then v.lo else low_at grid y) (ne_eqb t y other) ∙ there.low;
    high = high_set grid t y v at ∙ ap (λ b. if b then v.hi else high_at grid y) (ne_eqb t y other) ∙ there.high;
  }
