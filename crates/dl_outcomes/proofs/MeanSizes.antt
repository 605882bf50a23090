-- How large the mean of a unit's claims is, and what layers take of it.
use Rattle.dl_outcomes.proofs.Common.{times_le_both, ◌⊎◌, ℕ, suc, ◌≡◌, ◌+◌, ◌-◌, ◌*◌, ◌/◌, ◌^◌, ◌<◌, ◌≤◌, List, [], ◌∷◌, length, get_or, take, Option, Some, None, arith, inl, inr, refl, sym, ap, subst, subst₂, ◌∙◌, All, IfSome, div_ceil, sum_by, mul-le-mul_left, eqb_tells, Fraction, whole, ◌over◌, ◌*ℚ◌, ◌≤ℚ◌, over_le, le_over, one_pos, times_comm, zero_le, one_fits, CedeLayer, Sev, probability_of, Clause, IsWithinMostAmount, IsValidUnit, declared_mean, part_width, cond, AllPairs, mul-le-mul, mul-le-mul_right, length-map, get_or-map, ◌-ℚ◌, over_mul, le_refl, le_trans, times_assoc, one_times, times_le_times, whole_times, sub_le_both, div_ceil_least, whole_le, weight_sum, weight_at, weighted_sum, IsWeighted, pairs_of, mean_amount, IsFineTo30Bits, Overlap, layer_shares, IsClause, first_apart, rest_apart, num_le_den, layer_width, IsNear, most_claims_mean, most_limited, le_trans_n, UnitOfPlan, layer_most, part_within, sum_by-cons, sum_by-le, sum_by_more, sum_by-take-le, sub_zero, All-head, All-tail, IfSome_then, le_of_dvd, Item, Freq, Fixed, Table, Bernoulli, Binomial, Poisson, Gamma, expected_count, IsUnbounded, IsClaimCount, den_divides, common_pos, total_pos, positive_share, most_amount, most_amount_at, amount_fits, quotients_apart}
use Rattle.std.proofs.Common.{◌==◌}
use Rattle.dl_plan.proofs.MeanSizes.{unit_within}

-- ---- how large it is

pub unit_small : (B : ℕ) (u : UnitOfPlan) (num den cells : ℕ) → IsValidUnit cells u → 0 < den
    → num over den ≡ declared_mean u
    → div_ceil (2 ^ B * num) den ≤ most_claims_mean cells (2 ^ B)
unit_small B u num den cells valid pos parts =
    let few = le_over num den (65536 * most_amount_at cells) 1 pos one_pos (subst₂ (λ s t. s ≤ℚ t) (sym parts)
    (sym (whole_times 65536 (most_amount_at cells))) (unit_within cells u valid)) in
    div_ceil_least (2 ^ B * num) den (most_claims_mean cells (2 ^ B)) pos (omega (arith, mul-le-mul_left (2 ^ B) few))

-- the amounts of any plan
pub amounts_near : (cells : ℕ) (u : UnitOfPlan) → IsValidUnit cells u → All (λ item. item.amount ≤ most_amount)
    u.sev.items
amounts_near cells u valid = λ i d inside. le_trans_n (valid.amounts i d inside) (amount_fits cells)

-- 65,536 claims of at most 2^22 buckets
pub claims_fit : (B cells : ℕ) → B ≤ 56 → most_claims_mean cells (2 ^ B) ≤ 2 ^ 94
claims_fit B cells scale =
    let most : 65536 * most_amount_at cells * 2 ^ B ≤ 65536 * 2 ^ 22 * 2 ^ 56 =
    mul-le-mul (mul-le-mul_left 65536 (amount_fits cells)) (one_fits B scale) in
    omega arith

-- ---- a share of a layer

pub most_small : (limit : Option ℕ) (one mean hi : ℕ) → IfSome limit (λ k. k ≤ 2 ^ 22) → one ≤ 2 ^ 56 → mean ≤ 2 ^ 94
    → hi ≤ layer_most limit one mean → hi ≤ 2 ^ 94
most_small None one mean hi near scale small h = omega arith
most_small (Some k) one mean hi near scale small h =
    let most : k * one ≤ 2 ^ 22 * 2 ^ 56 = mul-le-mul near scale in
    omega arith

pub part_le : {num den : ℕ} (share : Fraction) → num ≡ share.num → den ≡ share.den → share ≤ℚ whole 1 → num ≤ den
part_le share e h within = omega (arith, num_le_den share within)

pub share_fits : (hi num den : ℕ) → hi ≤ 2 ^ 94 → num ≤ den → den ≤ 2 ^ 30 → hi * num < 2 ^ 128
share_fits hi num den small within fine =
    let parts : num ≤ 2 ^ 30 = omega arith in
    let most : hi * num ≤ 2 ^ 94 * 2 ^ 30 = mul-le-mul small parts in
    omega arith

-- a share of at most 1 widens by the rounding alone
pub share_width : (lo hi num den : ℕ) → lo ≤ hi → num ≤ den → 0 < den
    → div_ceil (hi * num) den ≤ lo * num / den + (hi - lo) + 1
share_width lo hi num den ordered within pos =
    let apart = quotients_apart den num lo hi (hi - lo) pos (omega arith) in
    omega (arith, part_within (hi - lo) num den pos within)

pub part_narrow : (limit : Option ℕ) (attach claims spread wide : ℕ) → claims ≤ 1
    → wide ≤ layer_width limit attach claims spread + 1
    → wide ≤ part_width spread limit attach
part_narrow None attach claims spread wide narrow h = omega arith
part_narrow (Some limit) attach claims spread wide narrow h = omega arith

-- ---- all layers: at most one has no limit

-- a layer has no limit, or takes at most as much as one of 2^22 buckets
limited : (limit : Option ℕ) (one mean : ℕ) → IfSome limit (λ k. k ≤ 2 ^ 22)
    → (limit ≡ None) ⊎ (layer_most limit one mean ≤ 2 ^ 22 * one)
limited None one mean near = inl refl
limited (Some k) one mean near = inr (mul-le-mul_right one near)

-- the most that each layer takes, added up
abbrev pub mosts : ℕ → ℕ → List CedeLayer → ℕ
mosts one mean layers = sum_by (λ (l : CedeLayer). layer_most l.limit one mean) layers

module _ (one mean : ℕ) where
  others_small : (l : CedeLayer) (ls : List CedeLayer) → l.limit ≡ None → All (λ m. ¬ Overlap l m) ls
      → All IsNear ls → mosts one mean ls ≤ length ls * (2 ^ 22 * one)
  others_small l ls none apart near = sum_by-le (λ (k : CedeLayer). layer_most k.limit one mean) (2 ^ 22 * one) ls
      (λ k d inside. elim (limited (get_or ls k d).limit one mean (near k d inside)) [
        | inl e ↦ absurd (apart k d inside (rw none tt, rw e tt))
        | inr few ↦ few
      ])

  pub mosts_small : (ls : List CedeLayer) → AllPairs (λ l m. ¬ Overlap l m) ls → All IsNear ls
      → mosts one mean ls ≤ length ls * (2 ^ 22 * one) + mean
  mosts_small [] apart near = omega arith
  mosts_small (l ∷ ls) apart near =
      let rest = mosts_small ls (rest_apart l ls apart) (All-tail IsNear l ls near) in
      let one_more = sum_by-cons (λ (k : CedeLayer). layer_most k.limit one mean) l ls in
      elim (limited l.limit one mean (All-head IsNear l ls near)) [
        | inl e ↦
            let others = others_small l ls e (first_apart l ls apart) (All-tail IsNear l ls near) in
            omega (arith, ap (λ t. layer_most t one mean) e)
        | inr few ↦ omega (arith, few)
      ]

-- a limit of a plan's layer is one of any plan's
pub all_near : (cells : ℕ) (ls : List CedeLayer) → All (IsWithinMostAmount cells) ls → All IsNear ls
all_near cells ls near = λ i d inside.
    IfSome_then (get_or ls i d).limit (near i d inside).limit (λ k h. le_trans_n h (amount_fits cells))

-- the layers one after another: at the layer l, the i-th
module _ (layers : List CedeLayer) (i : ℕ) (l : CedeLayer) (inside : i < length layers) (is : l ≡ get_or layers i l) where
  pub each_at : (P : CedeLayer → Type 0) → All P layers → P l
  each_at P all = subst P (sym is) (all i l inside)

  pub sum_more : (f : CedeLayer → ℕ) {before part : ℕ} → before ≤ sum_by f (take i layers) → part ≤ f l
      → before + part ≤ sum_by f (take (i + 1) layers)
  sum_more f h k = omega (arith, sum_by_more f layers i l inside, ap f is)

pub most_fits : (clause : Clause) (one mean n hi : ℕ) → IsClause clause → All IsNear clause.1
    → hi ≤ mosts one mean (take n clause.1) → hi ≤ mean + most_limited one
most_fits clause one mean n hi is_clause near h =
    let few : length clause.1 * (2 ^ 22 * one) ≤ 16 * (2 ^ 22 * one) = mul-le-mul_right (2 ^ 22 * one) is_clause.few in
    let less = sum_by-take-le (λ (m : CedeLayer). layer_most m.limit one mean) clause.1 n in
    omega (arith, mosts_small one mean clause.1 is_clause.apart near)

-- all of that, in words
pub limited_fits : (B mean hi : ℕ) → B ≤ 56 → mean ≤ 2 ^ 94 → hi ≤ mean + most_limited (2 ^ B) → hi ≤ 2 ^ 95
limited_fits B mean hi scale small h = omega (arith, one_fits B scale)

pub fine_shares : (layers : List CedeLayer) → IsFineTo30Bits (layer_shares layers) → All (λ l. l.share.den ≤ 2 ^ 30)
    layers
fine_shares layers fine i d inside =
    let xs = layer_shares layers in
    let divides = den_divides 1 xs i d.share (omega (arith, length-map layers (λ (l : CedeLayer). l.share))) in
    let here = ap (λ (x : Fraction). x.den) (get_or-map (λ (l : CedeLayer). l.share) layers i d d.share inside) in
    omega (arith, le_of_dvd (common_pos xs) divides)
