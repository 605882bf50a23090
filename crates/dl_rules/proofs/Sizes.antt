-- Sums over the units of a plan: how many have a changed probability of no claim, and their means.
use Rattle.std.proofs.Common.{◌^◌, mul-le-mul_right}
use Rattle.dl_rules.proofs.Common.{ℕ, ◌≡◌, ◌∙◌, ◌+◌, ◌*◌, ◌<◌, ◌≤◌, ◌||◌, Bool, true, false, cond, nat_lt, List, [], ◌∷◌, ◌++◌, length, map, take, get_or, refl, sym, ap, ap₂, subst, arith, is_some, sum_by-cons, take_more, Fraction, whole, ◌*ℚ◌, ◌over◌, one_pos, over_mul, UnitOfPlan, most_total_at, count_by, sum_by, div_ceil, mul-le-mul_left, over_same, ceiling_div, ceiling_one, div_ceil_least, up_above, up_least, IsCeiling, up, most_changed, changed_units, declared_mean, growth, whole_mean, whole_means, Size, is_total_large, size_of, whole_size}

pub sizes_changed : (us : List UnitOfPlan) → count_by (λ (s : Size). is_some s.zero) (map size_of us) ≡ changed_units us
sizes_changed [] = refl
sizes_changed (u ∷ us) = omega (
  arith,
  sum_by-cons (λ (s : Size). cond (is_some s.zero) 1 0) (size_of u) (map size_of us),
  sum_by-cons (λ (v : UnitOfPlan). cond (is_some v.zero) 1 0) u us,
  sizes_changed us,
)

pub sizes_means : (us : List UnitOfPlan) → sum_by whole_size (map size_of us) ≡ whole_means us
sizes_means [] = refl
sizes_means (u ∷ us) = omega (
  arith,
  sum_by-cons whole_size (size_of u) (map size_of us),
  sum_by-cons whole_mean u us,
  sizes_means us,
)

pub total_is : (cells : ℕ) (us : List UnitOfPlan) (changed total : ℕ) → changed ≡ changed_units us → total ≡ whole_means us
    → (nat_lt most_changed changed || nat_lt (most_total_at cells) total) ≡ is_total_large cells (map size_of us)
total_is cells us changed total many all =
    ap₂ (λ a b. nat_lt most_changed a || nat_lt (most_total_at cells) b) (many ∙ sym (sizes_changed us))
    (all ∙ sym (sizes_means us))

pub at_most_one : (b : Bool) → cond b 1 0 ≤ 1
at_most_one true = omega arith
at_most_one false = omega arith

pub one_more : (us : List UnitOfPlan) (i : ℕ) (u : UnitOfPlan) → i < length us → u ≡ get_or us i u
    → (changed_units (take (i + 1) us) ≡ changed_units (take i us) + cond (is_some u.zero) 1 0)
    × (whole_means (take (i + 1) us) ≡ whole_means (take i us) + whole_mean u)
one_more us i u lt is =
    let more : take (i + 1) us ≡ take i us ++ u ∷ [] = take_more us i u lt ∙ ap (λ v. take i us ++ v ∷ []) (sym is) in
    (ap changed_units more ∙ added (λ v. cond (is_some v.zero) 1 0) (take i us), ap whole_means more ∙ added whole_mean (take i us))
  where
    added : (f : UnitOfPlan → ℕ) (xs : List UnitOfPlan) → sum_by f (xs ++ u ∷ []) ≡ sum_by f xs + f u
    added f [] = omega arith
    added f (x ∷ xs) = omega (arith, sum_by-cons f x (xs ++ u ∷ []), sum_by-cons f x xs, added f xs)

-- the least whole number that is not below a multiple of a quotient
pub mean_up : (u : UnitOfPlan) (g n d : ℕ) → 0 < d → g ≡ growth u.zero → n over d ≡ declared_mean u
    → div_ceil (g * n) d ≡ whole_mean u
mean_up u g n d pos grown is =
    let x : Fraction = whole (growth u.zero) *ℚ declared_mean u in
    let same : (g * n) over d ≡ x =
    over_same (g * n) d (g * n) (1 * d) pos (omega (arith, pos)) (omega arith) ∙ sym (over_mul g 1 n d one_pos pos)
    ∙ ap₂ (λ y z. y *ℚ z) (ap whole grown) is in
    ceiling_one x (div_ceil (g * n) d) (up x) (subst (λ y. IsCeiling y (div_ceil (g * n) d)) same (ceiling_div (g * n) d pos))
    (record { above = up_above x; least = up_least x })

pub mean_small : (g n d : ℕ) → 0 < d → g ≤ 17 → n < 2 ^ 110 → div_ceil (g * n) d ≤ 17 * 2 ^ 110
mean_small g n d pos few small =
    let within : g * n ≤ g * n * d = omega (arith, mul-le-mul_left (g * n) pos) in
    omega (arith, div_ceil_least (g * n) d (g * n) pos within, mul-le-mul_right n few)
