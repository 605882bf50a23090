-- The answer to each kind of ask, from the grid and the mean of the total.
use Rattle.dl_answers.proofs.Common.{ℕ, suc, ◌≡◌, ◌+◌, ◌-◌, ◌^◌, ◌<◌, ◌≤◌, List, length, take, arith, inl, inr, sym, ap, ◌∙◌, Option, None, Some, mul-le-mul_left, pow_pos, cases_lt, Fraction, ◌over◌, ◌+ℚ◌, ◌≤ℚ◌, ◌<ℚ◌, le_trans, lt_or_le, lt_not_le, Iv, over_le_over, low_at, high_at, spread, count_below, Holds, AreDeclarable, One, Point, Mean, partial_sums, total, GridEncloses, AreDeclared, low_cdf, at_least_wider, at_most_wider, cdf_ends, IsFirstAtLeast, Plan, IsValid, Row, total_budget, mean_budget, ask_budget, few_cells, IsBelow, at_the_end, IsAnswerTo, total_error, IsTotalOf, IsMeanOf, Prints, Loss, add-one, min, MatchOption, le_refl, plus_le_both, plus_le_cancel, sub_le_both, over_plus, mass_low, mass_high, IsGrid, below_more, Below, Cdf, Layer, IsBracketed, high_cdf, IsTight, IsFirstFound, layer_width, Whole, layer_mean_budget, IsBracket, bracket_end, total_cdf, total_layer, total_mean, low_sum, width_at, high_is, width_within, high_mass, low_most, low_high, apart}
use Rattle.dl_plan.specs.declared.settings.Ask.TheVariants as asks
use Rattle.dl_answers.proofs.Losses.{losses_of, losses_declared, losses_units, encloses_losses, told_of, holds_told, holds_back, bracket_told, tight_told}
use Rattle.dl_answers.proofs.Printed.{declared_ends}

-- ---- probabilities

pub cell_apart : {B : ℕ} (g : List (Iv B)) (x : ℕ) → high_at g x ≤ low_at g x + spread g
cell_apart g x = omega (arith, high_is g x, width_within (x + 1) g, below_more x (width_at g))

pub point_answer : {B : ℕ} {plan : Plan} {g : List (Iv B)} {d : ℕ} (x : ℕ) {lo hi : ℕ} {row : Row} → lo ≡ low_at g x
    → hi ≡ high_at g x
    → x < length g
    → IsTotalOf plan g → Prints (2 ^ B) lo hi d row → IsAnswerTo (2 ^ B) plan d (asks.Pmf x) row
unfolding ask_budget
point_answer {B} {plan = plan} {g = g} {d = d} x {lo = lo} {hi = hi} {row = row} low high inside t printed =
    declared_ends B plan (Point x) lo hi d (total_budget (2 ^ B) plan) row printed
    (rw (low, high) (t.encloses x inside))
    (omega (arith, low, high, cell_apart g x, t.narrow))

cdf_low : {B : ℕ} (g : List (Iv B)) (x : ℕ) → mass_low (take (x + 1) g) ≡ count_below (suc x) (low_at g)
cdf_low g x = sym (low_sum (x + 1) g) ∙ ap (λ n. count_below n (low_at g)) (add-one x)

cdf_high : {B : ℕ} (g : List (Iv B)) (x : ℕ) → mass_high (take (x + 1) g) ≡ count_below (suc x) (high_at g)
cdf_high g x = sym (high_mass (x + 1) g) ∙ ap (λ n. count_below n (high_at g)) (add-one x)

least_apart : (top a b w lo hi : ℕ) → lo ≡ min a top → hi ≡ min b top → b ≤ a + w → hi ≤ lo + w
least_apart top a b w lo hi low high h = omega (arith, low, high, h)

pub cdf_answer : {B : ℕ} {plan : Plan} {g : List (Iv B)} {d : ℕ} (x : ℕ) {lo hi : ℕ} {row : Row}
    → lo ≡ min (mass_low (take (x + 1) g)) (2 ^ B) → hi ≡ min (mass_high (take (x + 1) g)) (2 ^ B) → x < length g
    → IsValid plan → IsTotalOf plan g → Prints (2 ^ B) lo hi d row → IsAnswerTo (2 ^ B) plan d (asks.Cdf x) row
unfolding ask_budget
cdf_answer {B} {plan = plan} {g = g} {d = d} x {lo = lo} {hi = hi} {row = row} low high inside valid t printed =
    let ends = holds_told valid (Cdf x) (total_cdf x) _ _
    (cdf_ends (losses_of plan) (2 ^ B) (length g) (low_at g) (high_at g) (losses_units valid)
    (pow_pos B) (encloses_losses valid t) x inside) in
    let low_sum : count_below (suc x) (low_at g) ≡ mass_low (take (x + 1) g) = sym (cdf_low g x) in
    let high_sum : count_below (suc x) (high_at g) ≡ mass_high (take (x + 1) g) = sym (cdf_high g x) in
    declared_ends B plan (Cdf x) lo hi d (total_budget (2 ^ B) plan) row printed (
      at_least_wider _ _ _ _ ends.0 (over_le_over lo (count_below (suc x) (low_at g)) (2 ^ B) (pow_pos B)
          (omega (arith, low, low_sum))),
      at_most_wider _ _ _ _ ends.1 (over_le_over (min (2 ^ B) (count_below (suc x) (high_at g))) hi (2 ^ B)
          (pow_pos B) (omega (arith, high, high_sum))),
    )
    (least_apart (2 ^ B) (mass_low (take (x + 1) g)) (mass_high (take (x + 1) g)) (total_budget (2 ^ B) plan) lo hi
    low high
    (omega (arith, apart g (suc x), low_sum, high_sum, t.narrow)))

-- ---- means

pub mean_answer : {B : ℕ} {plan : Plan} {d : ℕ} {mean : Iv B} {row : Row} → IsMeanOf plan mean
    → Prints (2 ^ B) mean.lo mean.hi d row
    → IsAnswerTo (2 ^ B) plan d asks.Mean row
unfolding ask_budget
mean_answer {B} {plan = plan} {d = d} {mean = mean} {row = row} m printed = declared_ends B plan Mean mean.lo mean.hi d
    (mean_budget (2 ^ B) plan) row printed m.holds m.narrow

layer_narrow : (S : ℕ) (plan : Plan) (limit : Option ℕ) (attach mean spread : ℕ) → mean ≤ mean_budget S plan
    → spread ≤ total_budget S plan
    → layer_width limit attach mean spread ≤ layer_mean_budget S plan limit attach
layer_narrow S plan None attach mean spread p q = omega (arith, p, mul-le-mul_left attach q)
layer_narrow S plan (Some limit) attach mean spread p q = mul-le-mul_left limit q

pub layer_answer : {B : ℕ} {plan : Plan} {g : List (Iv B)} {mean : Iv B} {d : ℕ} (attach : ℕ) {lo hi : ℕ}
    (limit : Option ℕ)
    {row : Row}
    → ((us : List Loss) → AreDeclared us → GridEncloses g (total us)
    → (limit ≡ None → Holds (partial_sums us Mean) (partial_sums us One) (mean.lo over 2 ^ B) (mean.hi over 2 ^ B))
    → Holds (partial_sums us (Layer limit attach)) (partial_sums us One) (lo over 2 ^ B) (hi over 2 ^ B))
    → hi - lo ≤ layer_width limit attach (mean.hi - mean.lo) (spread g)
    → IsValid plan → IsTotalOf plan g → IsMeanOf plan mean → Prints (2 ^ B) lo hi d row
    → IsAnswerTo (2 ^ B) plan d (asks.LayerMean limit attach) row
unfolding ask_budget
layer_answer {B} {plan} {g} {mean} {d} attach {lo} {hi} limit {row} holds width valid t m printed =
    declared_ends B plan (Layer limit attach) lo hi d (layer_mean_budget (2 ^ B) plan limit attach) row printed
    (holds_told valid (Layer limit attach) (total_layer limit attach) _ _
    (holds (losses_of plan) (losses_declared valid) (encloses_losses valid t)
    (λ none. holds_back valid Mean total_mean _ _ m.holds))) (omega (
      arith,
      layer_narrow (2 ^ B) plan limit attach (mean.hi - mean.lo) (spread g)
          (omega (arith, m.narrow)) t.narrow,
    ))

-- ---- quantiles

pub plus_lt : (x y z : Fraction) → x <ℚ y → x +ℚ z <ℚ y +ℚ z
plus_lt x y z h = elim (lt_or_le (x +ℚ z) (y +ℚ z))
    [ inl less ↦ less | inr not_less ↦ absurd (lt_not_le x y h (plus_le_cancel y x z not_less)) ]

wider_tight : (us : List Loss) (K L lo : ℕ) (hi : Option ℕ) (p d e : Fraction) → K ≡ L → d ≤ℚ e
    → IsTight (partial_sums us) K lo hi p d → IsTight (partial_sums us) L lo hi p e
wider_tight us K L lo hi p d e same wider tight = λ x from inside before.
    let both = tight x from (omega (arith, inside, same)) before in (
      at_most_wider _ _ _ _ both.0 (plus_le_both p p d e (le_refl p) wider),
      at_least_wider _ _ _ _ both.1 (sub_le_both p p e d (le_refl p) wider),
    )

ends_order : {B : ℕ} (g : List (Iv B)) (x : ℕ) → IsGrid g
    → low_cdf (2 ^ B) (low_at g) x ≤ℚ high_cdf (2 ^ B) (high_at g) x
ends_order {B} g x grid =
    over_le_over (count_below (suc x) (low_at g)) (min (2 ^ B) (count_below (suc x) (high_at g))) (2 ^ B) (pow_pos B)
    (omega (arith, low_most g (suc x) grid, low_high g (suc x)))

bracket_inside : {B : ℕ} (g : List (Iv B)) (p : Fraction) (cells lo : ℕ) (hi : Option ℕ) → IsGrid g → length g ≡ cells
    → IsFirstAtLeast (high_cdf (2 ^ B) (high_at g)) p (length g) lo
    → IsFirstFound (low_cdf (2 ^ B) (low_at g)) p (length g) hi
    → MatchOption hi (lo ≤ cells) (λ x. (lo ≤ x) × (x < cells))
bracket_inside g p cells lo None grid same first found = omega (arith, first.within, same)
bracket_inside g p cells lo (Some x) grid same first found = (not_after, omega (arith, found.0, same))
  where
    not_after : lo ≤ x
    not_after = elim (cases_lt x lo) [
      | inl before ↦ absurd (lt_not_le _ p (first.before x before)
          (le_trans p _ _ (found.1.reached found.0) (ends_order g x grid)))
      | inr after ↦ after
    ]

beyond_below : {B : ℕ} (us : List Loss) (g : List (Iv B)) (p d : Fraction) (x : ℕ) → AreDeclarable us
    → GridEncloses g (total us) → x < length g
    → low_cdf (2 ^ B) (low_at g) x <ℚ p → spread g over 2 ^ B ≤ℚ d
    → Below (partial_sums us (Cdf x)) (partial_sums us One) (p +ℚ d)
beyond_below {B} us g p d x units encloses inside below narrow =
    let ends = cdf_ends us (2 ^ B) (length g) (low_at g) (high_at g) units (pow_pos B) encloses x inside in
    let sum : min (2 ^ B) (count_below (suc x) (high_at g)) over 2 ^ B ≤ℚ
    (count_below (suc x) (low_at g) + spread g) over 2 ^ B =
    over_le_over _ _ (2 ^ B) (pow_pos B) (omega (arith, apart g (suc x))) in
    let parts : (count_below (suc x) (low_at g) + spread g) over 2 ^ B
    ≡ low_cdf (2 ^ B) (low_at g) x +ℚ spread g over 2 ^ B =
    over_plus (count_below (suc x) (low_at g)) (spread g) (2 ^ B) (pow_pos B) in
    let high : high_cdf (2 ^ B) (high_at g) x ≤ℚ low_cdf (2 ^ B) (low_at g) x +ℚ d =
    le_trans _ _ _ (rw parts at sum)
    (plus_le_both _ _ _ _ (le_refl (low_cdf (2 ^ B) (low_at g) x)) narrow) in
    (low_cdf (2 ^ B) (low_at g) x +ℚ d, plus_lt _ p d below, at_most_wider _ _ _ _ ends.1 high)

-- where the grid ends before p is reached, the distribution is below p there, or a little above
pub ends_below : {B : ℕ} {plan : Plan} {g : List (Iv B)} {p : Fraction}
    → IsFirstAtLeast (low_cdf (2 ^ B) (low_at g)) p (length g) (length g)
    → IsValid plan → IsTotalOf plan g → IsBelow plan (at_the_end plan) (p +ℚ total_error (2 ^ B) plan)
ends_below {B} {plan = plan} {g = g} {p = p} last valid t =
    let some = few_cells plan valid in
    told_of valid (λ Q O. Below Q O (p +ℚ total_error (2 ^ B) plan)) (at_the_end plan) (total_cdf (plan.cells - 1))
    (beyond_below (losses_of plan) g p (total_error (2 ^ B) plan) (plan.cells - 1) (losses_units valid)
    (encloses_losses valid t) (omega (arith, t.cells, some.0))
    (last.before (plan.cells - 1) (omega (arith, t.cells, some.0)))
    (over_le_over (spread g) (total_budget (2 ^ B) plan) (2 ^ B) (pow_pos B) t.narrow))

pub is_bracket : {B : ℕ} {plan : Plan} {g : List (Iv B)} {p : Fraction} {lo : ℕ} (hi : Option ℕ) {row : Row}
    → row.low ≡ Whole lo → row.high ≡ bracket_end hi
    → IsFirstAtLeast (high_cdf (2 ^ B) (high_at g)) p (length g) lo
    → IsFirstFound (low_cdf (2 ^ B) (low_at g)) p (length g) hi
    → ((us : List Loss) → AreDeclarable us → GridEncloses g (total us) → IsBracketed (partial_sums us) lo hi p)
    → ((us : List Loss) → AreDeclarable us → GridEncloses g (total us)
    → IsTight (partial_sums us) (length g) lo hi p (spread g over 2 ^ B))
    → IsGrid g → IsValid plan → IsTotalOf plan g → IsBracket plan p (total_error (2 ^ B) plan) row
is_bracket {B} {plan = plan} {g = g} {p = p} {lo = lo} hi is_low is_high first found holds tight grid valid t =
    let units = losses_units valid in
    let encloses = encloses_losses valid t in
    let narrow : spread g over 2 ^ B ≤ℚ total_budget (2 ^ B) plan over 2 ^ B =
    over_le_over (spread g) (total_budget (2 ^ B) plan) (2 ^ B) (pow_pos B) t.narrow in
    record {
      lo = lo;
      hi = hi;
      is_low = is_low;
      is_high = is_high;
      inside = bracket_inside g p plan.cells lo hi grid t.cells first found;
      bracketed = bracket_told valid lo hi p (holds (losses_of plan) units encloses);
      tight = tight_told valid plan.cells lo hi p _
          (wider_tight (losses_of plan) (length g) plan.cells lo hi p _ _ t.cells narrow
          (tight (losses_of plan) units encloses));
      beyond = λ none. ends_below (rw none at found) valid t;
    }
