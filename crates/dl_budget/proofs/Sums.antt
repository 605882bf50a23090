-- Budgets of sums of units, as a loop over the units makes them.
use Rattle.dl_budget.proofs.Common.{IsPlanScale, ℕ, suc, zero, ◌≡◌, ◌+◌, ◌-◌, ◌*◌, ◌^◌, ◌<◌, ◌≤◌, List, [], ◌∷◌, length, get_or, take, drop, arith, sym, ap, ap₂, subst, ◌∙◌, fold, remove, pow_pos, convolution_spread, rounded_spread, sum_spread, IsOfUnits, unit_budgets, from_there, ◌++◌, length-map, length-take, length-drop, get_or-map, take-map, drop-map, fold_more, fold-append, UnitOfPlan, unit_budget, Plan, IsValid, IsValidUnit, All, take_all, eqb_tells, ◌==◌, AreFew, Fraction, Option, None, Some, cond, operands, most_budget_of, most_mean_budget_of, most_sum_operands, standard_units, sum_by, sum_by_more, Bool, true, false, is_some, add-one, drop-drop, sum_by-drop_more, sum_by-take-drop, sum_by-take-le, sum_by_more_le, are_few, sum_of_few, sum_of_standard}
use Rattle.dl_budget.proofs.SizeLaws.{size_least, within_step, spread_near, a_sixteenth, an_eighth}
use Rattle.dl_budget.proofs.Horizons.{few_cells}

pub budgets_length : (S cells : ℕ) (us : List UnitOfPlan) → length (unit_budgets S cells us) ≡ length us
budgets_length S cells us = length-map us (unit_budget S cells)

pub all_budgets : (S cells : ℕ) (us : List UnitOfPlan) (i : ℕ) → length us ≤ i
    → take i (unit_budgets S cells us) ≡ unit_budgets S cells us
all_budgets S cells us i past = take_all i (unit_budgets S cells us) (omega (arith, budgets_length S cells us, past))

-- that of a unit which was read there
pub budget_here : (S cells : ℕ) (us : List UnitOfPlan) (i b : ℕ) (u : UnitOfPlan) → i < length us → u ≡ get_or us i u
    → b ≡ unit_budget S cells u
    → b ≡ get_or (unit_budgets S cells us) i 0
budget_here S cells us i b u inside is here =
    here ∙ ap (unit_budget S cells) is ∙ sym (get_or-map (unit_budget S cells) us i u 0 inside)

-- one more unit
pub budget_next : (S cells : ℕ) (us : List UnitOfPlan) (i sum t x b : ℕ) (u : UnitOfPlan) → i < length us
    → u ≡ get_or us i u
    → t ≡ fold (convolution_spread S cells) sum (take i (unit_budgets S cells us)) → b ≡ unit_budget S cells u → x ≡ convolution_spread S cells t b
    → x ≡ fold (convolution_spread S cells) sum (take (i + 1) (unit_budgets S cells us))
budget_next S cells us i sum t x b u inside is before here step =
    step ∙ ap₂ (convolution_spread S cells) before (budget_here S cells us i b u inside is here)
    ∙ sym (fold_more (convolution_spread S cells) sum (unit_budgets S cells us) i 0 (omega (arith, budgets_length S cells us, inside)))

-- ---- sizes

-- 44 * 2^30 for each unit, and 749 * 2^30 more for each changed one
operand_of_kind : (cells : ℕ) (us : List UnitOfPlan) → cells ≤ 65536
    → All (λ u. rounded_spread cells 0 (most_budget_of u.zero) ≤ 44 * 2 ^ 30 + 131073
    + cond (is_some u.zero) (749 * 2 ^ 30) 0) us
unfolding rounded_spread
operand_of_kind cells us few i u inside = by (get_or us i u).zero
  where
    by : (z : Option Fraction) → rounded_spread cells 0 (most_budget_of z) ≤ 44 * 2 ^ 30 + 131073 + cond (is_some z) (749 * 2 ^ 30) 0
    by None = omega (arith, few)
    by (Some p) = omega (arith, few)

pub operands_few : (cells : ℕ) (us : List UnitOfPlan) → cells ≤ 65536 → AreFew us
    → operands cells us ≤ most_sum_operands
operands_few cells us few are =
    omega (
      arith,
      sum_of_few (λ u. rounded_spread cells 0 (most_budget_of u.zero)) (44 * 2 ^ 30 + 131073) (749 * 2 ^ 30) us are
          (operand_of_kind cells us few),
    )

-- those of at most 16 units
pub operands_standard : (cells : ℕ) (us : List UnitOfPlan) → cells ≤ 65536 → length us ≤ standard_units
    → operands cells us ≤ 12689 * 2 ^ 30
operands_standard cells us few most =
    omega (
      arith,
      sum_of_standard (λ u. rounded_spread cells 0 (most_budget_of u.zero)) (44 * 2 ^ 30 + 131073) (749 * 2 ^ 30) us most
          (operand_of_kind cells us few),
    )

-- those of the first units
pub operands_so_far : (cells : ℕ) (us : List UnitOfPlan) (i : ℕ) → operands cells (take i us) ≤ operands cells us
operands_so_far cells us i = sum_by-take-le (λ (u : UnitOfPlan). rounded_spread cells 0 (most_budget_of u.zero)) us i

-- a unit is not larger than one of the greatest budget
pub unit_size : (B cells x : ℕ) (u : UnitOfPlan) → x ≤ most_budget_of u.zero
    → IsOfUnits (2 ^ B) cells (rounded_spread cells 0 (most_budget_of u.zero)) x
unfolding rounded_spread
unit_size B cells x u small = size_least (2 ^ B) _ _ (omega (arith, small))

-- one unit more
pub sum_size_next : (B cells c sum b x : ℕ) (us : List UnitOfPlan) (i : ℕ) (u : UnitOfPlan) → IsPlanScale B
    → i < length us → u ≡ get_or us i u → c + operands cells us ≤ most_sum_operands
    → IsOfUnits (2 ^ B) cells (c + operands cells (take i us)) sum
    → b ≤ most_budget_of u.zero → x ≡ convolution_spread (2 ^ B) cells sum b
    → IsOfUnits (2 ^ B) cells (c + operands cells (take (i + 1) us)) x
sum_size_next B cells c sum b x us i u e inside is room before small step =
    let f = λ (v : UnitOfPlan). rounded_spread cells 0 (most_budget_of v.zero) in
    let more : operands cells (take (i + 1) us) ≡ operands cells (take i us) + f u =
    sum_by_more f us i u inside ∙ ap (λ v. operands cells (take i us) + f v) (sym is) in
    let within = sum_by-take-le f us (i + 1) in
    within_step B cells 0 (c + operands cells (take i us)) (f u) _ sum b x e (omega (arith, more))
    (omega (arith, room, within)) before (unit_size B cells b u small) (step ∙ omega arith)

pub sum_small : (B cells c x : ℕ) → IsPlanScale B → c ≤ most_sum_operands → IsOfUnits (2 ^ B) cells c x → x < 2 ^ 45
sum_small B cells c x e few size =
    omega (arith, spread_near 7 (2 ^ B) cells 0 c x (pow_pos B) (an_eighth B c e (omega (arith, few))) size)

-- of at most 16 units
pub sum_standard : (B cells c x : ℕ) → IsPlanScale B → c ≤ 12689 * 2 ^ 30 → IsOfUnits (2 ^ B) cells c x → x < 2 ^ 44
sum_standard B cells c x e few size =
    omega (arith, spread_near 15 (2 ^ B) cells 0 c x (pow_pos B) (a_sixteenth B c e (omega (arith, few))) size)

pub size_at : (B cells m n x : ℕ) → m ≡ n → IsOfUnits (2 ^ B) cells m x → IsOfUnits (2 ^ B) cells n x
size_at B cells m n x e size = subst (λ t. IsOfUnits (2 ^ B) cells t x) e size

-- the first unit and the later ones
pub operands_first : (cells : ℕ) (us : List UnitOfPlan) (u : UnitOfPlan) → 1 ≤ length us → u ≡ get_or us 0 u
    → rounded_spread cells 0 (most_budget_of u.zero) + operands cells (take (length us - 1) (drop 1 us)) ≡ operands cells us
operands_first cells us u some is =
    let f = λ (v : UnitOfPlan). rounded_spread cells 0 (most_budget_of v.zero) in
    ap₂ (λ s t. s + t) (ap f is) (ap (operands cells) (from_there 0 us))
    ∙ sym (sum_by-drop_more f us 0 u some)

-- the units before i and those after it
pub operands_apart : (cells : ℕ) (us : List UnitOfPlan) (i : ℕ)
    → operands cells (take i us) + operands cells (take (length us - (i + 1)) (drop (i + 1) us)) ≤ operands cells us
operands_apart cells us i =
    let f = λ (v : UnitOfPlan). rounded_spread cells 0 (most_budget_of v.zero) in
    let rest : take (length us - (i + 1)) (drop (i + 1) us) ≡ drop 1 (drop i us) =
    from_there i us ∙ ap (λ k. drop k us) (sym (add-one i)) ∙ sym (drop-drop 1 i us) in
    let parts : sum_by f (take i us) + sum_by f (drop 1 (drop i us)) ≤ sum_by f us =
    omega (arith, sum_by-take-drop f us i, sum_by-take-drop f (drop i us) 1) in
    rw rest parts

-- ---- a first unit and the later ones

-- ---- all units but one

sum_joined : (S cells : ℕ) (ds more : List ℕ) → 1 ≤ length ds
    → sum_spread S cells (ds ++ more) ≡ fold (convolution_spread S cells) (sum_spread S cells ds) more
sum_joined S cells [] more some = absurd (omega (arith, some))
sum_joined S cells (d ∷ ds) more some = fold-append (convolution_spread S cells) d ds more

-- the units before i and those after it
pub sum_of_others : (S cells : ℕ) (us before after : List UnitOfPlan) (i x y : ℕ) → before ≡ take i us
    → after ≡ drop (suc i) us → 1 ≤ length before
    → x ≡ sum_spread S cells (unit_budgets S cells before) → y ≡ fold (convolution_spread S cells) x (unit_budgets S cells after)
    → y ≡ sum_spread S cells (remove (unit_budgets S cells us) i)
sum_of_others S cells us before after i x y cut rest some first further =
    let front : unit_budgets S cells before ≡ take i (unit_budgets S cells us) = ap (unit_budgets S cells) cut
    ∙ sym (take-map (unit_budget S cells) i us) in
    let back : unit_budgets S cells after ≡ drop (suc i) (unit_budgets S cells us) = ap (unit_budgets S cells) rest
    ∙ sym (drop-map (unit_budget S cells) (suc i) us) in
    let long : 1 ≤ length (take i (unit_budgets S cells us)) =
    omega (arith, some, ap length front, budgets_length S cells before) in
    further ∙ ap₂ (fold (convolution_spread S cells)) (first ∙ ap (sum_spread S cells) front) back
    ∙ sym (sum_joined S cells (take i (unit_budgets S cells us)) (drop (suc i) (unit_budgets S cells us)) long)

-- those after the first
pub sum_of_later : (S cells : ℕ) (us : List UnitOfPlan) (i x : ℕ) → i < length us → length (take i us) ≡ 0
    → x ≡ sum_spread S cells (unit_budgets S cells (take (length us - (i + 1)) (drop (i + 1) us)))
    → x ≡ sum_spread S cells (remove (unit_budgets S cells us) i)
sum_of_later S cells us zero x inside none e =
    e ∙ ap (λ t. sum_spread S cells (unit_budgets S cells t)) (from_there 0 us)
    ∙ ap (sum_spread S cells) (sym (drop-map (unit_budget S cells) 1 us))
sum_of_later S cells us (suc i) x inside none e = absurd (omega (arith, none, inside, length-take (suc i) us))

-- n is 0 where the test n == 0 is true, and at least 1 where it is false
pub none_there : (n : ℕ) (empty : Bool) → empty ≡ (n == 0) → empty ≡ true → n ≡ 0
none_there n empty told is = grind (arith, eqb_tells n 0)

pub some_there : (n : ℕ) (empty : Bool) → empty ≡ (n == 0) → empty ≡ false → 1 ≤ n
some_there n empty told is = grind (arith, eqb_tells n 0)

-- the units before i and those after it are not more than all
pub parts_length : (i : ℕ) (us : List UnitOfPlan)
    → length (take i us) + length (take (length us - (i + 1)) (drop (i + 1) us)) ≤ length us
parts_length i us = omega (
  arith,
  length-take i us,
  length-take (length us - (i + 1)) (drop (i + 1) us),
  length-drop (i + 1) us,
)

-- a unit that was read in a list is that of an equal one
pub read_unit : (slice us : List UnitOfPlan) (i : ℕ) (u : UnitOfPlan) → slice ≡ us → u ≡ get_or slice i u
    → u ≡ get_or us i u
read_unit slice us i u e is = is ∙ ap (λ t. get_or t i u) e

pub valid_there : (cells : ℕ) (us : List UnitOfPlan) (i : ℕ) (u : UnitOfPlan) → All (IsValidUnit cells) us → i < length us
    → u ≡ get_or us i u → IsValidUnit cells u
valid_there cells us i u valid inside is = subst (IsValidUnit cells) (sym is) (valid i u inside)

pub unit_there : (plan : Plan) (slice : List UnitOfPlan) (i : ℕ) (u : UnitOfPlan) → IsValid plan → i < length plan.units
    → slice ≡ plan.units → u ≡ get_or slice i u → IsValidUnit plan.cells u
unit_there plan slice i u valid inside e is =
    valid_there plan.cells plan.units i u valid.units inside (read_unit slice plan.units i u e is)

-- ---- means

-- the greatest budgets of the means of units, added up
pub means_few : (us : List UnitOfPlan) → AreFew us → sum_by (λ u. most_mean_budget_of u.zero) us ≤ 2 ^ 67
means_few us few =
    omega (
      arith,
      sum_of_few (λ u. most_mean_budget_of u.zero) (2 ^ 56) (103 * 2 ^ 56) us few (λ i u inside. by (get_or us i u).zero),
    )
  where
    by : (z : Option Fraction) → most_mean_budget_of z ≤ 2 ^ 56 + cond (is_some z) (103 * 2 ^ 56) 0
    by None = omega arith
    by (Some p) = omega arith

-- those of the first units
pub means_so_far : (us : List UnitOfPlan) (i : ℕ)
    → sum_by (λ u. most_mean_budget_of u.zero) (take i us) ≤ sum_by (λ u. most_mean_budget_of u.zero) us
means_so_far us i = sum_by-take-le (λ (u : UnitOfPlan). most_mean_budget_of u.zero) us i

-- with one unit more
pub means_next : (us : List UnitOfPlan) (i sum b : ℕ) (u : UnitOfPlan) → AreFew us → i < length us → u ≡ get_or us i u
    → sum ≤ sum_by (λ u. most_mean_budget_of u.zero) (take i us) → b ≤ most_mean_budget_of u.zero
    → (sum + b ≤ sum_by (λ u. most_mean_budget_of u.zero) (take (i + 1) us)) × (sum + b ≤ 2 ^ 67)
means_next us i sum b u few inside is before small =
    let f = λ (u : UnitOfPlan). most_mean_budget_of u.zero in
    let own : b ≤ f (get_or us i u) = subst (λ v. b ≤ f v) is small in
    (omega (arith, sum_by_more f us i u inside), omega (arith, sum_by_more_le f us i u inside, means_few us few))

-- ---- plans

-- the units of a valid plan have room, as they were read
pub room_of : (plan : Plan) (units : List UnitOfPlan) → IsValid plan → units ≡ plan.units
    → operands plan.cells units ≤ most_sum_operands
room_of plan units valid is = rw is (operands_few plan.cells plan.units (few_cells plan valid).1 (are_few plan valid))
