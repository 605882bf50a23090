-- What joint means come from, among grids to which more are added, and in what is drawn.
use Rattle.dl_sources.proofs.Common.{ℕ, suc, inl, inr, cases_lt, remove, IsTotalOf, ◌≡◌, ◌+◌, ◌<◌, ◌≤◌, List, [], ◌∷◌, ◌++◌, length, get_or, arith, sym, ap, subst, ◌∙◌, Option, None, Some, IfSome, IsSome, Iv, spread, Plan, AreOthersOf, AreUnitGrids, Gives, IsOriginOf, length-append, get_or_push, replicate, get_or-replicate, length-replicate, drop, drop-cons, get_or_past, each_pushed, pushed_length, some_inside, UnitBudgets, Drawn, Origin, Nowhere, Beside, Claims, AreGridsFor, AreOthers, IsBeside, IsFoundOf, IsWholeClaimsGrid, IsWholeNumber, ReachNamed, StayAmong}
use Rattle.dl_sources.proofs.ReadAs.{grid_of_unit}

-- ---- more grids

pub pushed_whole : {B : ℕ} {plan : Plan} {i k : ℕ} (grids : List (List (Iv B))) {more : List (List (Iv B))}
    (g : List (Iv B)) → k ≡ length grids → more ≡ grids ++ g ∷ [] → IsWholeClaimsGrid plan i g → IsWholeNumber plan more i k
pushed_whole {plan = plan} {i = i} {k = k} grids g last pushed whole = rw pushed (record {
  there = omega (arith, last, length-append grids (g ∷ []));
  whole = subst (IsWholeClaimsGrid plan i) (sym (get_or_push grids g [] k (sym last))) whole;
})

pub found_stays : {B : ℕ} (plan : Plan) (of : Option UnitBudgets) {grids more : List (List (Iv B))} (i : ℕ) (o : Origin B)
    → StayAmong grids more → IsFoundOf plan of grids i o → IsFoundOf plan of more i o
found_stays plan of i Nowhere stays found = found
found_stays plan of i (Beside others) stays found = found
found_stays plan of i (Claims k) stays found = record {
  there = omega (arith, found.there, stays.no_fewer);
  whole = subst (IsWholeClaimsGrid plan i) (sym (stays.same k found.there)) found.whole;
}

-- ---- the next one

pub first_grid : {B : ℕ} {plan : Plan} {grids : List (List (Iv B))} {t : List (Iv B)} → IsTotalOf plan t → grids ≡ t ∷ []
    → AreGridsFor plan 0 grids
first_grid total same = rw same (record { some = omega arith; few = omega arith; total = total })

pub first_spread : {B : ℕ} {grids : List (List (Iv B))} {t : List (Iv B)} {n : ℕ} → n ≡ spread t → grids ≡ t ∷ []
    → n ≡ spread (get_or grids 0 [])
first_spread is same = rw same is

-- the first of those that are left
pub next_left : {A : Type 0} (xs ys : List (Option A)) (i : ℕ) (x : Option A) → ys ≡ drop i xs → i < length xs
    → x ≡ get_or ys 0 x → (x ≡ get_or xs i None) × (remove ys 0 ≡ drop (i + 1) xs)
next_left xs ys i x same inside is =
    let next : suc i ≡ i + 1 = omega arith in
    let parts : ys ≡ get_or xs i None ∷ drop (i + 1) xs =
    same ∙ drop-cons xs i None inside ∙ ap (λ n. get_or xs i None ∷ drop n xs) next in (
      is ∙ ap (λ t. get_or t 0 x) parts,
      ap (λ t. remove t 0) parts,
    )

pub beside_pushed : {B : ℕ} (Q : ℕ → Type 0) (ys zs : List (Origin B)) (i : ℕ) (o : Origin B) → length ys ≡ i
    → ((k : ℕ) → IsBeside (get_or ys k Nowhere) → Q k) → zs ≡ ys ++ o ∷ [] → (IsBeside o → Q i)
    → (k : ℕ) → IsBeside (get_or zs k Nowhere) → Q k
beside_pushed Q ys zs i o many before pushed here k is = elim (cases_lt k (i + 1)) [
  | inl below ↦ each_pushed (λ j p. IsBeside p → Q j) ys zs i o Nowhere many (λ j _ e. before j e) pushed here k below is
  | inr past ↦
      let long : length zs ≡ i + 1 = pushed_length ys zs i o many pushed in
      absurd (subst IsBeside (get_or_past zs k Nowhere (omega (arith, long, past))) is)
]

-- ---- none

nothing_there : {A : Type 0} (o : Option A) → o ≡ None → ¬ IsSome o
nothing_there None e some = absurd cc
nothing_there (Some x) e some = absurd cc

-- ---- what is drawn

pub origin_drawn : {B : ℕ} (plan : Plan) (of : Option UnitBudgets) (i : ℕ) (drawn : Drawn B) (o : Origin B)
    → plan.common ≡ None → i < length plan.units
    → (IsBeside o → AreUnitGrids plan.cells plan.units drawn.units.items)
    → IsFoundOf plan of drawn.grids.items i o → IsOriginOf plan drawn i o
origin_drawn plan of i drawn Nowhere none inside units found = tt
origin_drawn plan of i drawn (Beside others) none inside units found = record {
  independent = none;
  there = omega (arith, inside, (units tt).as_many);
  unit = grid_of_unit i inside (units tt);
  others = found;
}
origin_drawn plan of i drawn (Claims k) none inside units found = record { there = found.there; grid = found.whole.grid }

found_gives : {B : ℕ} (plan : Plan) (of : Option UnitBudgets) (i : ℕ) (drawn : Drawn B) (o : Origin B)
    → IsSome of → IsFoundOf plan of drawn.grids.items i o → Gives drawn plan.cells o
found_gives plan of i drawn Nowhere some found = absurd (nothing_there of found some)
found_gives plan of i drawn (Beside others) some found = omega (arith, found.cells)
found_gives plan of i drawn (Claims k) some found = omega (arith, found.whole.cells)

pub found_reach : {B : ℕ} {plan : Plan} {budgets : List (Option UnitBudgets)} {drawn : Drawn B}
    → ((i : ℕ) → i < length plan.units
    → IsFoundOf plan (get_or budgets i None) drawn.grids.items i (get_or drawn.origins.items i Nowhere))
    → ReachNamed plan budgets plan.cells drawn
found_reach {plan = plan} {budgets = budgets} {drawn = drawn} found = record {
  each = λ i inside some. found_gives plan (get_or budgets i None) i drawn (get_or drawn.origins.items i Nowhere) some
      (found i inside);
}

gives_less : {B : ℕ} (drawn : Drawn B) (m n : ℕ) (o : Origin B) → m ≤ n → Gives drawn n o → Gives drawn m o
gives_less drawn m n Nowhere few all = absurd all
gives_less drawn m n (Beside others) few all = omega (arith, all, few)
gives_less drawn m n (Claims k) few all = omega (arith, all, few)

-- at all totals of the grid, so at those below m
pub reach_less : {B : ℕ} {plan : Plan} {budgets : List (Option UnitBudgets)} (m : ℕ) {n : ℕ} {drawn : Drawn B} → m ≤ n
    → ReachNamed plan budgets n drawn → ReachNamed plan budgets m drawn
reach_less m {n = n} {drawn = drawn} few reached = record {
  each = λ i inside some. gives_less drawn m n (get_or drawn.origins.items i Nowhere) few (reached.each i inside some);
}

-- ---- no sums of others

pub no_others : {B : ℕ} {plan : Plan} {others : List (Option (List (Iv B)))} → others ≡ replicate (length plan.units) None
    → AreOthers plan others
no_others {B} {plan = plan} same = rw same (record {
  as_many = length-replicate (length plan.units) None;
  each = λ i inside.
      subst (λ (o : Option (List (Iv B))). IfSome o (AreOthersOf plan i))
      (sym (get_or-replicate (length plan.units) i None None inside)) tt;
})

pub none_there : {A : Type 0} (n i : ℕ) (xs : List (Option A)) → xs ≡ replicate n None → ¬ IsSome (get_or xs i None)
none_there {A = A} n i xs same some =
    let inside : i < n = omega (arith, some_inside xs i some, ap (λ t. length t) same, length-replicate {A = Option A} n None) in
    nothing_there (get_or xs i None) (ap (λ t. get_or t i None) same ∙ get_or-replicate n i None None inside) some
