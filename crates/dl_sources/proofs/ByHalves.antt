-- The sum of units by halves, and their means.
use Rattle.std.specs.Prelude.{filter, not, replicate, is_some, is_none, ◌&&◌}
use Rattle.std.proofs.Common.{Bool, true, false, cond, drop, append_assoc, zero-add}
use Rattle.dl_totals.proofs.Added.{alone}
use Rattle.dl_sources.proofs.AlikeLaws.{alike_grid, alike_mean}
use Rattle.dl_sources.proofs.Losses.{is_independent}
use Rattle.dl_sources.proofs.Parted.{is_total_among}
use Rattle.dl_sources.proofs.ReadAs.{unit_on}
use Rattle.dl_sources.proofs.SumLaws.{each_encloses}
use Rattle.dl_sources.proofs.Taken.{means_more, no_means}
use Rattle.dl_sources.proofs.Common.{ℕ, zero, suc, ◌≡◌, ◌+◌, ◌-◌, ◌^◌, ◌<◌, ◌≤◌, List, [], ◌∷◌, ◌++◌, length, get_or, map, take, arith, refl, sym, ap, ap₂, subst, subst₂, ◌∙◌, All, All-tail, All-append, All-cons, All-nil, Option, None, Some, IfSome, Iv, Loss, AreDeclarable, total, GridEncloses, loss_of, are_units, units_declared, plan_units, length-append, length-map, take_all, IsUnitOn, IsPlanAt, IsValid, IsValidUnit, IsUnitGrid, IsUnitMean, AreUnitGrids, AreMeansOf, IsTotalOf, spread, total_budget, most_unit_mean, UnitOfPlan, Plan, Fraction, Clause, option_to_list, suc-add, take-add, append-nil, get_or-replicate, length-replicate, map-append, drop_all, All-filter, All-take, All-drop, filter-append, all_pushed, can_share, is_poisson, EnclosesSum, EncloseEach, IsPooledFor, rest_of, unpooled, AreAlike, AreAllAlike, AddMeans, IsSumOfUnits}

-- ---- units that all stay, or all do not

filter_same : (p : UnitOfPlan → Bool) (b : Bool) (us : List UnitOfPlan) → All (λ u. p u ≡ b) us
    → filter p us ≡ cond b us []
filter_same p true [] h = refl
filter_same p false [] h = refl
filter_same p true (u ∷ us) h =
    ap (λ b. cond b (u ∷ filter p us) (filter p us)) (h 0 u (omega arith))
    ∙ ap (λ t. u ∷ t) (filter_same p true us (All-tail (λ v. p v ≡ true) u us h))
filter_same p false (u ∷ us) h =
    ap (λ b. cond b (u ∷ filter p us) (filter p us)) (h 0 u (omega arith))
    ∙ filter_same p false us (All-tail (λ v. p v ≡ false) u us h)

none_pooled : (us : List UnitOfPlan) → unpooled false us ≡ us
none_pooled us = filter_same (λ u. true) true us (λ i d inside. refl)

module _ (pooled b : Bool) {u : UnitOfPlan} (us : List UnitOfPlan) (alike : All (AreAlike u) us)
    (stays : not (pooled && can_share u) ≡ b) where
  alike_stay : unpooled pooled us ≡ cond b us []
  alike_stay = filter_same (λ v. not (pooled && can_share v)) b us (λ i d inside.
      ap (λ s. not (pooled && s)) (sym (same_share (alike i d inside))) ∙ stays)
    where
      same_share : {v w : UnitOfPlan} → AreAlike v w → can_share v ≡ can_share w
      same_share {v} {w} e = ap₂ (λ count rest. count && rest) (ap is_poisson e.count)
          (ap₂ (λ c z. is_none c && is_none z) e.clause e.zero)

-- ---- sums

module _ {B cells : ℕ} (us : List UnitOfPlan) (on : All (IsUnitOn B cells) us) where
  all_valid : All (IsValidUnit cells) us
  all_valid i d inside = (on i d inside).valid

  pub part_declarable : (p : UnitOfPlan → Bool) → AreDeclarable (map loss_of (filter p us))
  part_declarable p = are_units _ (units_declared cells (filter p us) (All-filter p (IsValidUnit cells) us all_valid))

-- such a unit is there
pub some_cells : {B cells : ℕ} (us : List UnitOfPlan) → All (IsUnitOn B cells) us → 1 ≤ length us → 1 ≤ cells
some_cells [] on some = absurd (omega (arith, some))
some_cells (u ∷ us) on some = (on 0 u (omega arith)).some

-- two sums that have no unit in common
pub joined : {B cells : ℕ} (us vs : List UnitOfPlan) {a b sum : Option (List (Iv B))}
    → AreDeclarable (map loss_of us) → AreDeclarable (map loss_of vs)
    → IsSumOfUnits cells us a → IsSumOfUnits cells vs b → IfSome sum (λ g. length g ≡ cells)
    → ((ls ms : List Loss) → AreDeclarable ls → AreDeclarable ms → EnclosesSum a ls → EnclosesSum b ms
    → EnclosesSum sum (ls ++ ms)) → IsSumOfUnits cells (us ++ vs) sum
joined us vs {sum = sum} w z first second long encloses = record {
  cells = long;
  encloses = subst (EnclosesSum sum) (sym (map-append loss_of us vs))
      (encloses (map loss_of us) (map loss_of vs) w z first.encloses second.encloses);
}

drop_more : (from n : ℕ) (us : List UnitOfPlan) → drop n (drop from us) ≡ drop (from + n) us
drop_more zero n us = ap (λ k. drop k us) (sym (zero-add n))
drop_more (suc from) n [] = drop_all n [] (omega arith) ∙ sym (drop_all (suc from + n) [] (omega arith))
drop_more (suc from) n (u ∷ us) = drop_more from n us ∙ ap (λ k. drop k (u ∷ us)) (sym (suc-add from n))

-- the two halves of many units from a place on
module _ {B cells : ℕ} (units : List UnitOfPlan) (from n many : ℕ) (fewer : n ≤ many) (on : All (IsUnitOn B cells) units) where
  abbrev first : List UnitOfPlan
  first = take n (drop from units)

  abbrev second : List UnitOfPlan
  second = take (many - n) (drop (from + n) units)

  part_on : (k at : ℕ) → All (IsUnitOn B cells) (take k (drop at units))
  part_on k at = All-take (IsUnitOn B cells) k (drop at units) (All-drop (IsUnitOn B cells) at units on)

  all_of_both : first ++ second ≡ take many (drop from units)
  all_of_both =
      let all : n + (many - n) ≡ many = omega (arith, fewer) in
      ap (λ t. first ++ take (many - n) t) (sym (drop_more from n units)) ∙ sym (take-add n (many - n) (drop from units))
      ∙ ap (λ k. take k (drop from units)) all

  pub both_sums : (pooled : Bool) {a b sum : Option (List (Iv B))} → IsSumOfUnits cells (unpooled pooled first) a
      → IsSumOfUnits cells (unpooled pooled second) b → IfSome sum (λ g. length g ≡ cells)
      → ((ls ms : List Loss) → AreDeclarable ls → AreDeclarable ms → EnclosesSum a ls → EnclosesSum b ms
      → EnclosesSum sum (ls ++ ms)) → IsSumOfUnits cells (unpooled pooled (take many (drop from units))) sum
  both_sums pooled {sum = sum} of_first of_second long encloses =
      let p : UnitOfPlan → Bool = λ u. not (pooled && can_share u) in
      subst (λ us. IsSumOfUnits cells us sum)
      (sym (filter-append p first second) ∙ ap (unpooled pooled) all_of_both)
      (joined (unpooled pooled first) (unpooled pooled second) (part_declarable first (part_on n from) p)
      (part_declarable second (part_on (many - n) (from + n)) p) of_first of_second long encloses)

  pub both_means : {old mid new : List (Iv B)} → AddMeans cells first old mid → AddMeans cells second mid new
      → AddMeans cells (take many (drop from units)) old new
  both_means {new = new} of_first of_second before h =
      subst (λ us. AreMeansOf cells us new) (append_assoc before first second ∙ ap (λ t. before ++ t) all_of_both)
      (of_second (before ++ first) (of_first before h))

-- ---- units that are alike

module _ {B cells : ℕ} (units : List UnitOfPlan) {u : UnitOfPlan} (alike : All (AreAlike u) units) where
  alike_grids : {g : List (Iv B)} → IsUnitGrid cells u g → AreUnitGrids cells units (replicate (length units) g)
  alike_grids {g} of_u = record {
    as_many = length-replicate (length units) g;
    each = λ i v inside.
        subst (IsUnitGrid cells (get_or units i v)) (sym (get_or-replicate (length units) i g [] inside))
        (alike_grid (alike i v inside) of_u (sym (take_all cells g (omega (arith, of_u.cells)))));
  }

  pub alike_sum : (pooled : Bool) {g sum : List (Iv B)} → All (IsUnitOn B cells) units → (pooled && can_share u) ≡ false
      → IsUnitGrid cells u g → length sum ≡ cells
      → ((ls : List Loss) → AreDeclarable ls → EncloseEach (replicate (length units) g) ls → GridEncloses sum (total ls))
      → IsSumOfUnits cells (unpooled pooled units) (Some sum)
  alike_sum pooled {g = g} {sum = sum} on stays of_u long encloses =
      subst (λ us. IsSumOfUnits cells us (Some sum)) (sym (alike_stay pooled true units alike (ap not stays))) (record {
        cells = long;
        encloses = encloses (map loss_of units)
            (are_units _ (units_declared cells units (λ i d inside. (on i d inside).valid))) (record {
              as_many = length-replicate (length units) g ∙ sym (length-map units loss_of);
              each = λ i inside. each_encloses cells units _ i
                  (omega (arith, inside, length-replicate (length units) g)) (alike_grids of_u);
            });
      })

  pub alike_pooled : (pooled : Bool) → (pooled && can_share u) ≡ true
      → IsSumOfUnits {B = B} cells (unpooled pooled units) None
  alike_pooled pooled all =
      subst (λ us. IsSumOfUnits {B = B} cells us None) (sym (alike_stay pooled false units alike (ap not all))) no_sum
    where
      no_sum : IsSumOfUnits {B = B} cells [] None
      no_sum = record { cells = tt; encloses = refl }

means_of_many : {B : ℕ} (cells : ℕ) (us before : List UnitOfPlan) (old : List (Iv B)) (mean : Iv B)
    → mean.hi ≤ most_unit_mean → All (λ v. IsUnitMean cells v mean) us → AreMeansOf cells before old
    → AreMeansOf cells (before ++ us) (old ++ replicate (length us) mean)
means_of_many cells [] before old mean small each h =
    subst₂ (AreMeansOf cells) (sym (append-nil before)) (sym (append-nil old)) h
means_of_many {B} cells (u ∷ us) before old mean small each h =
    subst₂ (AreMeansOf cells) (append_assoc before (u ∷ []) us)
    (append_assoc old (mean ∷ []) (replicate (length us) mean))
    (means_of_many cells us (before ++ u ∷ []) (old ++ mean ∷ []) mean small
    (All-tail (λ v. IsUnitMean cells v mean) u us each) (record {
      means = means_more cells before old u mean h.means (each 0 u (omega arith));
      small = all_pushed (λ (m : Iv B). m.hi ≤ most_unit_mean) old (old ++ mean ∷ []) mean h.small refl small;
    }))

pub alike_means : {B cells : ℕ} (units : List UnitOfPlan) {u : UnitOfPlan} {mean : Iv B} {old new : List (Iv B)}
    → All (AreAlike u) units → IsUnitMean cells u mean → mean.hi ≤ most_unit_mean
    → new ≡ old ++ replicate (length units) mean → AddMeans cells units old new
alike_means {cells = cells} units {mean = mean} {old = old} alike of_u small added before h =
    rw added (means_of_many cells units before old mean small
    (λ i d inside. alike_mean (alike i d inside) of_u) h)

-- ---- the total

module _ {B : ℕ} {plan : Plan} (at : IsPlanAt B plan) where
  pub units_on : {units : List UnitOfPlan} → units ≡ plan.units → All (IsUnitOn B plan.cells) units
  units_on same = subst (All (IsUnitOn B plan.cells)) (sym same)
      (λ i d inside. unit_on at (at.valid.units i d inside))

  pub all_means : {units : List UnitOfPlan} {old new : List (Iv B)} → units ≡ plan.units → old ≡ []
      → AddMeans plan.cells (take (length units) units) old new → AreMeansOf plan.cells plan.units new
  all_means {units} {new = new} same none added =
      subst (λ us. AreMeansOf plan.cells us new) (take_all (length units) units (omega arith) ∙ same)
      (added [] (no_means plan.cells none))

  pub pooled_declarable : (pooled : Option UnitOfPlan) → IfSome pooled (IsPooledFor plan)
      → AreDeclarable (map loss_of (option_to_list pooled))
  pooled_declarable None h = tt
  pooled_declarable (Some made) h = are_units (map loss_of (made ∷ [])) (units_declared plan.cells (made ∷ [])
      (All-cons (IsValidUnit plan.cells) made [] h.valid (All-nil (IsValidUnit plan.cells))))

  pub pooled_sum : {pooled : Option UnitOfPlan} (made : UnitOfPlan) {g : List (Iv B)} → pooled ≡ Some made
      → IsPooledFor plan made → IsUnitGrid plan.cells made g
      → IsSumOfUnits plan.cells (option_to_list pooled) (Some g)
  pooled_sum made {g = g} is h grid = rw is (record {
    cells = grid.cells;
    encloses = alone g (loss_of made) (pooled_declarable (Some made) h).0 grid.encloses;
  })

  pub pooled_none : {pooled : Option UnitOfPlan} → pooled ≡ None
      → IsSumOfUnits {B = B} plan.cells (option_to_list pooled) None
  pooled_none is = rw is (record { cells = tt; encloses = refl })

  -- the units that are not pooled, and the one in the place of the others
  abbrev all_with : Option UnitOfPlan → List UnitOfPlan
  all_with pooled = unpooled (is_some pooled) plan.units ++ option_to_list pooled

  pub sum_of_all : {units : List UnitOfPlan} {rest one sum : Option (List (Iv B))} (b : Bool) (pooled : Option UnitOfPlan)
      → units ≡ plan.units → b ≡ is_some pooled → IfSome pooled (IsPooledFor plan)
      → IsSumOfUnits plan.cells (unpooled b (take (length units) units)) rest
      → IsSumOfUnits plan.cells (option_to_list pooled) one
      → IfSome sum (λ g. length g ≡ plan.cells)
      → ((ls ms : List Loss) → AreDeclarable ls → AreDeclarable ms → EnclosesSum rest ls → EnclosesSum one ms
      → EnclosesSum sum (ls ++ ms)) → IsSumOfUnits plan.cells (all_with pooled) sum
  sum_of_all {units} {rest = rest} b pooled same told h of_rest of_one long encloses =
      joined (unpooled (is_some pooled) plan.units) (option_to_list pooled)
      (part_declarable plan.units (units_on refl) (λ u. not (is_some pooled && can_share u))) (pooled_declarable pooled h)
      (subst₂ (λ c us. IsSumOfUnits plan.cells (unpooled c us) rest) told
      (take_all (length units) units (omega arith) ∙ same) of_rest) of_one long encloses

  pub some_total : (pooled : Option UnitOfPlan) → ¬ IsSumOfUnits {B = B} plan.cells (all_with pooled) None
  some_total None sum =
      absurd (omega (
        arith,
        at.valid.some,
        ap length sum.encloses,
        length-map (all_with None) loss_of,
        ap length (append-nil (unpooled false plan.units) ∙ none_pooled plan.units),
      ))
  some_total (Some made) sum =
      absurd (omega (
        arith,
        ap length sum.encloses,
        length-map (all_with (Some made)) loss_of,
        length-append (rest_of plan.units) (made ∷ []),
      ))

  pub is_total_by_halves : {g : List (Iv B)} (pooled : Option UnitOfPlan) → plan.common ≡ None
      → IfSome pooled (IsPooledFor plan) → IsSumOfUnits plan.cells (all_with pooled) (Some g)
      → spread g ≤ total_budget (2 ^ B) plan → IsTotalOf plan g
  is_total_by_halves {g} None none h sum narrow =
      subst (λ whole. IsTotalOf whole g) (is_independent plan none) (record {
        cells = sum.cells;
        encloses = subst (λ us. GridEncloses g (total (map loss_of us)))
            (append-nil (unpooled false plan.units) ∙ none_pooled plan.units) sum.encloses;
        narrow = subst (λ whole. spread g ≤ total_budget (2 ^ B) whole) (sym (is_independent plan none)) narrow;
      })
  is_total_by_halves (Some made) none h sum narrow =
      is_total_among made at.valid none h sum.cells sum.encloses narrow
