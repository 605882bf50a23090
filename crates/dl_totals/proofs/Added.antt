-- What encloses a sum of units after one more is taken in, and how wide it is.
use Rattle.dl_totals.proofs.Common.{ℕ, zero, suc, ◌≡◌, ◌+◌, ◌-◌, ◌^◌, ◌<◌, ◌≤◌, List, [], ◌∷◌, ◌++◌, length, get_or, take, drop, map, arith, refl, sym, ap, ap₂, subst, subst₂, ◌∙◌, fold, remove, pow_pos, fold_more, sum_by-take-le, get_or-map, get_or_default, length-map, length-take, take_all, drop_all, Iv, IsConvolution, spread, convolution_spread, sum_spread, cv_rises, Loss, IsLoss, AreDeclarable, total, GridEncloses, unit_of, without_suc, EncloseEach, append_assoc, zero-add, All-take, All-drop, suc-add, fold-append, get_or-take, get_or-drop, length-drop, map-append, AreUnits, ◌over◌, low_at, high_at, all_at_zero, low_take, high_take, convolution_encloses, encloses_same, all_at_zero_encloses}
use Rattle.std.specs.Prelude.{All}
use Rattle.dl_model.specs.Prelude.{Holds, sum_over_outcomes, Family, product, nothing, without}
use Rattle.dl_model.proofs.Outcomes.{no_units as nowhere, total_alone, total_alone_all, total_append, total_append_all, total_proper}

-- ---- lists of units

pub units_first : (n : ℕ) (us : List Loss) → AreDeclarable us → AreDeclarable (take n us)
units_first zero us w = tt
units_first (suc n) [] w = tt
units_first (suc n) (u ∷ us) w = (w.0, units_first n us w.1)

pub units_after : (n : ℕ) (us : List Loss) → AreDeclarable us → AreDeclarable (drop n us)
units_after zero us w = w
units_after (suc n) [] w = tt
units_after (suc n) (u ∷ us) w = units_after n us w.1

pub units_joined : (us vs : List Loss) → AreDeclarable us → AreDeclarable vs → AreDeclarable (us ++ vs)
units_joined [] vs w z = z
units_joined (u ∷ us) vs w z = (w.0, units_joined us vs w.1 z)

-- the unit at a place
pub unit_at : (us : List Loss) (i : ℕ) → i < length us → AreDeclarable us
    → (u : Loss) × (take (suc i) us ≡ take i us ++ u ∷ []) × (drop i us ≡ u ∷ drop (suc i) us)
    × (unit_of us i ≡ u.family) × IsLoss u
unit_at [] i h w = absurd (omega arith)
unit_at (u ∷ us) zero h w = (u, refl, refl, refl, w.0)
unit_at (u ∷ us) (suc i) h w = let r = unit_at us i (omega arith) w.1 in (r.0, ap (λ t. u ∷ t) r.1, r.2, r.3, r.4)

-- ---- one more unit

pub alone : {B : ℕ} (g : List (Iv B)) (u : Loss) → IsLoss u → GridEncloses g u.family
    → GridEncloses g (total (u ∷ []))
alone {B} g u h = encloses_same (2 ^ B) (length g) (low_at g) (high_at g) u.family (total (u ∷ []))
    (λ x N. sym (total_alone u h x N)) (λ N. sym (total_alone_all u h N))

-- the convolution of two sums
pub two_sums : {B : ℕ} (a b g : List (Iv B)) (n : ℕ) (us vs : List Loss) → AreDeclarable us → AreDeclarable vs
    → n ≤ length a → n ≤ length b → length g ≡ n
    → IsConvolution n a b g
    → GridEncloses a (total us) → GridEncloses b (total vs) → GridEncloses g (total (us ++ vs))
two_sums {B} a b g n us vs w z in_a in_b e conv of_a of_b =
    encloses_same (2 ^ B) (length g) (low_at g) (high_at g) (product (total us) (total vs)) (total (us ++ vs))
    (λ x N. sym (total_append us vs w x N)) (λ N. sym (total_append_all us vs w N))
    (convolution_encloses a b g n (total us) (total vs) (total_proper us w)
    (total_proper vs z) in_a in_b e conv of_a of_b)

one_more : {B : ℕ} (a b g : List (Iv B)) (n : ℕ) (us : List Loss) (u : Loss) → AreDeclarable us
    → IsLoss u → n ≤ length a → n ≤ length b → length g ≡ n
    → IsConvolution n a b g
    → GridEncloses a (total us) → GridEncloses b u.family → GridEncloses g (total (us ++ u ∷ []))
one_more {B} a b g n us u w h in_a in_b e conv of_a of_b =
    two_sums a b g n us (u ∷ []) w (h, tt) in_a in_b e conv of_a (alone b u h of_b)

-- the unit at place i of a list joins those before it
pub joins : {B : ℕ} (a b g : List (Iv B)) (n i : ℕ) (us vs : List Loss) → AreDeclarable us → AreDeclarable vs
    → i < length vs → n ≤ length a → n ≤ length b → length g ≡ n
    → IsConvolution n a b g
    → GridEncloses a (total (us ++ take i vs)) → GridEncloses b (unit_of vs i)
    → GridEncloses g (total (us ++ take (suc i) vs))
joins {B} a b g n i us vs w z inside in_a in_b e conv of_a of_b =
    let r = unit_at vs i inside z in
    subst (λ t. GridEncloses g (total t)) (sym (ap (λ t. us ++ t) r.1 ∙ sym (append_assoc us (take i vs) (r.0 ∷ []))))
    (one_more a b g n (us ++ take i vs) r.0 (units_joined us (take i vs) w (units_first i vs z)) r.4 in_a in_b e
    conv of_a
    (subst (λ F. GridEncloses b F) r.3 of_b))

pub widens : {B : ℕ} (grids : List (List (Iv B))) (k i x y z : ℕ) (b : List (Iv B)) → i < length grids
    → b ≡ get_or grids i b
    → y ≤ convolution_spread (2 ^ B) k x (spread b) → x ≤ fold (convolution_spread (2 ^ B) k) z (take i (map spread grids))
    → y ≤ fold (convolution_spread (2 ^ B) k) z (take (i + 1) (map spread grids))
widens {B} grids k i x y z b inside is h before =
    let more = fold_more (convolution_spread (2 ^ B) k) z (map spread grids) i 0 (rw length-map inside) in
    let here : get_or (map spread grids) i 0 ≡ spread b = get_or-map spread grids i b 0 inside ∙ sym (ap spread is) in
    rw (more, here) (omega (
      arith,
      h,
      cv_rises (2 ^ B) k k x (fold (convolution_spread (2 ^ B) k) z (take i (map spread grids)))
          (spread b) (spread b) (pow_pos B) (omega arith) before (omega arith),
    ))

-- the grid at place i is taken in
pub one_wider : {B : ℕ} (grids : List (List (Iv B))) (k i x y z : ℕ) (b : List (Iv B)) → i < length grids
    → b ≡ get_or grids i b
    → y ≡ convolution_spread (2 ^ B) k x (spread b) → x ≡ fold (convolution_spread (2 ^ B) k) z (take i (map spread grids))
    → y ≡ fold (convolution_spread (2 ^ B) k) z (take (i + 1) (map spread grids))
one_wider {B} grids k i x y z b inside is h before =
    let more = fold_more (convolution_spread (2 ^ B) k) z (map spread grids) i 0 (rw length-map inside) in
    let here : get_or (map spread grids) i 0 ≡ spread b = get_or-map spread grids i b 0 inside ∙ sym (ap spread is) in
    rw (more, here) (h ∙ ap (λ t. convolution_spread (2 ^ B) k t (spread b)) before)

-- the grid at a place encloses the unit there
pub encloses_at : {B : ℕ} (grids : List (List (Iv B))) (us : List Loss) (i : ℕ) (g : List (Iv B))
    → EncloseEach grids us → i < length grids
    → g ≡ get_or grids i g → GridEncloses g (unit_of us i)
encloses_at grids us i g e inside is = subst (λ t. GridEncloses t (unit_of us i))
    (get_or_default grids i [] g inside ∙ sym is) (e.each i inside)

pub all_taken : {B : ℕ} (g : List (Iv B)) (i n : ℕ) (us vs : List Loss) → i ≡ n → n ≡ length vs
    → GridEncloses g (total (us ++ take i vs)) → GridEncloses g (total (us ++ vs))
all_taken g i n us vs e h of_g = subst (λ t. GridEncloses g (total (us ++ t))) (take_all i vs (omega arith)) of_g

-- ---- parts of a list of grids

pub long_enough : {B : ℕ} (grids : List (List (Iv B))) (n i : ℕ) (g : List (Iv B)) → i < length grids
    → g ≡ get_or grids i g → All (λ t. n ≤ length t) grids → n ≤ length g
long_enough grids n i g inside is each = subst (λ t. n ≤ length t) (sym is) (each i g inside)

pub each_first : {B : ℕ} (n : ℕ) (grids : List (List (Iv B))) (us : List Loss) → EncloseEach grids us
    → EncloseEach (take n grids) (take n us)
each_first n grids us e = record {
  as_many = omega (arith, e.as_many, length-take n grids, length-take n us);
  each = λ i h. let k : (i < n) × (i < length grids) = omega (arith, h, length-take n grids) in
      subst₂ (λ g F. GridEncloses g F) (sym (get_or-take n grids i [] k.0)) (sym (unit_first n i us k.0))
      (e.each i k.1);
}
  where
    unit_first : (n i : ℕ) (us : List Loss) → i < n → unit_of (take n us) i ≡ unit_of us i
    unit_first zero i us h = absurd (omega arith)
    unit_first (suc n) i [] h = refl
    unit_first (suc n) zero (u ∷ us) h = refl
    unit_first (suc n) (suc i) (u ∷ us) h = unit_first n i us (omega arith)

pub each_after : {B : ℕ} (n : ℕ) (grids : List (List (Iv B))) (us : List Loss) → EncloseEach grids us
    → EncloseEach (drop n grids) (drop n us)
each_after n grids us e = record {
  as_many = omega (arith, e.as_many, length-drop n grids, length-drop n us);
  each = λ i h. let k : n + i < length grids = omega (arith, h, length-drop n grids) in
      subst₂ (λ g F. GridEncloses g F) (sym (get_or-drop n grids i [])) (sym (unit_after n i us)) (e.each (n + i) k);
}
  where
    unit_after : (n i : ℕ) (us : List Loss) → unit_of (drop n us) i ≡ unit_of us (n + i)
    unit_after zero i us = ap (λ k. unit_of us k) (sym (zero-add i))
    unit_after (suc n) i [] = refl
    unit_after (suc n) i (u ∷ us) = unit_after n i us ∙ ap (λ k. unit_of (u ∷ us) k) (sym (suc-add n i))

-- a part of a list up to its end
pub to_the_end : {A : Type 0} (n : ℕ) (xs : List A) → take (length xs - n) (drop n xs) ≡ drop n xs
to_the_end n xs = take_all (length xs - n) (drop n xs) (omega (arith, length-drop n xs))

-- ---- the sum of all units

pub first_cells : {B : ℕ} (g : List (Iv B)) (n : ℕ) (F : Family) → n ≤ length g → GridEncloses g F
    → GridEncloses (take n g) F
first_cells {B} g n F within of_g y inside =
    let e : y < n = omega (arith, inside, length-take n g) in
    subst₂ (λ l h. Holds (F.cells y) F.all (l over 2 ^ B) (h over 2 ^ B)) (sym (low_take g n y e))
    (sym (high_take g n y e)) (of_g y (omega arith))

pub all_units : {B : ℕ} (grids rest : List (List (Iv B))) (first sum g : List (Iv B)) (k : ℕ) (us : List Loss)
    → 1 ≤ length grids → rest ≡ drop 1 grids
    → first ≡ get_or grids 0 first → k ≤ length first → sum ≡ take k first
    → ((ws vs : List Loss) → AreDeclarable ws → AreDeclarable vs → GridEncloses sum (total ws)
    → EncloseEach rest vs → GridEncloses g (total (ws ++ vs)))
    → AreDeclarable us → EncloseEach grids us → GridEncloses g (total us)
all_units [] rest first sum g k us some split is within of_first further w e = absurd (omega arith)
all_units (b ∷ bs) rest first sum g k [] some split is within of_first further w e = absurd (omega (arith, e.as_many))
all_units (b ∷ bs) rest first sum g k (u ∷ us) some split is within of_first further w e =
    further (u ∷ []) us (w.0, tt) w.1
    (subst (λ t. GridEncloses t (total (u ∷ []))) (sym of_first)
    (alone (take k first) u w.0 (first_cells first k u.family within
    (subst (λ t. GridEncloses t u.family) (sym is) (e.each 0 (omega arith))))))
    (subst (λ t. EncloseEach t us) (sym split) (each_after 1 (b ∷ bs) (u ∷ us) e))

-- ---- spreads

pub fold_rises : (S k x y : ℕ) (zs : List ℕ) → 0 < S → x ≤ y → fold (convolution_spread S k) x zs ≤ fold (convolution_spread S k) y zs
fold_rises S k x y [] pos h = h
fold_rises S k x y (z ∷ zs) pos h = fold_rises S k (convolution_spread S k x z) (convolution_spread S k y z) zs pos
    (cv_rises S k k x y z z pos (omega arith) h (omega arith))

-- a grid that begins with the first cells of the first grid
pub all_spread : {B : ℕ} (grids rest : List (List (Iv B))) (first : List (Iv B)) (k x y : ℕ) → 1 ≤ length grids
    → rest ≡ drop 1 grids → first ≡ get_or grids 0 first
    → x ≡ spread (take k first) → y ≤ fold (convolution_spread (2 ^ B) k) x (map spread rest)
    → y ≤ sum_spread (2 ^ B) k (map spread grids)
all_spread [] rest first k x y some split is e h = absurd (omega arith)
all_spread {B} (b ∷ bs) rest first k x y some split is e h =
    omega (
      arith,
      h,
      ap (λ t. fold (convolution_spread (2 ^ B) k) x (map spread t)) split,
      fold_rises (2 ^ B) k x (spread b) (map spread bs) (pow_pos B)
          (omega (arith, e, ap spread is, sum_by-take-le (λ (cell : Iv B). cell.hi - cell.lo) first k)),
    )

-- a sum of some units, and further ones
pub further_spread : (S k x y : ℕ) (zs more : List ℕ) → 0 < S → 1 ≤ length zs → x ≤ sum_spread S k zs
    → y ≤ fold (convolution_spread S k) x more → y ≤ sum_spread S k (zs ++ more)
further_spread S k x y [] more pos some h g = absurd (omega arith)
further_spread S k x y (z ∷ zs) more pos some h g =
    omega (arith, g, fold_rises S k x (fold (convolution_spread S k) z zs) more pos h, fold-append (convolution_spread S k) z zs more)

-- ---- no unit

pub no_units : {B : ℕ} (g : List (Iv B)) → ((x : ℕ) → low_at g x ≡ all_at_zero (2 ^ B) x)
    → ((x : ℕ) → high_at g x ≡ all_at_zero (2 ^ B) x) → GridEncloses g (total [])
unfolding sum_over_outcomes
no_units {B} g low high =
    encloses_same (2 ^ B) (length g) (low_at g) (high_at g) nothing (total []) (λ x N. sym (nowhere x N)) (λ N. refl)
    (all_at_zero_encloses g low high)

-- ---- the sum of all units but one

-- the units before i and those after it
pub both_sides : {B : ℕ} (grids before after : List (List (Iv B))) (sum g : List (Iv B)) (i : ℕ) (us : List Loss)
    → before ≡ take i grids → after ≡ drop (suc i) grids
    → ((vs : List Loss) → AreDeclarable vs → EncloseEach before vs → GridEncloses sum (total vs))
    → ((ws vs : List Loss) → AreDeclarable ws → AreDeclarable vs → GridEncloses sum (total ws)
    → EncloseEach after vs → GridEncloses g (total (ws ++ vs)))
    → AreDeclarable us → EncloseEach grids us → GridEncloses g (total (without us i))
both_sides grids before after sum g i us cut rest first further w e =
    let front = units_first i us w in
    subst (λ t. GridEncloses g (total t)) (sym (without_suc us i))
    (further (take i us) (drop (suc i) us) front (units_after (suc i) us w)
    (first (take i us) front (subst (λ t. EncloseEach t (take i us)) (sym cut) (each_first i grids us e)))
    (subst (λ t. EncloseEach t (drop (suc i) us)) (sym rest) (each_after (suc i) grids us e)))

-- no unit before i
pub after_alone : {B : ℕ} (grids after : List (List (Iv B))) (g : List (Iv B)) (i : ℕ) (us : List Loss) → i ≡ 0
    → after ≡ drop (suc i) grids
    → ((vs : List Loss) → AreDeclarable vs → EncloseEach after vs → GridEncloses g (total vs)) → AreDeclarable us
    → EncloseEach grids us → GridEncloses g (total (without us i))
after_alone grids after g i us none rest all w e =
    subst (λ t. GridEncloses g (total t)) (sym (without_suc us i ∙ ap (λ k. take k us ++ drop (suc i) us) none))
    (all (drop (suc i) us) (units_after (suc i) us w)
    (subst (λ t. EncloseEach t (drop (suc i) us)) (sym rest) (each_after (suc i) grids us e)))

-- no other unit
pub alone_left : {B : ℕ} (grids : List (List (Iv B))) (g : List (Iv B)) (i : ℕ) (us : List Loss) → i ≡ 0
    → length grids ≤ 1
    → GridEncloses g (total []) → EncloseEach grids us → GridEncloses g (total (without us i))
alone_left grids g i us none few of_g e =
    subst (λ t. GridEncloses g (total t)) (sym (without_suc us i ∙ ap (λ k. take k us ++ drop (suc i) us) none
    ∙ drop_all (suc i) us (omega (arith, e.as_many)))) of_g

pub both_spreads : {B : ℕ} (grids before after : List (List (Iv B))) (k i x y : ℕ) → before ≡ take i grids
    → after ≡ drop (suc i) grids → 1 ≤ length before
    → x ≤ sum_spread (2 ^ B) k (map spread before) → y ≤ fold (convolution_spread (2 ^ B) k) x (map spread after)
    → y ≤ sum_spread (2 ^ B) k (map spread (remove grids i))
both_spreads {B} grids before after k i x y cut rest some h g =
    subst (λ t. y ≤ sum_spread (2 ^ B) k (map spread t)) (ap₂ (λ s t. s ++ t) cut rest)
    (subst (λ t. y ≤ sum_spread (2 ^ B) k t) (sym (map-append spread before after))
    (further_spread (2 ^ B) k x y (map spread before) (map spread after) (pow_pos B) (rw length-map some) h g))

pub after_narrow : {B : ℕ} (grids after : List (List (Iv B))) (k i y : ℕ) → i ≡ 0 → after ≡ drop (suc i) grids
    → y ≤ sum_spread (2 ^ B) k (map spread after) → y ≤ sum_spread (2 ^ B) k (map spread (remove grids i))
after_narrow {B} grids after k i y none rest narrow =
    subst (λ t. y ≤ sum_spread (2 ^ B) k (map spread t)) (rest ∙ ap (λ n. take n grids ++ drop (suc i) grids) (sym none))
    narrow

-- the rest of a list of grids after i, as a slice reads it
pub all_within : {B : ℕ} (k : ℕ) (grids : List (List (Iv B))) (i : ℕ) → All (λ t. k ≤ length t) grids
    → All (λ t. k ≤ length t) (take (length grids - i) (drop i grids))
all_within k grids i each = All-take (λ t. k ≤ length t) (length grids - i) (drop i grids)
    (All-drop (λ t. k ≤ length t) i grids each)

-- the units before i, and those after it
pub are_before : {B : ℕ} (k i : ℕ) (grids : List (List (Iv B))) → 1 ≤ k → 0 < i → i < length grids
    → All (λ t. k ≤ length t) grids → AreUnits k (take i grids)
are_before k i grids some before inside each = record {
  units = omega (arith, length-take i grids);
  some = some;
  in_each = All-take (λ t. k ≤ length t) i grids each;
}

pub are_after : {B : ℕ} (k i : ℕ) (grids : List (List (Iv B))) → 1 ≤ k → i < length grids
    → All (λ t. k ≤ length t) grids → AreUnits k (take (length grids - i) (drop i grids))
are_after k i grids some inside each = record {
  units = omega (arith, length-take (length grids - i) (drop i grids), length-drop i grids);
  some = some;
  in_each = all_within k grids i each;
}
