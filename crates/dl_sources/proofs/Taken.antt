-- The grids and means of the units so far.
use Rattle.std.proofs.Common.{Bool, true, false, not, cond, drop}
use Rattle.dl_sources.proofs.Common.{ℕ, suc, ◌≡◌, ◌+◌, ◌<◌, ◌≤◌, List, [], ◌∷◌, ◌++◌, length, get_or, take, arith, refl, sym, ap, subst, ◌∙◌, Iv, UnitOfPlan, AreUnitGrids, AreUnitMeans, IsUnitGrid, IsUnitMean, AreMeansOf, most_unit_mean, length-append, get_or_append_left, get_or_push, get_or_default, take_all, remove, filter, drop-cons, append-nil, take_more, filter_more, all_pushed, each_next, can_share, rest_of}

-- ---- one grid more

pub grids_more : {B : ℕ} (cells : ℕ) (us : List UnitOfPlan) (grids : List (List (Iv B))) (u : UnitOfPlan) (g : List (Iv B))
    → AreUnitGrids cells us grids → IsUnitGrid cells u g → AreUnitGrids cells (us ++ u ∷ []) (grids ++ g ∷ [])
grids_more {B} cells us grids u g each here = record {
  as_many = length-append grids (g ∷ []) ∙ ap (λ n. n + 1) each.as_many ∙ sym (length-append us (u ∷ []));
  each = λ i v inside. each_next (IsUnitGrid cells) (us ++ u ∷ []) grids (grids ++ g ∷ []) (length us) u g each.as_many
      (λ j a r below. earlier j a r below) refl (omega (arith, length-append us (u ∷ [])))
      (sym (get_or_push us u u (length us) refl)) here i v [] (omega (arith, inside, length-append us (u ∷ [])));
}
  where
    earlier : (j : ℕ) (a : UnitOfPlan) (r : List (Iv B)) → j < length us
        → IsUnitGrid cells (get_or (us ++ u ∷ []) j a) (get_or grids j r)
    earlier j a r below =
        subst (λ x. IsUnitGrid cells x (get_or grids j r)) (sym (get_or_append_left us (u ∷ []) a j below))
        (subst (IsUnitGrid cells (get_or us j a)) (get_or_default grids j [] r (omega (arith, below, each.as_many)))
        (each.each j a below))

-- one unit more of a list, where it is kept and where it is not
pub kept_grid : {B : ℕ} (cells : ℕ) (p : UnitOfPlan → Bool) (xs : List UnitOfPlan) (i : ℕ) (u : UnitOfPlan)
    (grids : List (List (Iv B))) (g : List (Iv B)) → i < length xs → u ≡ get_or xs i u → p u ≡ true
    → AreUnitGrids cells (filter p (take i xs)) grids → IsUnitGrid cells u g
    → AreUnitGrids cells (filter p (take (i + 1) xs)) (grids ++ g ∷ [])
kept_grid cells p xs i u grids g inside is keeps each here =
    subst (λ us. AreUnitGrids cells us (grids ++ g ∷ []))
    (sym (filter_more p xs i u inside ∙ ap (λ b. filter p (take i xs) ++ cond b (get_or xs i u ∷ []) [])
    (ap p (sym is) ∙ keeps) ∙ ap (λ t. filter p (take i xs) ++ t ∷ []) (sym is)))
    (grids_more cells (filter p (take i xs)) grids u g each here)

pub left_out : {B : ℕ} (cells : ℕ) (p : UnitOfPlan → Bool) (xs : List UnitOfPlan) (i : ℕ) (u : UnitOfPlan)
    (grids : List (List (Iv B))) → i < length xs → u ≡ get_or xs i u → p u ≡ false
    → AreUnitGrids cells (filter p (take i xs)) grids → AreUnitGrids cells (filter p (take (i + 1) xs)) grids
left_out cells p xs i u grids inside is leaves each =
    subst (λ us. AreUnitGrids cells us grids)
    (sym (filter_more p xs i u inside ∙ ap (λ b. filter p (take i xs) ++ cond b (get_or xs i u ∷ []) [])
    (ap p (sym is) ∙ leaves) ∙ append-nil (filter p (take i xs)))) each

-- the same of all units so far
taken : (xs : List UnitOfPlan) (i : ℕ) (u : UnitOfPlan) → i < length xs → u ≡ get_or xs i u
    → take (i + 1) xs ≡ take i xs ++ u ∷ []
taken xs i u inside is = take_more xs i u inside ∙ ap (λ t. take i xs ++ t ∷ []) (sym is)

pub grids_taken : {B : ℕ} (cells : ℕ) (xs : List UnitOfPlan) (i : ℕ) {u : UnitOfPlan} {grids zs : List (List (Iv B))}
    {g : List (Iv B)} → i < length xs → u ≡ get_or xs i u → AreUnitGrids cells (take i xs) grids → IsUnitGrid cells u g
    → zs ≡ grids ++ g ∷ [] → AreUnitGrids cells (take (i + 1) xs) zs
grids_taken cells xs i {u = u} {grids = grids} {zs = zs} {g = g} inside is each here pushed =
    subst (λ us. AreUnitGrids cells us zs) (sym (taken xs i u inside is))
    (rw pushed (grids_more cells (take i xs) grids u g each here))

-- ---- one mean more

pub means_more : {B : ℕ} (cells : ℕ) (us : List UnitOfPlan) (means : List (Iv B)) (u : UnitOfPlan) (m : Iv B)
    → AreUnitMeans cells us means → IsUnitMean cells u m → AreUnitMeans cells (us ++ u ∷ []) (means ++ m ∷ [])
means_more {B} cells us means u m each here = record {
  as_many = length-append means (m ∷ []) ∙ ap (λ n. n + 1) each.as_many ∙ sym (length-append us (u ∷ []));
  each = λ i v n inside. each_next (IsUnitMean cells) (us ++ u ∷ []) means (means ++ m ∷ []) (length us) u m each.as_many
      earlier refl (omega (arith, length-append us (u ∷ [])))
      (sym (get_or_push us u u (length us) refl)) here i v n (omega (arith, inside, length-append us (u ∷ [])));
}
  where
    earlier : (j : ℕ) (a : UnitOfPlan) (r : Iv B) → j < length us
        → IsUnitMean cells (get_or (us ++ u ∷ []) j a) (get_or means j r)
    earlier j a r below = subst (λ x. IsUnitMean cells x (get_or means j r))
        (sym (get_or_append_left us (u ∷ []) a j below)) (each.each j a r below)

pub means_taken : {B : ℕ} (cells : ℕ) (xs : List UnitOfPlan) (i : ℕ) {u : UnitOfPlan} {means zs : List (Iv B)}
    {m : Iv B} → i < length xs → u ≡ get_or xs i u → AreMeansOf cells (take i xs) means → IsUnitMean cells u m
    → m.hi ≤ most_unit_mean → zs ≡ means ++ m ∷ [] → AreMeansOf cells (take (i + 1) xs) zs
means_taken {B} cells xs i {u = u} {means = means} {zs = zs} {m = m} inside is each here small pushed = record {
  means = subst (λ us. AreUnitMeans cells us zs) (sym (taken xs i u inside is))
      (rw pushed (means_more cells (take i xs) means u m each.means here));
  small = all_pushed (λ (mean : Iv B). mean.hi ≤ most_unit_mean) means zs m each.small pushed small;
}

-- ---- the grids that are left

tail_grids : {B : ℕ} (cells : ℕ) (u : UnitOfPlan) (us : List UnitOfPlan) (grids : List (List (Iv B)))
    → AreUnitGrids cells (u ∷ us) grids → IsUnitGrid cells u (get_or grids 0 []) × AreUnitGrids cells us (remove grids 0)
tail_grids cells u us [] each = absurd (omega (arith, each.as_many))
tail_grids cells u us (g ∷ grids) each = (
  each.each 0 u (omega arith),
  record {
    as_many = omega (arith, each.as_many);
    each = λ i v inside. each.each (suc i) v (omega (arith, inside));
  },
)

module _ {B : ℕ} (cells : ℕ) (xs : List UnitOfPlan) (i : ℕ) {u : UnitOfPlan} {grids : List (List (Iv B))}
    (inside : i < length xs) (is : u ≡ get_or xs i u) (each : AreUnitGrids cells (rest_of (drop i xs)) grids) where
  left : rest_of (drop i xs) ≡ cond (not (can_share u)) (u ∷ rest_of (drop (i + 1) xs)) (rest_of (drop (i + 1) xs))
  left =
      let next : suc i ≡ i + 1 = omega arith in
      ap rest_of (drop-cons xs i u inside ∙ ap (λ t. t ∷ drop (suc i) xs) (sym is) ∙ ap (λ n. u ∷ drop n xs) next)

  -- that of a unit which cannot be pooled is the first
  pub first_left : can_share u ≡ false → IsUnitGrid cells u (get_or grids 0 [])
      × AreUnitGrids cells (rest_of (drop (i + 1) xs)) (remove grids 0)
  first_left stays = tail_grids cells u (rest_of (drop (i + 1) xs)) grids (subst (λ us. AreUnitGrids cells us grids)
      (left ∙ ap (λ b. cond (not b) (u ∷ rest_of (drop (i + 1) xs)) (rest_of (drop (i + 1) xs))) stays) each)

  pub some_left : can_share u ≡ false → 0 < length grids
  some_left stays = omega (
    arith,
    each.as_many,
    ap (λ us. length us)
        (left ∙ ap (λ b. cond (not b) (u ∷ rest_of (drop (i + 1) xs)) (rest_of (drop (i + 1) xs))) stays),
  )

  pub all_left : can_share u ≡ true → AreUnitGrids cells (rest_of (drop (i + 1) xs)) grids
  all_left pooled = subst (λ us. AreUnitGrids cells us grids)
      (left ∙ ap (λ b. cond (not b) (u ∷ rest_of (drop (i + 1) xs)) (rest_of (drop (i + 1) xs))) pooled) each

-- ---- none, and all

pub no_grids : {B : ℕ} (cells : ℕ) {grids : List (List (Iv B))} → grids ≡ [] → AreUnitGrids cells [] grids
no_grids cells none = rw none (record { as_many = refl; each = λ i u inside. absurd (omega (arith, inside)) })

pub no_means : {B : ℕ} (cells : ℕ) {means : List (Iv B)} → means ≡ [] → AreMeansOf cells [] means
no_means cells none = rw none (record {
  means = record { as_many = refl; each = λ i u m inside. absurd (omega (arith, inside)) };
  small = λ k d inside. absurd (omega (arith, inside));
})

pub all_taken : {units slice : List UnitOfPlan} (P : List UnitOfPlan → Type 0) (i : ℕ) → slice ≡ units
    → length slice ≤ i → P (take i slice) → P units
all_taken {slice = slice} P i same end each = subst P (take_all i slice end ∙ same) each
