-- Products of lists by halves.
use Rattle.dl_halves.proofs.Common.{ℕ, zero, suc, ◌≡◌, ◌+◌, ◌-◌, ◌*◌, ◌<◌, ◌≤◌, List, [], ◌∷◌, length, get_or, take, drop, arith, refl, sym, subst, ap, ap₂, inl, inr, ◌∙◌, min, get_or-eq_default, cases_lt, length-take, length-drop, get_or-take, count_below, count_pairs, below_none, below_same, below_pairs, pairs_same, IsSame, pair_sum, pairs_plus}
use Rattle.dl_halves.proofs.Same.{same, same_sym, same_then, same_plus, same_off}

-- how many products a column of a block has
abbrev pub column_size : ℕ → ℕ
column_size s = min 32 (s + 1) - (s + 1 - 32)

pub block_size : (n : ℕ) → n ≡ 64 → count_below n column_size ≡ 1024
unfolding count_below
block_size n e = ap (λ k. count_below k column_size) e

-- ---- sums over pairs of places, of sequences of numbers

abbrev prod : (ℕ → ℕ) → (ℕ → ℕ) → ℕ → ℕ
prod f g s = count_pairs s (λ i j. f i * g j)

-- a sequence one place later, and h places later
unfoldable later : (ℕ → ℕ) → ℕ → ℕ
later f zero = 0
later f (suc i) = f i

unfoldable shift : ℕ → (ℕ → ℕ) → ℕ → ℕ
shift zero f i = f i
shift (suc h) f i = later (shift h f) i

later_same : (f g : ℕ → ℕ) (s : ℕ) → ((t : ℕ) → f t ≡ g t) → later f s ≡ later g s
unfolding later
later_same f g zero h = refl
later_same f g (suc s) h = h s

shift_below : (h : ℕ) (f : ℕ → ℕ) (i : ℕ) → i < h → shift h f i ≡ 0
unfolding shift later
shift_below zero f i inside = absurd (omega arith)
shift_below (suc h) f zero inside = refl
shift_below (suc h) f (suc i) inside = shift_below h f i (omega arith)

shift_past : (h : ℕ) (f : ℕ → ℕ) (k i : ℕ) → i ≡ h + k → shift h f i ≡ f k
unfolding shift later
shift_past zero f k i e = ap f (omega arith)
shift_past (suc h) f k zero e = absurd (omega arith)
shift_past (suc h) f k (suc i) e = shift_past h f k i (omega arith)

shift_twice_below : (h : ℕ) (f : ℕ → ℕ) (i : ℕ) → i < 2 * h → shift h (shift h f) i ≡ 0
shift_twice_below h f i inside = elim (cases_lt i h) [
  | inl near ↦ shift_below h (shift h f) i near
  | inr far ↦ shift_past h (shift h f) (i - h) i (omega (arith, far))
      ∙ shift_below h f (i - h) (omega (arith, inside, far))
]

shift_twice_past : (h : ℕ) (f : ℕ → ℕ) (k i : ℕ) → i ≡ 2 * h + k → shift h (shift h f) i ≡ f k
shift_twice_past h f k i e = shift_past h (shift h f) (h + k) i (omega arith) ∙ shift_past h f k (h + k) refl

first_later : (s : ℕ) (f g : ℕ → ℕ) → prod (later f) g s ≡ later (prod f g) s
unfolding later count_pairs
first_later zero f g = omega arith
first_later (suc s) f g = omega arith

second_later : (s : ℕ) (f g : ℕ → ℕ) → prod f (later g) s ≡ later (prod f g) s
unfolding later count_pairs
second_later zero f g = omega arith
second_later (suc zero) f g = omega arith
second_later (suc (suc s)) f g = ap (λ t. f zero * g (suc s) + t) (second_later (suc s) (λ i. f (suc i)) g)

first_shift : (h s : ℕ) (f g : ℕ → ℕ) → prod (shift h f) g s ≡ shift h (prod f g) s
unfolding shift
first_shift zero s f g = refl
first_shift (suc h) s f g = first_later s (shift h f) g
    ∙ later_same (prod (shift h f) g) (shift h (prod f g)) s (λ t. first_shift h t f g)

second_shift : (h s : ℕ) (f g : ℕ → ℕ) → prod f (shift h g) s ≡ shift h (prod f g) s
unfolding shift
second_shift zero s f g = refl
second_shift (suc h) s f g = second_later s f (shift h g)
    ∙ later_same (prod f (shift h g)) (shift h (prod f g)) s (λ t. second_shift h t f g)

shift_same : (h : ℕ) (f g : ℕ → ℕ) (s : ℕ) → ((t : ℕ) → f t ≡ g t) → shift h f s ≡ shift h g s
unfolding shift
shift_same zero f g s e = e s
shift_same (suc h) f g s e = later_same (shift h f) (shift h g) s (λ t. shift_same h f g t e)

-- the product of two sums
parts : (f u g v : ℕ → ℕ) (s : ℕ) → prod (λ i. f i + u i) (λ j. g j + v j) s
    ≡ prod f g s + (prod f v s + prod u g s) + prod u v s
parts f u g v s =
    pairs_same s (λ i j. (f i + u i) * (g j + v j)) (λ i j. f i * g j + (f i * v j + u i * g j) + u i * v j)
    (λ i j. omega arith)
    ∙ pairs_plus s (λ i j. f i * g j + (f i * v j + u i * g j)) (λ i j. u i * v j)
    ∙ ap (λ t. t + prod u v s) (pairs_plus s (λ i j. f i * g j) (λ i j. f i * v j + u i * g j)
    ∙ ap (λ t. prod f g s + t) (pairs_plus s (λ i j. f i * v j) (λ i j. u i * g j)))

abbrev cross : (ℕ → ℕ) → (ℕ → ℕ) → (ℕ → ℕ) → (ℕ → ℕ) → ℕ → ℕ
cross f u g v t = prod f v t + prod u g t

shift_plus : (h : ℕ) (f g : ℕ → ℕ) (s : ℕ) → shift h (λ t. f t + g t) s ≡ shift h f s + shift h g s
unfolding shift later
shift_plus zero f g s = refl
shift_plus (suc h) f g zero = refl
shift_plus (suc h) f g (suc s) = shift_plus h f g s

-- a product of sequences whose later parts begin at h
by_halves : (h s : ℕ) (f u g v : ℕ → ℕ)
    → prod (λ i. f i + shift h u i) (λ j. g j + shift h v j) s ≡ prod f g s + shift h (cross f u g v) s + shift h
    (shift h (prod u v)) s
by_halves h s f u g v =
    let outer = first_shift h s u (shift h v) ∙ shift_same h (prod u (shift h v)) (shift h (prod u v)) s
    (λ t. second_shift h t u v) in
    let sum = shift_plus h (prod f v) (prod u g) s in
    let middle : prod f (shift h v) s + prod (shift h u) g s ≡ shift h (cross f u g v) s =
    omega (arith, second_shift h s f v, first_shift h s u g, sum) in
    parts f (shift h u) g (shift h v) s ∙ ap₂ (λ x y. prod f g s + x + y) middle outer

shift_nothing : (h i : ℕ) → 0 + shift h (λ k. 0) i ≡ 0
unfolding shift later
shift_nothing zero i = refl
shift_nothing (suc h) zero = refl
shift_nothing (suc h) (suc i) = shift_nothing h i

-- a list by its halves
halves_at : (h : ℕ) (xs : List ℕ) (i : ℕ) → get_or xs i 0
    ≡ get_or (take h xs) i 0 + shift h (λ k. get_or (drop h xs) k 0) i
unfolding shift later
halves_at zero xs i = omega arith
halves_at (suc h) [] zero = refl
halves_at (suc h) [] (suc i) = sym (shift_nothing h i)
halves_at (suc h) (x ∷ xs) zero = omega arith
halves_at (suc h) (x ∷ xs) (suc i) = halves_at h xs i

-- the product of the sums, without the products of the halves
pub taken_off : (without rest low high middle l h m : ℕ) → IsSame (without + low) middle → IsSame (rest + high) without
    → low ≡ l → high ≡ h → middle ≡ m
    → IsSame (rest + (l + h)) m
taken_off without rest low high middle l h m first second e f k =
    same_then (same _ _ (omega (arith, e, f))) (same_then (same_plus second (same low low refl))
    (same_then first (same middle m k)))

-- two sequences that are 0 from h on have no products at places from 2 * h on
prod_past : (h s : ℕ) (f g : ℕ → ℕ) → 2 * h ≤ s → ((i : ℕ) → h ≤ i → f i ≡ 0) → ((j : ℕ) → h ≤ j → g j ≡ 0)
    → prod f g s ≡ 0
prod_past h s f g past first second =
    sym (below_pairs s (λ i j. f i * g j)) ∙ below_none (suc s) (λ i. f i * g (s - i)) (λ i b. elim (cases_lt i h) [
      | inl under ↦ rw (second (s - i) (omega (arith, under))) (omega arith)
      | inr over ↦ rw (first i over) (omega arith)
    ])

front_past : (h : ℕ) (xs : List ℕ) (i : ℕ) → h ≤ i → get_or (take h xs) i 0 ≡ 0
front_past h xs i past = get_or-eq_default (take h xs) 0 {n = i} (omega (arith, length-take h xs))

back_past : (h : ℕ) (xs : List ℕ) (i : ℕ) → length xs ≤ 2 * h → h ≤ i → get_or (drop h xs) i 0 ≡ 0
back_past h xs i long past = get_or-eq_default (drop h xs) 0 {n = i} (omega (arith, length-drop h xs))

-- ---- the product of two lists a and b of 2 * h items from three products of lists of h items

abbrev pub item : List ℕ → ℕ → ℕ
item xs i = get_or xs i 0

by_pieces : (h : ℕ) (a b : List ℕ) (s : ℕ) → pair_sum a b s
    ≡ pair_sum (take h a) (take h b) s + shift h
    (cross (item (take h a)) (item (drop h a)) (item (take h b)) (item (drop h b))) s
    + shift h (shift h (pair_sum (drop h a) (drop h b))) s
by_pieces h a b s =
    pairs_same s (λ i j. item a i * item b j)
    (λ i j. (item (take h a) i + shift h (item (drop h a)) i) * (item (take h b) j + shift h (item (drop h b)) j))
    (λ i j. ap₂ (λ u v. u * v) (halves_at h a i) (halves_at h b j))
    ∙ by_halves h s (item (take h a)) (item (drop h a)) (item (take h b)) (item (drop h b))

-- ---- the first places of a product

pub short_first : (h s : ℕ) (a b : List ℕ) → s < h → pair_sum a b s ≡ pair_sum (take h a) (take h b) s
short_first h s a b inside =
    omega (
      arith,
      by_pieces h a b s,
      shift_below h (cross (item (take h a)) (item (drop h a)) (item (take h b)) (item (drop h b))) s inside,
      shift_below h (shift h (pair_sum (drop h a) (drop h b))) s inside,
    )

-- a sum of products at places that add up to t asks for the places up to t alone
prod_same : (t : ℕ) (f g u v : ℕ → ℕ) → ((i : ℕ) → i ≤ t → f i ≡ u i) → ((j : ℕ) → j ≤ t → g j ≡ v j)
    → prod f g t ≡ prod u v t
prod_same t f g u v e h =
    sym (below_pairs t (λ i j. f i * g j))
    ∙ below_same (suc t) (λ i. f i * g (t - i)) (λ i. u i * v (t - i))
    (λ i b. ap₂ (λ x y. x * y) (e i (omega arith)) (h (t - i) (omega arith)))
    ∙ below_pairs t (λ i j. u i * v j)

pub short_later : (h t : ℕ) (a b : List ℕ) → t < h
    → pair_sum a b (h + t) ≡ pair_sum (take h a) (take h b) (h + t) +
    (pair_sum (drop h a) b t + pair_sum a (drop h b) t)
short_later h t a b inside =
    omega (
      arith,
      by_pieces h a b (h + t),
      shift_past h (cross (item (take h a)) (item (drop h a)) (item (take h b)) (item (drop h b))) t (h + t) refl,
      shift_past h (shift h (pair_sum (drop h a) (drop h b))) t (h + t) refl,
      shift_below h (pair_sum (drop h a) (drop h b)) t inside,
      prod_same t (item (take h a)) (item (drop h b)) (item a) (item (drop h b))
          (λ i b. get_or-take h a i 0 (omega arith)) (λ j b. refl),
      prod_same t (item (drop h a)) (item (take h b)) (item (drop h a)) (item b) (λ i b. refl)
          (λ j c. get_or-take h b j 0 (omega arith)),
    )

-- what the halves' products, and that of the sums without them, are
pub record AreThree (h : ℕ) (a b low high middle : List ℕ) : Type 0 where
  pub first : (t : ℕ) → t < 2 * h → IsSame (item low t) (pair_sum (take h a) (take h b) t)
  pub second : (t : ℕ) → t < 2 * h → IsSame (item high t) (pair_sum (drop h a) (drop h b) t)
  pub rest : (t : ℕ) → t < 2 * h
      → IsSame (item middle t + (item low t + item high t))
      (prod (λ i. item (take h a) i + item (drop h a) i) (λ j. item (take h b) j + item (drop h b) j) t)

module _ (h : ℕ) (a b low high middle : List ℕ) (long_a : length a ≤ 2 * h) (long_b : length b ≤ 2 * h)
    (three : AreThree h a b low high middle) where
  abbrev crossed : ℕ → ℕ
  crossed t = cross (item (take h a)) (item (drop h a)) (item (take h b)) (item (drop h b)) t

  whole : (s : ℕ) → pair_sum a b s
      ≡ pair_sum (take h a) (take h b) s + shift h crossed s + shift h (shift h (pair_sum (drop h a) (drop h b))) s
  whole s = by_pieces h a b s

  middle_is : (t : ℕ) → t < 2 * h → IsSame (item middle t) (crossed t)
  middle_is t inside =
      let all = parts (item (take h a)) (item (drop h a)) (item (take h b)) (item (drop h b)) t in
      let sum : IsSame (item low t + item high t)
      (pair_sum (take h a) (take h b) t + pair_sum (drop h a) (drop h b) t) =
      same_plus (three.first t inside) (three.second t inside) in
      same_off (item middle t) (crossed t) (item low t + item high t) (
      same_then (three.rest t inside) (same_then (same _ _ (all ∙ turn _ _ _))
      (same_plus (same (crossed t) (crossed t) refl) (same_sym sum))))
    where
      turn : (x y z : ℕ) → x + y + z ≡ y + (x + z)
      turn x y z = omega arith

  crossed_past : (t : ℕ) → 2 * h ≤ t → crossed t ≡ 0
  crossed_past t past =
      omega (
        arith,
        prod_past h t (item (take h a)) (item (drop h b)) past (front_past h a) (λ j. back_past h b j long_b),
        prod_past h t (item (drop h a)) (item (take h b)) past (λ i. back_past h a i long_a) (front_past h b),
      )

  -- what was written: the halves' products side by side, and the middle added from h on
  module _ (before after : List ℕ) (left : (t : ℕ) → t < 2 * h → item before t ≡ item low t)
      (right : (t : ℕ) → t < 2 * h → item before (2 * h + t) ≡ item high t)
      (added : (t : ℕ) → t < 2 * h → IsSame (item after (h + t)) (item before (h + t) + item middle t))
      (first : (s : ℕ) → s < h → item after s ≡ item before s)
      (last : (s : ℕ) → h + 2 * h ≤ s → item after s ≡ item before s) where
    -- the halves' products side by side
    sides : (s : ℕ) → s < 4 * h → IsSame (item before s)
        (pair_sum (take h a) (take h b) s + shift h (shift h (pair_sum (drop h a) (drop h b))) s)
    sides s inside = elim (cases_lt s (2 * h)) [
      | inl p ↦
          let none = shift_twice_below h (pair_sum (drop h a) (drop h b)) s p in
          same_then (same _ _ (left s p)) (same_then (three.first s p) (same _ _ (omega (arith, none))))
      | inr p ↦
          let t = s - 2 * h in
          let place : 2 * h + t ≡ s = omega (arith, p) in
          let none = prod_past h s (item (take h a)) (item (take h b)) p (front_past h a) (front_past h b) in
          let over = shift_twice_past h (pair_sum (drop h a) (drop h b)) t s (sym place) in
          same_then (same _ _ (ap (item before) (sym place) ∙ right t (omega (arith, p, inside))))
          (same_then (three.second t (omega (arith, p, inside))) (same _ _ (omega (arith, none, over))))
    ]

    -- and the middle on them
    with_middle : (s : ℕ) → s < 4 * h → IsSame (item after s) (item before s + shift h crossed s)
    with_middle s inside = elim (cases_lt s h) [
      | inl p ↦ same _ _ (omega (arith, first s p, shift_below h crossed s p))
      | inr p ↦
          let t = s - h in
          let place : h + t ≡ s = omega (arith, p) in
          elim (cases_lt t (2 * h)) [
            | inl q ↦ subst (λ k. IsSame (item after k) (item before k + shift h crossed k)) place
                (same_then (added t q) (same_plus (same (item before (h + t)) (item before (h + t)) refl)
                (same_then (middle_is t q) (same _ _ (sym (shift_past h crossed t (h + t) refl))))))
            | inr q ↦ same _ _ (omega (
              arith,
              last s (omega (arith, p, q)),
              shift_past h crossed t s (sym place),
              crossed_past t q,
            ))
          ]
    ]

    pub joined : (s : ℕ) → s < 4 * h → IsSame (item after s) (pair_sum a b s)
    joined s inside =
        same_then (with_middle s inside)
        (same_then (same_plus (sides s inside) (same (shift h crossed s) (shift h crossed s) refl))
        (same _ _ (omega (arith, whole s))))
