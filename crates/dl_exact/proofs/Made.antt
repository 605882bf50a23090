-- Lists made one by one from another list.
use Rattle.std.specs.Prelude.{All, Any, Bool, IfSome, IsSome, None, Option, zip}
use Rattle.std.proofs.Common.{refl, true, false, IsTrue, ◌++◌, length, get_or}
use Rattle.dl_exact.proofs.Common.{ℕ, zero, suc, ◌≡◌, ◌+◌, ◌<◌, List, [], ◌∷◌, arith, inl, inr, sym, ap, ◌∙◌, cases_lt, then_some, get_or_append_left, get_or_default, get_or_push, length-append, All-append, All-cons, All-nil}

-- one item more
pub pushed_length : {R : Type 0} (ys zs : List R) (i : ℕ) (y : R) → length ys ≡ i → zs ≡ ys ++ y ∷ []
    → length zs ≡ i + 1
pushed_length ys zs i y many pushed = ap (λ t. length t) pushed ∙ length-append ys (y ∷ []) ∙ omega (arith, many)

-- one more
pub each_next : {A R : Type 0} (P : A → R → Type 0) (xs : List A) (ys zs : List R) (i : ℕ) (x : A) (y : R)
    → length ys ≡ i
    → ((j : ℕ) (a : A) (r : R) → j < i → P (get_or xs j a) (get_or ys j r)) → zs ≡ ys ++ y ∷ [] → i < length xs
    → x ≡ get_or xs i x → P x y
    → (j : ℕ) (a : A) (r : R) → j < i + 1 → P (get_or xs j a) (get_or zs j r)
each_next P xs ys zs i x y many before pushed inside is here j a r below = elim (cases_lt j i) [
  | inl earlier ↦ rw (pushed, get_or_append_left ys (y ∷ []) r j (omega (arith, earlier, many))) (before j a r earlier)
  | inr later ↦
      let last : j ≡ i = omega (arith, later, below) in
      let same : x ≡ get_or xs j a = is ∙ get_or_default xs i x a inside ∙ ap (λ k. get_or xs k a) (sym last) in
      rw (← same, pushed, get_or_push ys y r j (omega (arith, last, many))) here
]

-- each has it at its place, and one more
pub each_pushed : {R : Type 0} (P : ℕ → R → Type 0) (ys zs : List R) (i : ℕ) (y d : R) → length ys ≡ i
    → ((k : ℕ) → k < i → P k (get_or ys k d)) → zs ≡ ys ++ y ∷ [] → P i y
    → (k : ℕ) → k < i + 1 → P k (get_or zs k d)
each_pushed P ys zs i y d many before pushed here k below = elim (cases_lt k i) [
  | inl earlier ↦ rw (pushed, get_or_append_left ys (y ∷ []) d k (omega (arith, earlier, many))) (before k earlier)
  | inr later ↦
      let last : k ≡ i = omega (arith, later, below) in
      rw (pushed, get_or_push ys y d k (omega (arith, last, many)), last) here
]

-- a value that is there in one case alone
pub some_where : {A : Type 0} (P : A → Type 0) (b : Bool) (x : A) → (IsTrue b → P x) → IfSome (then_some b x) P
some_where P true x h = h refl
some_where P false x h = tt

-- one of them has it
pub any_here : {A : Type 0} (P : A → Type 0) (xs : List A) (k : ℕ) (d : A) → k < length xs
    → P (get_or xs k d) → Any P xs
any_here P xs k d inside here = (k, get_or xs k d, inside, get_or_default xs k (get_or xs k d) d inside, here)

-- all have it, and one more
pub all_pushed : {R : Type 0} (P : R → Type 0) (ys zs : List R) (y : R) → All P ys → zs ≡ ys ++ y ∷ [] → P y → All P zs
all_pushed P ys zs y all pushed here = rw pushed (All-append P ys (y ∷ []) all (All-cons P y [] here (All-nil P)))

-- all of them
pub all_pairs : {A R : Type 0} (P : A → R → Type 0) (xs : List A) (ys : List R) → length ys ≡ length xs
    → ((j : ℕ) (a : A) (r : R) → j < length xs → P (get_or xs j a) (get_or ys j r))
    → All (λ pair. P pair.0 pair.1) (zip xs ys)
all_pairs P [] ys same each k d inside = absurd (omega (arith, inside))
all_pairs P (x ∷ xs) [] same each k d inside = absurd (omega (arith, same))
all_pairs P (x ∷ xs) (y ∷ ys) same each zero d inside = each 0 x y (omega arith)
all_pairs P (x ∷ xs) (y ∷ ys) same each (suc k) d inside =
    all_pairs P xs ys (omega (arith, same)) (λ j a r below. each (suc j) a r (omega (arith, below))) k d
    (omega (arith, inside))

-- what is there has a place in the list
pub some_inside : {A : Type 0} (xs : List (Option A)) (i : ℕ) → IsSome (get_or xs i None) → i < length xs
some_inside [] i some = absurd cc
some_inside (x ∷ xs) zero some = omega arith
some_inside (x ∷ xs) (suc i) some = omega (arith, some_inside xs i some)
