-- Lists that a loop makes of the items that it reads in turn.
use Rattle.dl_reading.proofs.Common.{ℕ, Bool, true, false, not, cond, ◌||◌, filter, map-append, ◌≡◌, ◌∙◌, ◌+◌, ◌<◌, List, [], ◌∷◌, ◌++◌, map, flat_map, length, take, get_or, sym, ap, ap₂, append_assoc, map_more, take_more, flat_map_more, filter_more}

-- what is made of one item more, put behind
pub mapped_next : {A B : Type 0} (base : List B) (f : A → B) (xs : List A) (i : ℕ) (x : A) {made new : List B}
    {y : B} → i < length xs → x ≡ get_or xs i x → made ≡ base ++ map f (take i xs) → new ≡ made ++ y ∷ [] → y ≡ f x
    → new ≡ base ++ map f (take (i + 1) xs)
mapped_next base f xs i x lt at before pushed is =
    pushed ∙ ap₂ (λ ys y. ys ++ y ∷ []) before is ∙ append_assoc base (map f (take i xs)) (f x ∷ [])
    ∙ ap (λ ys. base ++ ys) (ap (λ y. map f (take i xs) ++ f y ∷ []) at ∙ sym (map_more f xs i x lt))

-- the list that is made of one item more, put behind
pub joined_next : {A B : Type 0} (f : A → List B) (xs : List A) (i : ℕ) (x : A) {made new : List B}
    → i < length xs → x ≡ get_or xs i x → made ≡ flat_map f (take i xs) → new ≡ made ++ f x
    → new ≡ flat_map f (take (i + 1) xs)
joined_next f xs i x lt at before pushed =
    pushed ∙ ap (λ ys. ys ++ f x) before ∙ flat_map_more f [] (take i xs) x
    ∙ ap (flat_map f) (ap (λ y. take i xs ++ y ∷ []) at ∙ sym (take_more xs i x lt))

-- one number more, where all count, or only those that pass a test
module _ (f : ℕ → ℕ) (p : ℕ → Bool) (xs : List ℕ) (i : ℕ) (lt : i < length xs) where
  abbrev counted : Bool → ℕ → List ℕ
  counted large n = cond large (filter p (take n xs)) (take n xs)

  counted_more : (large b : Bool) → (not large || p (get_or xs i 0)) ≡ b
      → counted large (i + 1) ≡ counted large i ++ cond b (get_or xs i 0 ∷ []) []
  counted_more true b is = filter_more p xs i 0 lt ∙ ap (λ t. filter p (take i xs) ++ cond t (get_or xs i 0 ∷ []) []) is
  counted_more false b is = take_more xs i 0 lt ∙ ap (λ t. take i xs ++ cond t (get_or xs i 0 ∷ []) []) is

  pub counted_next : (large b : Bool) {made new : List ℕ} → (not large || p (get_or xs i 0)) ≡ b
      → made ≡ map f (counted large i) → new ≡ made ++ map f (cond b (get_or xs i 0 ∷ []) [])
      → new ≡ map f (counted large (i + 1))
  counted_next large b is before pushed =
      pushed ∙ ap (λ ys. ys ++ map f (cond b (get_or xs i 0 ∷ []) [])) before
      ∙ sym (ap (map f) (counted_more large b is) ∙ map-append f (counted large i) (cond b (get_or xs i 0 ∷ []) []))
