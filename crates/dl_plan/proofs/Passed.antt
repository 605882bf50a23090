-- The lists that a loop has made after one item more, and at its end.
use Rattle.dl_plan.proofs.Common.{ℕ, ◌≡◌, ◌∙◌, ◌+◌, ◌<◌, ◌≤◌, List, [], ◌∷◌, ◌++◌, length, map, get_or, take, ap, ap₂, sym, nat_tests, map_more, take_all, filter_more, Item}
use Rattle.std.proofs.Common.{true, false, arith, refl, append-nil}
use Rattle.std.specs.Prelude.{nat_lt, filter}

pub mapped_more : {X Y : Type 0} (f : X → Y) (xs : List X) (ys new : List Y) (i : ℕ) (x : X) → i < length xs
    → x ≡ get_or xs i x → ys ≡ map f (take i xs) → new ≡ ys ++ f x ∷ [] → new ≡ map f (take (i + 1) xs)
mapped_more {Y = Y} f xs ys new i x h is so_far pushed =
    pushed ∙ ap₂ (λ (zs : List Y) (y : Y). zs ++ y ∷ []) so_far (ap f is) ∙ sym (map_more f xs i x h)

pub made_of_all : {X Z : Type 0} (F : List X → Z) (xs : List X) (z : Z) (i : ℕ) → length xs ≤ i → z ≡ F (take i xs)
    → z ≡ F xs
made_of_all F xs z i h so_far = so_far ∙ ap F (take_all i xs h)

-- one item more, which is kept where its amount is above another
module _ (n : ℕ) (xs : List Item) (kept new : List Item) (i : ℕ) (d : Item) (h : i < length xs)
    (so_far : kept ≡ filter (λ (item : Item). nat_lt n item.amount) (take i xs)) where
  pub above_more : n < (get_or xs i d).amount → new ≡ kept ++ get_or xs i d ∷ []
      → new ≡ filter (λ (item : Item). nat_lt n item.amount) (take (i + 1) xs)
  above_more above pushed =
      let is : nat_lt n (get_or xs i d).amount ≡ true = grind (arith, nat_tests) in
      pushed ∙ rw (so_far, filter_more (λ (item : Item). nat_lt n item.amount) xs i d h, is) refl

  pub others_left : (get_or xs i d).amount ≤ n → kept ≡ filter (λ (item : Item). nat_lt n item.amount) (take (i + 1) xs)
  others_left below =
      let is : nat_lt n (get_or xs i d).amount ≡ false = grind (arith, nat_tests) in
      rw (so_far, filter_more (λ (item : Item). nat_lt n item.amount) xs i d h, is, append-nil) refl
