-- The first answer in a list that is made of others, and in the items that a loop reads in order.
use Rattle.std.proofs.Common.{Bool, inl, inr, ◌≡◌, ℕ, ◌<◌, ◌≤◌, List, [], ◌∷◌, ◌++◌, map, length, get_or, Option, Some, None, true, false, refl, sym, ap, subst, ◌∙◌, arith, nat_lt}
use Rattle.std.specs.List.{All}
use Rattle.std.proofs.lemmas.List.{get_or-map, length-map}
use Rattle.std.proofs.lemmas.Bool.Decides.{nat_tests}
use Rattle.dl_lexer.specs.declared.token.Span.{Span}
use Rattle.dl_reading.specs.First.{◌else◌, at_if, first_in}
use Rattle.std.proofs.lemmas.Bool.{cases_Bool}
use Rattle.std.specs.List.{find}
use Rattle.std.specs.Option.{option_map, option_or}

-- ---- lists made of others

pub else_assoc : {A : Type 0} (x y z : Option A) → ((x else y) else z) ≡ (x else (y else z))
else_assoc None y z = refl
else_assoc (Some x) y z = refl

pub or_is : {A : Type 0} (x y : Option A) → option_or x y ≡ (x else y)
or_is None y = refl
or_is (Some x) y = refl

pub first-append : {A B : Type 0} (f : A → Option B) (xs ys : List A)
    → first_in f (xs ++ ys) ≡ (first_in f xs else first_in f ys)
unfolding first_in
first-append f [] ys = refl
first-append f (x ∷ xs) ys = ap (λ o. f x else o) (first-append f xs ys)
    ∙ sym (else_assoc (f x) (first_in f xs) (first_in f ys))

-- what holds of all that is made of items holds of what is made of each
pub from_map : {A B : Type 0} (P : B → Type 0) (f : A → B) (xs : List A) → All P (map f xs) → All (λ x. P (f x)) xs
from_map P f xs all k d h =
    subst P (get_or-map f xs k d (f d) h) (all k (f d) (omega (arith, h, length-map xs f)))

pub else_none : {A : Type 0} (x : Option A) → (x else None) ≡ x
else_none None = refl
else_none (Some x) = refl

-- the first item that passes a test
pub find_first : {A : Type 0} (p : A → Bool) (span : A → Span) (xs : List A)
    → option_map span (find p xs) ≡ first_in (λ x. at_if (p x) (span x)) xs
unfolding first_in
find_first p span [] = refl
find_first p span (x ∷ xs) = elim (cases_Bool (p x)) [
  | inl e ↦ rw e refl
  | inr e ↦ rw e (find_first p span xs)
]

-- what holds of each item holds of the one that is read
pub at_item : {A : Type 0} (P : A → Type 0) (xs zs : List A) (i : ℕ) (x : A) → zs ≡ xs → All P xs → i < length zs
    → x ≡ get_or zs i x → P x
at_item P xs zs i x same all lt is = subst P (sym is) (subst (λ ys. All P ys) (sym same) all i x lt)

pub passes_limit : (k n : ℕ) (p : Span) → k < n → Some p ≡ at_if (nat_lt k n) p
passes_limit k n p h = let e : nat_lt k n ≡ true = grind (arith, nat_tests, h) in ap (λ b. at_if b p) (sym e)

pub keeps_limit : (k n : ℕ) (p : Span) → n ≤ k → None ≡ at_if (nat_lt k n) p
keeps_limit k n p h = let e : nat_lt k n ≡ false = grind (arith, nat_tests, h) in ap (λ b. at_if b p) (sym e)
