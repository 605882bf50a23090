-- Where no part has an answer.
use Rattle.std.proofs.Common.{◌≡◌, List, [], ◌∷◌, Option, Some, None, Bool, true, false, refl}
use Rattle.std.specs.List.{All}
use Rattle.std.proofs.lemmas.List.Elements.{All-nil, All-cons}
use Rattle.dl_lexer.specs.declared.token.Span.{Span}
use Rattle.dl_reading.specs.First.{◌else◌, at_if, first_in}

pub else_first : {A : Type 0} (x y : Option A) → (x else y) ≡ None → x ≡ None
else_first None y e = refl
else_first (Some x) y e = e

pub else_second : {A : Type 0} (x y : Option A) → (x else y) ≡ None → y ≡ None
else_second None y e = e
else_second (Some x) y e = absurd (cc)

module _ {A B : Type 0} (f : A → Option B) where
  pub none_each : (xs : List A) → first_in f xs ≡ None → All (λ x. f x ≡ None) xs
  unfolding first_in
  none_each [] e = All-nil (λ x. f x ≡ None)
  none_each (x ∷ xs) e = All-cons (λ y. f y ≡ None) x xs (else_first (f x) (first_in f xs) e)
      (none_each xs (else_second (f x) (first_in f xs) e))

pub not_at : (b : Bool) (span : Span) → at_if b span ≡ None → b ≡ false
not_at true span e = absurd (cc)
not_at false span e = refl
