-- The first part that breaks a rule, and the first rule that is broken.
use Rattle.std.specs.Prelude.{Bool, true, false, List, [], ◌∷◌, ◌++◌, Option, Some, None}
use Rattle.dl_lexer.specs.declared.token.Span.{Span}

infixr 6 ◌else◌
-- the first place, where there is one, and else the second
abbrev pub ◌else◌ : {A : Type 0} → Option A → Option A → Option A
(Some x) else y = Some x
None else y = y

-- the place, where the test passes
abbrev pub at_if : Bool → Span → Option Span
at_if true span = Some span
at_if false span = None

-- the place in a part that may be missing
abbrev pub within : {A B : Type 0} → (A → Option B) → Option A → Option B
within f None = None
within f (Some x) = f x

-- the place in the first part of a list that has one
unfoldable pub first_in : {A B : Type 0} → (A → Option B) → List A → Option B
first_in f [] = None
first_in f (x ∷ xs) = f x else first_in f xs

-- the same, where a part is looked at beside those before it
unfoldable pub in_turn : {A B : Type 0} → (List A → A → Option B) → List A → List A → Option B
in_turn f seen [] = None
in_turn f seen (x ∷ xs) = f seen x else in_turn f (seen ++ x ∷ []) xs
