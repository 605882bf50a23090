-- A number that is computed where it fits.
use Rattle.dl_grid.proofs.Common.{ℕ, ◌≡◌, ◌∙◌, refl, Option, Some, None, IfSome, IsSome, SomeIff}

pub some_is : (r : Option ℕ) (P : Type 0) (v w : ℕ) → SomeIff r P v → v ≡ w → IfSome r (λ x. x ≡ w)
some_is None P v w h e = tt
some_is (Some x) P v w h e = h.1 ∙ e

-- and where it fits it is told
pub is_told : (r : Option ℕ) (P : Type 0) (v : ℕ) → SomeIff r P v → P → IsSome r
is_told None P v h p = absurd (h p)
is_told (Some x) P v h p = refl
