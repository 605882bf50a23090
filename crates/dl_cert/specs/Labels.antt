-- Labels: how often each unit is a factor of a product of families.
use Rattle.std.specs.Prelude.{ℕ, zero, suc, ◌+◌, nat_eq, List, [], ◌∷◌, if◌then◌else◌}
use Rattle.dl_exact.specs.Fraction.{Fraction, whole, ◌<ℚ◌}
use Rattle.dl_model.specs.Prelude.{IsBound, Family, product, nothing, times_itself, IsProper}

-- a count for each unit, by its number
abbrev pub Label : Type 0
Label = ℕ → ℕ

-- no unit
abbrev pub no_unit : Label
no_unit i = 0

-- unit u once
abbrev pub once : ℕ → Label
once u i = if nat_eq i u then 1 else 0

-- the sum of two labels
abbrev pub together : Label → Label → Label
together a b i = a i + b i

-- the outcome of each family as often as the label counts it, all independent and added up
unfoldable pub labelled : List Family → Label → Family
labelled [] label = nothing
labelled (F ∷ Fs) label =
    product (times_itself F (label zero)) (labelled Fs (λ i. label (suc i)))

-- a proper family whose whole weight is bounded and somewhere above 0, so that each cell has a
-- declared value
pub record HasValues (F : Family) : Type 0 where
  pub proper : IsProper F
  pub bound : Fraction
  pub bounded : IsBound F.all bound
  pub level : ℕ
  pub positive : whole 0 <ℚ F.all level
