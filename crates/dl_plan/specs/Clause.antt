-- Reinsurance clauses: what is ceded of an amount, and what is kept.
use Rattle.std.specs.Prelude.{ℕ, ◌+◌, ◌-◌, ◌<◌, ◌≤◌, ⊤, min, max, Bool, if◌then◌else◌, Option, Some, None, List, length, map, All, AllPairs}
use Rattle.dl_limits.specs.Limits.{most_layers}
use Rattle.dl_exact.specs.Prelude.{Fraction, whole, ◌-ℚ◌, ◌*ℚ◌, ◌≤ℚ◌, sum_over}
use Rattle.dl_plan.specs.declared.cede.CedeLayer.{CedeLayer}
use Rattle.std.specs.Option.{SomeIff}
use Rattle.dl_plan.specs.Fine.{IsFineTo30Bits, common_denominator}

-- what of x lies above the attachment a and within the limit, if there is one
abbrev pub layer : Option ℕ → ℕ → ℕ → ℕ
layer None a x = x - a
layer (Some limit) a x = min (x - a) limit

-- the sum over the layers of share times layer of x
abbrev pub ceded : List CedeLayer → ℕ → Fraction
ceded layers x = sum_over layers (λ l. l.share *ℚ whole (layer l.limit l.attach x))

-- the shares of layers, in order
abbrev pub layer_shares : List CedeLayer → List Fraction
layer_shares layers = map (λ l. l.share) layers

-- the common denominator of the shares, where they are fine
abbrev pub IsCommonShare : List CedeLayer → Option ℕ → Type 0
IsCommonShare layers common =
    SomeIff common (IsFineTo30Bits (layer_shares layers)) (common_denominator (layer_shares layers))

-- a side, and layers with their shares
abbrev pub Clause : Type 0
Clause = Bool × List CedeLayer

-- the clause's map: net of what is ceded of x, or that itself
abbrev pub kept : Clause → ℕ → Fraction
kept clause x = if clause.0 then whole x -ℚ ceded clause.1 x else ceded clause.1 x

-- x lies below the top of a layer from a, where it has one
abbrev pub IsBelowTop : Option ℕ → ℕ → ℕ → Type 0
IsBelowTop None a x = ⊤
IsBelowTop (Some limit) a x = x < a + limit

-- the greater attachment lies below both tops
abbrev pub Overlap : CedeLayer → CedeLayer → Type 0
Overlap l m =
    let greater : ℕ = max l.attach m.attach in
    IsBelowTop l.limit l.attach greater × IsBelowTop m.limit m.attach greater

-- 1 to 16 layers that do not overlap, with fine shares of at most 1
pub record IsClause (clause : Clause) : Type 0 where
  pub some : 1 ≤ length clause.1
  pub few : length clause.1 ≤ most_layers
  pub apart : AllPairs (λ l m. ¬ Overlap l m) clause.1
  pub within : All (λ l. l.share ≤ℚ whole 1) clause.1
  pub fine : IsFineTo30Bits (layer_shares clause.1)
