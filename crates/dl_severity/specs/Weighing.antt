-- Whole weights of a list of probabilities.
use Rattle.std.specs.Prelude.{ℕ, ◌≢◌, ◌≤◌, ⊤, List}
use Rattle.dl_exact.specs.Prelude.{Fraction, whole, sum_over}
use Rattle.dl_plan.specs.Fine.{common_denominator}
use Rattle.dl_severity.specs.declared.fault.WeighFault.{WeighFault}
use Rattle.dl_severity.specs.declared.fault.WeighFault.TheVariants.{TooFine, NotOne, OutOfMemory}

-- the sum of fractions
abbrev pub sum_of : List Fraction → Fraction
sum_of xs = sum_over xs (λ x. x)

-- the probabilities have a common denominator above `most`; or they do not sum to 1
abbrev pub RefusesWeights : (most : ℕ) → List Fraction → WeighFault → Type 0
RefusesWeights most probs TooFine = ¬ common_denominator probs ≤ most
RefusesWeights most probs NotOne = (common_denominator probs ≤ most) × (sum_of probs ≢ whole 1)
RefusesWeights most probs OutOfMemory = ⊤
