-- The whole weights of a list of probabilities.
use Rattle.std.specs.Prelude.{◌≡◌, ◌≤◌, List, map, sum}
use Rattle.dl_limits.specs.Limits.{most_weights}
use Rattle.dl_exact.specs.Fraction.{Fraction, ◌over◌}
use Rattle.dl_plan.specs.Fine.{common_denominator}
use Rattle.dl_severity.specs.declared.weights.Weights.{Weights}

-- each weight over the total is its probability; the total is the common denominator, and the sum
-- of the weights
pub record IsWeighing (probs : List Fraction) (made : Weights) : Type 0 where
  pub shares : map (λ weight. weight over made.total) made.weights ≡ probs
  pub total : made.total ≡ common_denominator probs
  pub sum : sum made.weights ≡ made.total
  pub some : 1 ≤ made.total
  pub within : made.total ≤ most_weights
