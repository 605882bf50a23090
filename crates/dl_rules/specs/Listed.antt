-- Units that list their numbers of claims.
use Rattle.std.specs.Prelude.{◌≡◌, not, false, map, zip, Option, None, IfSome}
use Rattle.std.specs.List.{list_any}
use Rattle.dl_limits.specs.Limits.{most_count}
use Rattle.dl_plan.specs.Prelude.{Pairs}
use Rattle.dl_reading.specs.declared.grid.ValueList.{ValueList}
use Rattle.dl_reading.specs.declared.grid.Shares.{Shares}
use Rattle.dl_reading.specs.Prelude.{within, probs_of, is_whole, IsShares, IsValueList, other_length, AreProbabilities}
use Rattle.dl_rules.specs.Rules.{passes}

-- each listed number of claims with its probability
abbrev pub pairs_of_counts : ValueList → Option Shares → Pairs
pairs_of_counts counts probs = zip (map (λ x. x.num) counts.values) (probs_of counts probs)

-- whole numbers of at most 256 claims, with as many fine probabilities, which sum to 1
pub record AreCounts (counts : ValueList) (probs : Option Shares) : Type 0 where
  pub read : IsValueList counts
  pub second : IfSome probs IsShares
  pub lengths : within (other_length counts) probs ≡ None
  pub whole : list_any (λ x. not (is_whole x)) counts.values ≡ false
  pub few : list_any (λ x. passes x most_count) counts.values ≡ false
  pub shares : AreProbabilities (probs_of counts probs)
