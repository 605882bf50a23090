-- The common multiples of the units so far.
use Rattle.dl_rules.proofs.Common.{◌≡◌, ◌<◌, ◌≤◌, map, take, flat_map, unit_share, shared_probabilities, common_multiple}
use Rattle.dl_rules.proofs.factor.are_shares_fine.Given as goal

abbrev pub invariant-units : goal.invariant-units
invariant-units l = record {
  claims : l.claims ≡ common_multiple 1 (map (unit_share l.expected) (take l.unit-index l.units));
  some : 0 < l.claims;
  few : l.claims ≤ l.bounds.parts;
  amounts : l.amounts ≡ common_multiple 1 (flat_map (shared_probabilities l.expected) (take l.unit-index l.units));
  some_amounts : 0 < l.amounts;
  few_amounts : l.amounts ≤ l.bounds.parts;
}
