-- The common multiple is that of the fractions read so far.
use Rattle.dl_plan.proofs.Common.{◌≡◌, ◌<◌, take, common_denominator}
use Rattle.dl_plan.proofs.fine.common_denominator_of.Given as goal

abbrev pub invariant-fracs : goal.invariant-fracs
invariant-fracs l = record {
  so_far : l.common ≡ common_denominator (take l.frac-index l.fracs);
  positive : 0 < l.common;
}
