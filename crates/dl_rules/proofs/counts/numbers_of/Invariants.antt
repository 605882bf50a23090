-- The numbers so far.
use Rattle.dl_rules.proofs.Common.{◌≡◌, map, take, Fraction}
use Rattle.dl_rules.proofs.counts.numbers_of.Given as goal

abbrev pub invariant-values : goal.invariant-values
invariant-values l = l.made.items ≡ map (λ (x : Fraction). x.num) (take l.value-index l.values)
