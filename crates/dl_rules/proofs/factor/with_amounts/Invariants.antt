-- The common multiple of the amounts so far.
use Rattle.dl_rules.proofs.Common.{◌≡◌, ◌<◌, ◌≤◌, map, take, ◌over◌, ◌*ℚ◌, Item, common_multiple}
use Rattle.dl_rules.proofs.factor.with_amounts.Given as goal

abbrev pub invariant-items : goal.invariant-items
invariant-items l = record {
  so_far : l.multiple ≡ common_multiple l.common (map (λ (i : Item). l.share *ℚ i.weight over l.sev.total)
      (take l.item-index l.item-items));
  positive : 0 < l.multiple;
  within : l.multiple ≤ l.most;
}
