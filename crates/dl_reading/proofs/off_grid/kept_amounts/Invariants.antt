-- The amounts read so far are mapped, and the others as they were.
use Rattle.dl_reading.proofs.Common.{◌≡◌, ◌++◌, take, drop, map, kept}
use Rattle.dl_reading.proofs.off_grid.kept_amounts.Given as goal

abbrev pub invariant-amounts : goal.invariant-amounts
invariant-amounts l = l.amount-items ≡ map (λ x. (kept l.fn.cede x).num) (take l.amount-index l.initial.amount-items)
    ++ drop l.amount-index l.initial.amount-items
