-- The amounts so far.
use Rattle.dl_reading.proofs.Common.{map, take, number_of, IsRead, flaws_in, flaws_of_amount}
use Rattle.dl_reading.proofs.value_lists.grid_amounts.Given as goal

abbrev pub invariant-spanned : goal.invariant-spanned
invariant-spanned l =
    IsRead (flaws_in (λ pair. flaws_of_amount l.most l.bs pair.0 pair.1) (take l.value-index l.spanned))
    (map (λ pair. number_of l.bs pair.0) (take l.value-index l.spanned))
    (record { part = l.made.items; flaws = l.flaws })
