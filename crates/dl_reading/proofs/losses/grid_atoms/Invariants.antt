-- The atoms so far.
use Rattle.dl_reading.proofs.Common.{map, take, grid_atom, IsRead, flaws_in, flaws_of_atom}
use Rattle.dl_reading.proofs.losses.grid_atoms.Given as goal

abbrev pub invariant-atoms : goal.invariant-atoms
invariant-atoms l =
    IsRead (flaws_in (flaws_of_atom l.bounds l.most l.bs) (take l.atom-index l.atoms))
    (map (grid_atom l.bs) (take l.atom-index l.atoms)) (record { part = l.made.items; flaws = l.flaws })
