-- One part more.
use Rattle.dl_reading.proofs.Common.{refl, at_item, IsFormedAtom, grid_atom, flaws_of_atom}
use Rattle.dl_reading.proofs.Agreeing.{read_no_part, read_next, read_end}
use Rattle.dl_reading.proofs.losses.grid_atoms.Goals as goal

pub atoms-init : goal.atoms-init
atoms-init c = read_no_part 7 (flaws_of_atom c.args.bounds c.args.most c.args.bs) (grid_atom c.args.bs) c.new-made.ensures.items
    c.none-flaws.ensures

pub atoms-preserved : goal.atoms-preserved
atoms-preserved c =
    read_next 7 (flaws_of_atom c.args.bounds c.args.most c.args.bs) (grid_atom c.args.bs) c.args.atoms.now c.atoms.atom-index
    c.atoms-test.true c.atom-item.is c.atoms.invariant c.in_ok-one.ensures c.in_ok-push.ensures.items c.or-flaws.ensures

pub returns : goal.returns
returns c = read_end 7 _ _ _ _ c.atoms-test.false c.from_vec-part.ensures c.atoms.invariant

pub grid_atom-requires-clause-formed : goal.grid_atom-requires-clause-formed
grid_atom-requires-clause-formed c = at_item IsFormedAtom _ _ _ _ refl c.requires.formed c.atoms-test.true c.atom-item.is
