-- One atom more.
use Rattle.dl_reading.proofs.Common.{Bool, ◌∙◌, ◌&&◌, ap, ap₂, sym, GridAtom, atom_pairs, atom_probs, are_fine, at_item, take_all, IsGridAtom, Bounds, list_all_at, list_all_more}
use Rattle.dl_reading.proofs.Mixing.{pair-more}
use Rattle.dl_reading.proofs.severity.atom_severities.Goals as goal

abbrev fine_atom : Bounds → GridAtom → Bool
fine_atom bounds a = are_fine bounds.parts (atom_probs a)

pub atoms-preserved : goal.atoms-preserved
atoms-preserved c =
    let atom = c.atom-item.result in
    let atoms = c.args.sev.now.atoms in
    let i = c.atoms.atom-index in
    let below = rw c.as_slice-atom-items.ensures at c.atoms-test.true in
    let is = rw c.as_slice-atom-items.ensures at c.atom-item.is in
    let told = rw c.in-Some.is at c.in_ok-severity.ensures in (
      list_all_more (fine_atom c.args.bounds) atoms i atom below
          ∙ ap₂ (λ a b. a && b) c.atoms.invariant.0 (ap (fine_atom c.args.bounds) (sym is) ∙ told.0),
      pair-more atom_pairs atoms i atom c.atoms.made.items _ c.in-Some.severity below is c.atoms.invariant.1
          c.in_ok-push.ensures.items told.1,
    )

pub atom_severity-requires-clause-atom : goal.atom_severity-requires-clause-atom
atom_severity-requires-clause-atom c =
    at_item IsGridAtom _ _ _ _ c.as_slice-atom-items.ensures c.requires.sev.atoms c.atoms-test.true c.atom-item.is

pub returns-in_default : goal.returns-in_default
returns-in_default c =
    let is = rw c.as_slice-atom-items.ensures at c.atom-item.is in
    list_all_at (fine_atom c.args.bounds) c.args.sev.now.atoms c.atoms.atom-index c.atom-item.result
    (rw c.as_slice-atom-items.ensures at c.atoms-test.true)
    (ap (fine_atom c.args.bounds) (sym is) ∙ rw c.in_default.is at c.in_ok-severity.ensures)

pub returns : goal.returns
returns c = rw (take_all c.atoms.atom-index c.args.sev.now.atoms (rw c.as_slice-atom-items.ensures at c.atoms-test.false)) at c.atoms.invariant
