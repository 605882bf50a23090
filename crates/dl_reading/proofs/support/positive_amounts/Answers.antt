-- One atom more.
use Rattle.dl_reading.proofs.Common.{◌∙◌, List, length, get_or, sym, ap, append-nil, whole, GridAtom, atom_pairs, weights_of}
use Rattle.dl_reading.proofs.Parts.{among_inside, sev_weighted}
use Rattle.dl_reading.proofs.Positive.{atom-more, all-atoms}
use Rattle.dl_reading.proofs.support.positive_amounts.Goals.{then-is_positive+in_ok-push_support, else-is_positive}
use Rattle.dl_reading.proofs.support.positive_amounts.Goals as goal

pub atoms-preserved : goal.atoms-preserved
atoms-preserved c =
    let s = c.args.unit.now.sev in
    let atom = c.atom-item.result in
    let below = rw c.as_slice-atom-items.ensures at c.atoms-test.true in
    let is = c.atom-item.is ∙ ap (λ (xs : List GridAtom). get_or xs c.atoms.at atom) c.as_slice-atom-items.ensures in
    let more = atom-more atom_pairs (weights_of s) s.atoms c.atoms.at (whole 0) atom c.is_positive.result
    c.atoms.made.items below (sev_weighted c.args.unit.now c.requires.weighted).each
    (c.is_positive.ensures (length s.atoms) (whole 0) below) is c.atoms.invariant in
    elim c.if-is_positive.branch [
      | then-is_positive+in_ok-push_support w ↦
          ap (λ v. v.items) w.made-is ∙ w.in_ok-push_support.ensures ∙ rw w.if-is_positive.true at more
      | else-is_positive w ↦
          ap (λ v. v.items) w.made-is ∙ sym (append-nil c.atoms.made.items) ∙ rw w.if-is_positive.false at more
    ]

pub is_positive-requires : goal.is_positive-requires
is_positive-requires c =
    among_inside c.args.unit.now.sev.weights (length c.args.unit.now.sev.atoms) c.atoms.at
    (sev_weighted c.args.unit.now c.requires.weighted).each (rw c.as_slice-atom-items.ensures at c.atoms-test.true)

pub returns : goal.returns
returns c =
    let s = c.args.unit.now.sev in
    c.atoms.invariant
    ∙ all-atoms atom_pairs (weights_of s) s.atoms c.atoms.at (rw c.as_slice-atom-items.ensures at c.atoms-test.false)
    (sev_weighted c.args.unit.now c.requires.weighted).each
