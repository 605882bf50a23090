-- The mixture of the atoms is that of the text, and refused exactly where that is not fine.
use Rattle.dl_reading.proofs.Common.{◌∙◌, ◌&&◌, length, map, ap, ap₂, sym, subst, length-map, HasDistribution, AllZip, atom_pairs, weights_of, are_fine, is_fine, has_atoms, mixture_shares, and_right}
use Rattle.dl_reading.proofs.Mixing.{weights_length, pair_length, mixture_means}
use Rattle.dl_reading.proofs.FineMixtures.{mixed_fine, mixed_coarse}
use Rattle.dl_reading.proofs.severity.mixture.Goals as goal

pub mix-requires-clause-lengths : goal.mix-requires-clause-lengths
mix-requires-clause-lengths c =
    let s = c.args.sev.now in
    let atoms = rw c.in-Some.is at c.in_ok-atoms.ensures in
    let is = rw (c.in-Some-2.is, c.as_slice-count.ensures) at c.in_ok-weights.ensures in
    ap length c.deref.ensures.value ∙ pair_length c.in-Some.atoms.items (map atom_pairs s.atoms) atoms.1
    ∙ length-map s.atoms atom_pairs
    ∙ sym (weights_length (weights_of s) c.in-Some-2.weights is.1 ∙ c.requires.sev.each)

pub returns-in-Ok : goal.returns-in-Ok
returns-in-Ok c =
    let s = c.args.sev.now in
    let lists = map atom_pairs s.atoms in
    let atoms = rw c.in-Some.is at c.in_ok-atoms.ensures in
    let is = rw (c.in-Some-2.is, c.as_slice-count.ensures) at c.in_ok-weights.ensures in
    let means = subst (λ xs. AllZip HasDistribution xs lists) (sym c.deref.ensures.value) atoms.1 in
    let w = c.in-Some-2.weights in (
      ap₂ (λ a b. a && b) (ap₂ (λ a b. a && b) atoms.0 is.0)
          (mixed_fine c.deref.result.now w (weights_of s) lists is.1 means c.args.bounds.parts c.in-Ok.ensures.fine),
      mixture_means c.deref.result.now w (weights_of s) lists is.1 means c.in-Ok.made c.in-Ok.ensures.step,
    )

pub returns-in-Err-TooFine : goal.returns-in-Err-TooFine
returns-in-Err-TooFine c =
    let s = c.args.sev.now in
    let lists = map atom_pairs s.atoms in
    let atoms = rw c.in-Some.is at c.in_ok-atoms.ensures in
    let is = rw (c.in-Some-2.is, c.as_slice-count.ensures) at c.in_ok-weights.ensures in
    let means = subst (λ xs. AllZip HasDistribution xs lists) (sym c.deref.ensures.value) atoms.1 in
    let refused = rw c.in-Err-TooFine.field-0-is at c.in-Err-TooFine.ensures.step in
    and_right (has_atoms c.args.bounds s && are_fine c.args.bounds.parts (weights_of s))
    (is_fine c.args.bounds.parts (mixture_shares s))
    (mixed_coarse c.deref.result.now c.in-Some-2.weights (weights_of s) lists is.1 means c.args.bounds.parts refused)
