-- One atom more.
use Rattle.dl_reading.proofs.Common.{◌∙◌, [], ◌∷◌, ◌++◌, ap₂, sym, take_all, take_more}
use Rattle.dl_reading.proofs.copies.copy_atoms.Goals as goal

pub atoms-preserved : goal.atoms-preserved
atoms-preserved c =
    c.in_ok-push.ensures.items
    ∙ ap₂ (λ ys y. ys ++ y ∷ []) c.atoms.invariant (c.in_ok-copy_atom.ensures ∙ c.atom-item.is)
    ∙ sym (take_more _ _ c.atom-item.result c.atoms-test.true)

pub returns : goal.returns
returns c = c.from_vec.ensures ∙ c.atoms.invariant ∙ take_all _ _ c.atoms-test.false
