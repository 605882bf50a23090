-- The whole weights are those of the probabilities.
use Rattle.dl_reading.proofs.Common.{◌∙◌, length, zip, ap, sym, probability, atom_probs}
use Rattle.dl_reading.proofs.Mixing.{weighed_are}
use Rattle.dl_reading.proofs.severity.atom_severity.Goals as goal

pub returns : goal.returns
returns c =
    let a = c.args.atom.now in
    let amounts = c.as_slice-amounts.ensures in
    let w = c.in-Some.weights in
    let is = rw (c.in-Some.is, amounts) at c.in_ok-weights.ensures in (
      is.0,
      λ x. c.in_ok-merge.ensures x ∙ ap (λ ps. probability ps x)
          (weighed_are c.as_slice-amounts.result.now (atom_probs a) w (ap length amounts ∙ sym c.requires.atom.each) is.1
          ∙ ap (λ xs. zip xs (atom_probs a)) amounts),
    )
