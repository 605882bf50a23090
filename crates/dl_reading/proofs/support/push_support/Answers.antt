-- One amount more.
use Rattle.dl_reading.proofs.Common.{ℕ, ◌∙◌, ◌++◌, ◌∷◌, [], List, length, get_or, zip, sym, ap, arith, append-nil, take_all, whole, atom_probs, support, length-zip}
use Rattle.dl_reading.proofs.Positive.{amount-more}
use Rattle.dl_reading.proofs.support.push_support.Goals.{then-is_positive+in_ok-push, else-is_positive}
use Rattle.dl_reading.proofs.support.push_support.Goals as goal

pub amounts-preserved : goal.amounts-preserved
amounts-preserved c =
    let a = c.args.atom.now in
    let below = rw c.as_slice-amount-items.ensures at c.amounts-test.true in
    let more = amount-more c.args.made.now.items c.amounts.made.items a.amounts (atom_probs a) c.amounts.at 0 (whole 0)
    c.is_positive.result below (sym c.requires.each) (c.is_positive.ensures (length a.amounts) (whole 0) below)
    c.amounts.invariant in
    elim c.if-is_positive.branch [
      | then-is_positive+in_ok-push w ↦
          ap (λ v. v.items) w.made-is ∙ w.in_ok-push.ensures.items
          ∙ ap (λ (xs : List ℕ). c.amounts.made.items ++ get_or xs c.amounts.at 0 ∷ []) c.as_slice-amount-items.ensures
          ∙ rw w.if-is_positive.true at more
      | else-is_positive w ↦
          ap (λ v. v.items) w.made-is ∙ sym (append-nil c.amounts.made.items) ∙ rw w.if-is_positive.false at more
    ]

pub returns : goal.returns
returns c =
    let a = c.args.atom.now in
    let end = rw c.as_slice-amount-items.ensures at c.amounts-test.false in
    c.amounts.invariant
    ∙ ap (λ ps. c.args.made.now.items ++ support ps) (take_all c.amounts.at (zip a.amounts (atom_probs a))
    (omega (arith, end, length-zip a.amounts (atom_probs a))))
