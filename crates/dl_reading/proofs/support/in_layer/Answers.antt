-- One amount more: it counts, or it does not.
use Rattle.dl_reading.proofs.Common.{◌∙◌, ◌++◌, ◌∷◌, [], refl, true, false, sym, ap, append-nil, lt-ltb, le-ltb}
use Rattle.dl_reading.proofs.InTurn.{counted_next}
use Rattle.dl_reading.proofs.support.in_layer.Goals.{then-not-large+in_ok-push, then-not-large-via-then-not-large, then-not-large-via-else-not-large+then-amount-attach, else-not-large+else-amount-attach}
use Rattle.dl_reading.proofs.support.in_layer.Goals as goal

pub amounts-preserved : goal.amounts-preserved
amounts-preserved c = elim c.if-not-large.branch [
  | then-not-large+in_ok-push w ↦ counted_next _ _ _ _ c.amounts-test.true c.args.large true (elim w.then-not-large.branch [
    | then-not-large-via-then-not-large v ↦ rw v.if-not-large.true refl
    | then-not-large-via-else-not-large+then-amount-attach v ↦ rw (v.if-not-large.false, lt-ltb _ _ v.if-amount-attach.true) refl
  ]) c.amounts.invariant (ap (λ v. v.items) w.made-is ∙ w.in_ok-push.ensures.items ∙ ap (λ y. c.amounts.made.items ++ y ∷ []) w.cut_amount.ensures)
  | else-not-large+else-amount-attach w ↦ counted_next _ _ _ _ c.amounts-test.true c.args.large false (rw (w.if-not-large.false, le-ltb _ _ w.if-amount-attach.false) refl)
      c.amounts.invariant (ap (λ v. v.items) w.made-is ∙ sym (append-nil c.amounts.made.items))
]
