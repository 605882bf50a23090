-- Those of the list, where it is fine.
use Rattle.dl_reading.proofs.Common.{◌≡◌, ◌∙◌, sym, if_ok}
use Rattle.dl_reading.proofs.Shared.{list_weighed}
use Rattle.dl_reading.proofs.shares.weights_among.Goals as goal

pub returns-in-Some : goal.returns-in-Some
returns-in-Some c =
    let l = c.in-Some.probs in
    let fine = sym (rw c.in-Some.is at (c.are_fine.ensures c.args.count c.requires.some c.requires.few)) ∙ c.if-not-are_fine.false in
    let weighed = list_weighed c.args.most l c.requires.parts (rw c.in-Some.is at c.requires.shares) fine in
    rw c.in-Some.is (if_ok c.copy_weights.result (λ made. made ≡ l.weights) _
    (λ made e. rw (e ∙ weighed.1) (fine, weighed.2)) c.copy_weights.ensures)
