use Rattle.dl_shares.proofs.Common.{are_units, outcomes_rise, score, Joint, partial_sums}
use Rattle.dl_shares.proofs.OneClaim.{outcome_most}
use Rattle.dl_shares.proofs.source.ShareSource.tail_share.Goals as goal

pub returns-clause-holds : goal.returns-clause-holds
returns-clause-holds g c us i d gives e mean =
    let inside = rw c.requires.cells at c.in_ok-q.ensures.some.inside in
    c.tail_share_at.ensures.holds us i d e mean
    (c.joint-joint.ensures.holds _ _ (gives _ inside) (outcome_most us i _))
    (c.joints_to-below.ensures.holds (partial_sums us) i gives (λ x. outcomes_rise us (are_units us d) (score (Joint i x))))

pub returns-clause-width : goal.returns-clause-width
returns-clause-width g c m t of_mean of_total =
    c.tail_share_at.ensures.width m _ t of_mean c.joint-joint.ensures.width c.joints_to-below.ensures.width of_total

pub returns-in_err-q-clause-none : goal.returns-in_err-q-clause-none
returns-in_err-q-clause-none g c = rw c.from_residual.ensures c.in_err-q.ensures.none

pub returns-in_err-q-clause-absent : goal.returns-in_err-q-clause-absent
returns-in_err-q-clause-absent g c us x d e = rw c.from_residual.ensures (c.in_err-q.ensures.absent us x d e)

pub returns-clause-none : goal.returns-clause-none
returns-clause-none g c = c.in_ok-q.ensures.none

pub returns-clause-absent : goal.returns-clause-absent
returns-clause-absent g c us x d e = c.in_ok-q.ensures.absent us x d e
