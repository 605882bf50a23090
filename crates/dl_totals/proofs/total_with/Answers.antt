use Rattle.dl_totals.proofs.Common.{subst, EnclosesSum}
use Rattle.dl_totals.proofs.total_with.Goals as goal

pub returns-then-spread-most-clause-encloses : goal.returns-then-spread-most-clause-encloses
returns-then-spread-most-clause-encloses g c us w e =
    subst (λ sum. EnclosesSum sum us) c.in-Some.is (c.in_ok-sum.ensures.encloses us w e)
