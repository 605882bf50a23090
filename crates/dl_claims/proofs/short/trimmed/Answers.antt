use Rattle.dl_claims.proofs.Common.{arith, sym, ◌∙◌, IfOk-weaker}
use Rattle.dl_claims.proofs.ShortGrids.{trimmed_claim}
use Rattle.dl_claims.proofs.short.trimmed.Goals as goal

pub returns-clause-between : goal.returns-clause-between
returns-clause-between g c =
    IfOk-weaker c.truncate.result _ _ (λ grid is f.
    trimmed_claim c.args.base.now grid c.args.cells c.filled.result f (omega arith) is
    (λ x past inside. sym (c.highs.ensures.each x) ∙ c.filled.ensures.zeros x past inside))
    c.truncate.ensures
