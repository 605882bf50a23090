use Rattle.dl_cert.proofs.Common.{arith, sym, length, eq-eqb}
use Rattle.dl_cert.proofs.Words.{at_first}
use Rattle.dl_cert.proofs.lines.index_of.Goals as goal

pub returns-then-text-i-clause-offset : goal.returns-then-text-i-clause-offset
returns-then-text-i-clause-offset c =
    sym (at_first c.args.text.now c.args.sign c.loop-i.i (omega (arith, c.loop-i-test.true)) c.loop-i.invariant
    (λ inside. eq-eqb _ _ c.if-text-i.true))

pub returns-clause-offset : goal.returns-clause-offset
returns-clause-offset c =
    sym (at_first c.args.text.now c.args.sign (length c.args.text.now) (omega arith)
    (λ k inside. c.loop-i.invariant k (omega (arith, inside, c.loop-i-test.false)))
    (λ inside. absurd (omega (arith, inside))))
