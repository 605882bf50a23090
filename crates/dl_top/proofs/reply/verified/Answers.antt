-- Steps are verified where they certify the plan.
use Rattle.dl_top.proofs.Common.{refl, sym, subst, IsVerified, IsBadStep, AreVerified, verified, not_covered, bad_step}
use Rattle.dl_top.proofs.ReplyLaws.{refused, verifies_of_cert, in_answer, answer_is_of_text}
use Rattle.dl_top.proofs.reply.verified.Goals as goal

pub returns-in-Ok-clause-reply : goal.returns-in-Ok-clause-reply
returns-in-Ok-clause-reply c words input settings verifies means is =
    in_answer words input c.verified_word.result _ c.verified_word.ensures
    (verified settings verifies _ means (subst (AreVerified c.args.plan.now) (sym is) (record {
      grid = _;
      verified = c.in-Ok.ensures.verified;
      encloses = c.in-Ok.ensures.encloses;
    })))

pub returns-in-Ok-clause-of_text : goal.returns-in-Ok-clause-of_text
returns-in-Ok-clause-of_text c = answer_is_of_text c.verified_word.result _ c.verified_word.ensures

pub returns-in-Err-NotCovered-clause-reply : goal.returns-in-Err-NotCovered-clause-reply
returns-in-Err-NotCovered-clause-reply c words input settings verifies means is =
    refused words input _ _ c.refusal.result _ c.refusal.ensures refl
    (not_covered settings (verifies_of_cert words settings verifies) _ means _
    (rw c.in-Err-NotCovered.field-0-is at c.in-Err-NotCovered.ensures.verified))

pub returns-in-Err-BadStep-clause-reply : goal.returns-in-Err-BadStep-clause-reply
returns-in-Err-BadStep-clause-reply c words input settings verifies means is =
    let bad = rw c.in-Err-BadStep.field-0-is at c.in-Err-BadStep.ensures.verified in
    refused words input _ _ c.refusal-in-Err-BadStep.result _ c.refusal-in-Err-BadStep.ensures refl
    (bad_step settings verifies _ means _ bad.0
    (subst (λ steps. IsBadStep c.args.plan.now steps c.in-Err-BadStep.step) (sym is) bad.1))
