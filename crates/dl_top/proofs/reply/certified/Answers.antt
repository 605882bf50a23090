-- A certificate is written where the plan is covered.
use Rattle.dl_top.proofs.Common.{refl, certified, not_covered}
use Rattle.dl_top.proofs.ReplyLaws.{refused, certifies_of_cert}
use Rattle.dl_top.proofs.reply.certified.Goals as goal

pub returns-in-Ok-clause-reply : goal.returns-in-Ok-clause-reply
returns-in-Ok-clause-reply c words input settings certifies means =
    certified settings certifies _ means _ c.in-Ok.ensures.certified c.in-Ok.ensures.short

pub returns-in-Err-NotCovered-clause-reply : goal.returns-in-Err-NotCovered-clause-reply
returns-in-Err-NotCovered-clause-reply c words input settings certifies means =
    refused words input _ _ c.refusal.result _ c.refusal.ensures refl
    (not_covered settings (certifies_of_cert words settings certifies) _ means _
    (rw c.in-Err-NotCovered.field-0-is at c.in-Err-NotCovered.ensures.certified))
