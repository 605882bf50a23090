-- The answer by a plan, by form.
use Rattle.dl_top.proofs.reply.reply_to_plan.Goals as goal

pub returns-in-Run-clause-reply : goal.returns-in-Run-clause-reply
returns-in-Run-clause-reply c words input say means is =
    c.reply_to_asks.ensures.reply words input (record { say = say; form = c.in-Run.is }) means

pub returns-in-Cert-clause-reply : goal.returns-in-Cert-clause-reply
returns-in-Cert-clause-reply c words input say means is =
    c.certified.ensures.reply words input _ (record { say = say; form = c.in-Cert.is }) means

pub returns-in-Verify-clause-reply : goal.returns-in-Verify-clause-reply
returns-in-Verify-clause-reply c words input say means is =
    c.verified.ensures.reply words input _ (record { say = say; form = c.in-Verify.is }) means is
