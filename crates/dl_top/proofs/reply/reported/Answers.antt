-- A report answers the asks.
use Rattle.dl_top.proofs.Common.{subst, sym, [], Done, Answers, reported}
use Rattle.dl_top.proofs.ReplyLaws.{answered_text, answered_digits}
use Rattle.dl_top.proofs.reply.reported.Goals as goal

pub in_form-requires-clause-digits : goal.in_form-requires-clause-digits
in_form-requires-clause-digits c = answered_digits _ _ _ c.requires.answered c.requires.settings.ranges.few_digits

pub in_form-requires-clause-asks : goal.in_form-requires-clause-asks
in_form-requires-clause-asks c = answered_text _ _ _ c.requires.answered c.requires.settings.texts

pub returns-in-Ok-clause-reply : goal.returns-in-Ok-clause-reply
returns-in-Ok-clause-reply c words input asks means =
    subst (λ bytes. Answers words input Done bytes []) (sym c.in-Ok.ensures)
    (reported _ _ _ asks means c.requires.answered)
