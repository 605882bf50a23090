-- The canonical text answers words that want it.
use Rattle.dl_top.proofs.Common.{subst, sym, [], Done, Answers, formatted}
use Rattle.dl_top.proofs.reply.formatted.Goals as goal

pub returns-in-Ok-clause-reply : goal.returns-in-Ok-clause-reply
returns-in-Ok-clause-reply c words input formats spells =
    subst (λ bytes. Answers words input Done bytes []) (sym c.in-Ok.ensures) (formatted _ formats _ spells)
