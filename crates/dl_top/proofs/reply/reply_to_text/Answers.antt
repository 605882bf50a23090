-- An input is refused where it, or its program, is too long.
use Rattle.dl_top.proofs.Common.{◌<◌, [], length, refl, inl, inr, arith, subst, TooLong, limit_of, too_long}
use Rattle.dl_limits.specs.Limits.{most_text}
use Rattle.dl_top.proofs.ReplyLaws.{refused}
use Rattle.dl_top.proofs.reply.reply_to_text.Goals as goal

pub returns-then-input-limit_of-clause-reply : goal.returns-then-input-limit_of-clause-reply
returns-then-input-limit_of-clause-reply c words say =
    let long : limit_of c.args.settings.now.form < length c.args.input.now =
    omega (arith, c.limit_of.ensures.limit, c.if-input-limit_of.true) in
    refused words c.args.input.now [] [] c.refusal.result TooLong c.refusal.ensures refl
    (too_long c.args.settings.now say (inl long))

pub returns-then-source-gt-MOST_TEXT-clause-reply : goal.returns-then-source-gt-MOST_TEXT-clause-reply
returns-then-source-gt-MOST_TEXT-clause-reply c words say =
    refused words c.args.input.now [] [] c.refusal-then-source-gt-MOST_TEXT.result TooLong
    c.refusal-then-source-gt-MOST_TEXT.ensures refl
    (too_long c.args.settings.now say (inr (subst (λ s. most_text < length s) c.parts_of.ensures.program
    (omega (arith, c.if-source-gt-MOST_TEXT.true)))))
