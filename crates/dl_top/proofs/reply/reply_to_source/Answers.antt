-- The reply to what the source has left.
use Rattle.dl_top.proofs.Common.{◌≡◌, ◌+◌, ◌≤◌, refl, inl, arith, length, ℕ, List, Say, limit_of, not_read, too_long, IsReply}
use Rattle.dl_top.proofs.ReplyLaws.{refused, told, taken, always}
use Rattle.dl_top.proofs.reply.reply_to_source.Goals as goal

pub returns-in-Ok-clause-reply : goal.returns-in-Ok-clause-reply
returns-in-Ok-clause-reply g c = told _ {P = λ left. c.in-Ok.input.items ≡ left} c.in-Ok.ensures.whole
    (λ input whole words say.
    rw (c.as_slice.ensures.value, whole) at c.reply_to_text.ensures.reply words say)

pub returns-in-Err-Fault-clause-reply : goal.returns-in-Err-Fault-clause-reply
returns-in-Err-Fault-clause-reply g c = always _
    {Q = λ input. (words : List (List ℕ)) → Say words c.args.settings.now → IsReply words input c.refusal.result}
    (λ input words say. refused words input _ _ c.refusal.result _ c.refusal.ensures refl
    (not_read _ say c.requires.seedless))

pub returns-in-Err-TooLong-clause-reply : goal.returns-in-Err-TooLong-clause-reply
returns-in-Err-TooLong-clause-reply g c =
    let limit : c.limit_of.result ≡ limit_of c.args.settings.now.form = c.limit_of.ensures.limit in
    told _ {P = λ left. c.limit_of.result + 1 ≤ length left} (taken _ _ _ (c.read_all.ensures.too_long cc))
    (λ input more words say.
    refused words input _ _ c.refusal-in-Err-TooLong.result _ c.refusal-in-Err-TooLong.ensures refl
    (too_long _ say (inl (omega (arith, more, limit)))))
