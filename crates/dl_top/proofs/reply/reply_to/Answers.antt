-- The reply to good words is that to the text they are about, and other words are refused.
use Rattle.dl_top.proofs.Common.{refl, map, string_bytes, ℕ, List, Say, usage, IsReply}
use Rattle.dl_top.proofs.ReplyLaws.{refused, always, none_taken, none_read, text_was_read, told, are_ready, limit_said, made_input, read_input}
use Rattle.dl_top.proofs.reply.reply_to.Goals as goal

pub reply_to_made-requires : goal.reply_to_made-requires
reply_to_made-requires g c = record { settings = are_ready c.args.words.now _ c.in-Ok.ensures.settings }

pub reply_to_source-requires-clause-settings : goal.reply_to_source-requires-clause-settings
reply_to_source-requires-clause-settings g c = are_ready c.args.words.now _ c.in-Ok.ensures.settings

pub returns-in-Err-Usage-clause-reply : goal.returns-in-Err-Usage-clause-reply
returns-in-Err-Usage-clause-reply g c = always _ {Q = λ input.
    IsReply (map string_bytes c.args.words.now) input c.refusal.result} (λ input.
    refused _ input _ _ c.refusal.result _ c.refusal.ensures refl
    (usage _ (rw c.in-Err-Usage.field-0-is at c.in-Err-Usage.ensures.fault)))

pub returns-in-Some-clause-reply : goal.returns-in-Some-clause-reply
returns-in-Some-clause-reply g c =
    made_input _ _ _ _ _ c.in-Ok.ensures.settings c.in-Some.is
    (c.reply_to_made.ensures.reply _ c.in-Ok.ensures.settings)

pub returns-in-Ok-clause-reply : goal.returns-in-Ok-clause-reply
returns-in-Ok-clause-reply g c =
    read_input _ _ _ (λ input. IsReply (map string_bytes c.args.words.now) input c.reply_to_source.result)
    c.in-Ok.ensures.settings c.in-None.is
    (told _ {P = λ input. (words : List (List ℕ)) → Say words c.in-Ok.settings
    → IsReply words input c.reply_to_source.result}
    c.reply_to_source.ensures.reply (λ input reply. reply _ c.in-Ok.ensures.settings))

pub returns-in-Some-clause-made : goal.returns-in-Some-clause-made
returns-in-Some-clause-made g c making = (refl, text_was_read _ c.reply_to_made.ensures.of_text)

pub returns-in-Some-clause-taken : goal.returns-in-Some-clause-taken
returns-in-Some-clause-taken g c = none_taken _ _

pub returns-in-Ok-clause-taken : goal.returns-in-Ok-clause-taken
returns-in-Ok-clause-taken g c = rw (limit_said _ _ c.in-Ok.ensures.settings) c.reply_to_source.ensures.taken

pub returns-in-Ok-clause-reading : goal.returns-in-Ok-clause-reading
returns-in-Ok-clause-reading g c = rw (limit_said _ _ c.in-Ok.ensures.settings) c.reply_to_source.ensures.reading

pub returns-in-Some-clause-reading : goal.returns-in-Some-clause-reading
returns-in-Some-clause-reading g c = none_read _ _

pub returns-in-Err-Usage-clause-reading : goal.returns-in-Err-Usage-clause-reading
returns-in-Err-Usage-clause-reading g c = none_read _ _

pub returns-clause-reading : goal.returns-clause-reading
returns-clause-reading g c = none_read _ _
