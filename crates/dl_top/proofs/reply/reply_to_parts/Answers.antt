-- A program is refused at its first bad place.
use Rattle.dl_top.proofs.Common.{arith, IsBad}
use Rattle.dl_top.proofs.ReplyLaws.{refused_bad}
use Rattle.dl_top.proofs.reply.reply_to_parts.Goals as goal

pub refusal-requires-clause-in_source : goal.refusal-requires-clause-in_source
refusal-requires-clause-in_source c =
    let bad : IsBad c.args.source.now c.in-Err-BadByte.at = c.lex.ensures.bad_byte c.in-Err-BadByte.at cc in
    omega (arith, bad.within)

pub returns-in-Err-BadByte-clause-reply : goal.returns-in-Err-BadByte-clause-reply
returns-in-Err-BadByte-clause-reply c words input say parts =
    let bad : IsBad c.args.source.now c.in-Err-BadByte.at = c.lex.ensures.bad_byte c.in-Err-BadByte.at cc in
    refused_bad words input _ _ _ say parts c.refusal.result _ c.refusal.ensures bad
