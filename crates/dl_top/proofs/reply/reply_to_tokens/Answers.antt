-- Tokens that spell no program are refused where they stop.
use Rattle.dl_top.proofs.Common.{length}
use Rattle.dl_parser.proofs.Covered.{covered_inside}
use Rattle.dl_top.proofs.ReplyLaws.{refused_continuous, refused_syntax, spells_program}
use Rattle.dl_top.proofs.reply.reply_to_tokens.Goals as goal

pub refusal-requires-clause-inside : goal.refusal-requires-clause-inside
refusal-requires-clause-inside c = covered_inside c.args.source.now
    (length c.args.source.now) c.args.tokens.now c.requires.tokens

pub refusal-requires-in-Err-Continuous-clause-inside : goal.refusal-requires-in-Err-Continuous-clause-inside
refusal-requires-in-Err-Continuous-clause-inside c =
    covered_inside c.args.source.now (length c.args.source.now) c.args.tokens.now c.requires.tokens

pub returns-in-Ok-clause-reply : goal.returns-in-Ok-clause-reply
returns-in-Ok-clause-reply c words input say parts =
    c.reply_to_program.ensures.reply words input say parts
    (spells_program words input _ _ _ say parts _ _ c.requires.tokens c.in-Ok.ensures.spelled)

pub returns-in-Err-Syntax-clause-reply : goal.returns-in-Err-Syntax-clause-reply
returns-in-Err-Syntax-clause-reply c words input say parts =
    let fault = rw c.in-Err-Syntax.field-0-is at c.in-Err-Syntax.ensures.refused in
    refused_syntax words input _ _ _ say parts c.refusal.result _ _ c.refusal.ensures c.requires.tokens fault.0 fault.1

pub returns-in-Err-Continuous-clause-reply : goal.returns-in-Err-Continuous-clause-reply
returns-in-Err-Continuous-clause-reply c words input say parts =
    let fault = rw c.in-Err-Continuous.field-0-is at c.in-Err-Continuous.ensures.refused in
    refused_continuous words input _ _ _ say parts c.refusal-in-Err-Continuous.result _ _
    c.refusal-in-Err-Continuous.ensures c.requires.tokens fault.0 fault.1
