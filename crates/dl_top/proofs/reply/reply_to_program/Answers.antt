-- The canonical text; or a program that breaks a rule is refused, and the others are answered by their plans.
use Rattle.dl_top.proofs.Common.{rules, ◌≡◌, ◌≤◌, ◌^◌, arith, pow-le-pow_right}
use Rattle.dl_top.proofs.ReplyLaws.{refused_typing}
use Rattle.dl_top.proofs.reply.reply_to_program.Goals as goal

pub returns-in-Fmt-clause-reply : goal.returns-in-Fmt-clause-reply
returns-in-Fmt-clause-reply c words input say parts spells =
    c.formatted.ensures.reply words input (record { say = say; form = c.in-Fmt.is }) spells

pub reply_to_plan-requires-clause-few : goal.reply_to_plan-requires-clause-few
reply_to_plan-requires-clause-few c of =
    let most : 2 ^ c.args.settings.now.log2 ≤ 2 ^ 10 =
    pow-le-pow_right {n = 2} (omega (arith)) {i = c.args.settings.now.log2} {j = 10} (c.requires.settings.cells of) in
    let is : c.in-Ok.plan.cells ≡ 2 ^ c.args.settings.now.log2 = c.in-Ok.ensures.1.cells in
    omega (arith, most, is)

pub returns-in-Ok-clause-reply : goal.returns-in-Ok-clause-reply
returns-in-Ok-clause-reply c words input say parts spells = c.reply_to_plan.ensures.reply words input say (record {
  program = _;
  spells = spells;
  faultless = c.in-Ok.ensures.0;
  planned = c.in-Ok.ensures.1;
  valid = c.in-Ok.ensures.2;
}) parts.steps

pub returns-in-Err-Typing-clause-reply : goal.returns-in-Err-Typing-clause-reply
returns-in-Err-Typing-clause-reply c words input say parts spells =
    refused_typing words input _ _ _ say parts c.refusal.result _ _ c.refusal.ensures (search rules) spells
    (rw c.in-Err-Typing.field-0-is at c.in-Err-Typing.ensures)
