-- A fault of the asks refuses them.
use Rattle.dl_top.proofs.Common.{refl, AskBeyond, UnknownUnit, NoShare, TooWide, asking}
use Rattle.dl_top.proofs.ReplyLaws.{refused}
use Rattle.dl_top.proofs.reply.reply_to_asks.Goals as goal

pub returns-in-Err-AskBeyond-clause-reply : goal.returns-in-Err-AskBeyond-clause-reply
returns-in-Err-AskBeyond-clause-reply c words input asks means =
    refused words input _ _ c.refusal.result _ c.refusal.ensures refl
    (asking _ asks _ means (AskBeyond c.in-Err-AskBeyond.ask) _ refl
    (rw c.in-Err-AskBeyond.field-0-is at c.in-Err-AskBeyond.ensures))

pub returns-in-Err-UnknownUnit-clause-reply : goal.returns-in-Err-UnknownUnit-clause-reply
returns-in-Err-UnknownUnit-clause-reply c words input asks means =
    refused words input _ _ c.refusal-in-Err-UnknownUnit.result _ c.refusal-in-Err-UnknownUnit.ensures refl
    (asking _ asks _ means (UnknownUnit c.in-Err-UnknownUnit.ask) _ refl
    (rw c.in-Err-UnknownUnit.field-0-is at c.in-Err-UnknownUnit.ensures))

pub returns-in-Err-NoShare-clause-reply : goal.returns-in-Err-NoShare-clause-reply
returns-in-Err-NoShare-clause-reply c words input asks means =
    refused words input _ _ c.refusal-in-Err-NoShare.result _ c.refusal-in-Err-NoShare.ensures refl
    (asking _ asks _ means (NoShare c.in-Err-NoShare.ask) _ refl
    (rw c.in-Err-NoShare.field-0-is at c.in-Err-NoShare.ensures))

pub returns-in-Err-TooWide-clause-reply : goal.returns-in-Err-TooWide-clause-reply
returns-in-Err-TooWide-clause-reply c words input asks means =
    refused words input _ _ c.refusal-in-Err-TooWide.result _ c.refusal-in-Err-TooWide.ensures refl
    (asking _ asks _ means (TooWide c.in-Err-TooWide.ask c.in-Err-TooWide.width) _ refl
    (rw c.in-Err-TooWide.field-0-is at c.in-Err-TooWide.ensures))
