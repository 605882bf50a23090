-- A refusal, written whole or in part.
use Rattle.dl_top.proofs.Common.{refl, inl, inr, sym, ◌∙◌, [], Done, Answers}
use Rattle.dl_top.proofs.ReplyLaws.{told, accepted, has_form, certifiable, verifiable}
use Rattle.dl_top.proofs.RunLaws.{IsTold, message, status_tells, part, ends_well, ends_so}
use Rattle.dl_top.proofs.run.Goals as goal

pub returns-in-Ok-write_all-clause-answer : goal.returns-in-Ok-write_all-clause-answer
returns-in-Ok-write_all-clause-answer g c =
    told _ {P = λ input. IsTold _ input c.in-Refusal.fault c.in-Refusal.text.items} c.in-Refusal.ensures.reply
    (λ input is written.
    message _ input _ _ c.status.result _ _ _ is c.status.ensures
    (rw c.as_slice-in-Refusal.ensures.value at c.in-Ok-write_all.ensures.whole))

pub returns-in-Ok-write_all-clause-complete : goal.returns-in-Ok-write_all-clause-complete
returns-in-Ok-write_all-clause-complete g c =
    ends_well _ _ _ _ c.status.result c.in-Refusal.ensures.reply c.status.ensures (accepted _)

pub returns-in-Ok-write_all-clause-usage : goal.returns-in-Ok-write_all-clause-usage
returns-in-Ok-write_all-clause-usage g c e = c.in-Refusal.ensures.usage
    ((status_tells c.in-Refusal.fault).1 (sym c.status.ensures ∙ e))

pub returns-in-Refusal-clause-write_cause : goal.returns-in-Refusal-clause-write_cause
returns-in-Refusal-clause-write_cause g c e = inr (
  c.in-Err-write_all.ensures.fault,
  refl,
  told _ {P = λ input. IsTold _ input c.in-Refusal.fault c.in-Refusal.text.items}
      c.in-Refusal.ensures.reply (λ input is.
      part _ input _ _ _ _ is c.in-Refusal.ensures.read_cause
      (rw c.as_slice-in-Refusal.ensures.value at c.in-Err-write_all.ensures.part)),
)

pub returns-in-Ok-write_all-clause-read_words : goal.returns-in-Ok-write_all-clause-read_words
returns-in-Ok-write_all-clause-read_words g c e = c.in-Refusal.ensures.read_words
    ((status_tells c.in-Refusal.fault).0 (sym c.status.ensures ∙ e))

pub returns-in-Answer-clause-write_cause : goal.returns-in-Answer-clause-write_cause
returns-in-Answer-clause-write_cause g c e = inl (
  c.in-Err.ensures.fault,
  refl,
  told _ {P = λ input. Answers _ input Done c.in-Answer.text.items []} c.in-Answer.ensures.reply
      (λ input answer. record {
        report = c.in-Answer.text.items;
        answer = answer;
        gains = rw c.as_slice.ensures.value at c.in-Err.ensures.part;
      }),
)

pub returns-in-Ok-write_all-clause-formatted : goal.returns-in-Ok-write_all-clause-formatted
returns-in-Ok-write_all-clause-formatted g c =
    ends_well _ _ _ _ c.status.result c.in-Refusal.ensures.reply c.status.ensures (has_form _)

pub returns-in-Ok-write_all-clause-certified : goal.returns-in-Ok-write_all-clause-certified
returns-in-Ok-write_all-clause-certified g c =
    ends_well _ _ _ _ c.status.result c.in-Refusal.ensures.reply c.status.ensures (certifiable _)

pub returns-in-Ok-write_all-clause-verified : goal.returns-in-Ok-write_all-clause-verified
returns-in-Ok-write_all-clause-verified g c =
    ends_well _ _ _ _ c.status.result c.in-Refusal.ensures.reply c.status.ensures (verifiable _)

pub returns-in-Ok-write_all-clause-unread : goal.returns-in-Ok-write_all-clause-unread
returns-in-Ok-write_all-clause-unread g c (fault, e) =
    let tells = c.in-Refusal.ensures.unread fault e in
    (rw (c.status.ensures, tells.0.0) tt, tells.1)

pub returns-in-Refusal-clause-unread : goal.returns-in-Refusal-clause-unread
returns-in-Refusal-clause-unread g c (fault, e) = (tt, (c.in-Refusal.ensures.unread fault e).1)

pub returns-in-Ok-clause-complete : goal.returns-in-Ok-clause-complete
returns-in-Ok-clause-complete g c = ends_so _ _

pub returns-in-Ok-clause-formatted : goal.returns-in-Ok-clause-formatted
returns-in-Ok-clause-formatted g c = ends_so _ _

pub returns-in-Ok-clause-certified : goal.returns-in-Ok-clause-certified
returns-in-Ok-clause-certified g c = ends_so _ _

pub returns-in-Ok-clause-verified : goal.returns-in-Ok-clause-verified
returns-in-Ok-clause-verified g c = ends_so _ _

pub returns-in-Answer-clause-complete : goal.returns-in-Answer-clause-complete
returns-in-Answer-clause-complete g c = ends_so _ _

pub returns-in-Answer-clause-formatted : goal.returns-in-Answer-clause-formatted
returns-in-Answer-clause-formatted g c = ends_so _ _

pub returns-in-Answer-clause-certified : goal.returns-in-Answer-clause-certified
returns-in-Answer-clause-certified g c = ends_so _ _

pub returns-in-Answer-clause-verified : goal.returns-in-Answer-clause-verified
returns-in-Answer-clause-verified g c = ends_so _ _

pub returns-in-Refusal-clause-complete : goal.returns-in-Refusal-clause-complete
returns-in-Refusal-clause-complete g c = ends_so _ _

pub returns-in-Refusal-clause-formatted : goal.returns-in-Refusal-clause-formatted
returns-in-Refusal-clause-formatted g c = ends_so _ _

pub returns-in-Refusal-clause-certified : goal.returns-in-Refusal-clause-certified
returns-in-Refusal-clause-certified g c = ends_so _ _

pub returns-in-Refusal-clause-verified : goal.returns-in-Refusal-clause-verified
returns-in-Refusal-clause-verified g c = ends_so _ _
