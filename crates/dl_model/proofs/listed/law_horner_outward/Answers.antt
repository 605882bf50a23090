use Rattle.dl_model.proofs.Horner.{horner_low, horner_high}
use Rattle.dl_model.proofs.listed.law_horner_outward.Goals as goal

pub returns : goal.returns
returns c = record {
  low = λ S K k N w f lo low next start pos. horner_low S K k N w f pos lo low next start;
  high = λ S K k N w f hi high next start pos. horner_high S K k N w f pos hi high next start;
}
