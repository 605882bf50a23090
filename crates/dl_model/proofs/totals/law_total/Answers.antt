use Rattle.dl_model.proofs.Common.{◌++◌, [], ◌∷◌, sym, refl, sum_over_outcomes, total, product, nothing}
use Rattle.dl_model.proofs.FamilyLaws.{encloses_same}
use Rattle.dl_model.proofs.Outcomes.{no_units, total_alone, total_alone_all, total_append, total_append_all, total_proper}
use Rattle.dl_model.proofs.totals.law_total.Goals as goal

pub returns : goal.returns
unfolding sum_over_outcomes
returns c = record {
  none = λ S K lo hi. encloses_same S K lo hi nothing (total []) (λ x N. sym (no_units x N)) (λ N. refl);
  alone = λ S K lo hi u h. encloses_same S K lo hi u.family (total (u ∷ []))
      (λ x N. sym (total_alone u h x N)) (λ N. sym (total_alone_all u h N));
  both = λ S K lo hi us vs h. encloses_same S K lo hi (product (total us) (total vs)) (total (us ++ vs)) (λ x N. sym (total_append us vs h x N))
      (λ N. sym (total_append_all us vs h N));
  proper = total_proper;
}
