use Rattle.dl_model.proofs.Common.{sym, refl, times_one, ◌^ℚ◌, nothing, times_itself}
use Rattle.dl_model.proofs.FamilyLaws.{encloses_same, encloses_power, itself_none, itself_one}
use Rattle.dl_model.proofs.families.law_powers.Goals as goal

pub returns : goal.returns
unfolding ◌^ℚ◌
returns c = record {
  none = λ S K lo hi F. encloses_same S K lo hi nothing (times_itself F 0) (λ y N. sym (itself_none F y N)) (λ N. refl);
  one = λ S K lo hi F. encloses_same S K lo hi F (times_itself F 1) (λ y N. sym (itself_one F y N)) (λ N. sym (times_one (F.all N)));
  sum = λ S K m n lo hi F. encloses_power S K lo hi F m n;
}
