-- A fine list sums to 1.
use Rattle.dl_reading.proofs.Common.{◌≡◌, Bool, true, false, not, ◌&&◌, refl, is_fine, is_one, sum_of}
use Rattle.dl_reading.proofs.law.law_fine.Goals as goal

both : (fine one : Bool) → (fine && not one) ≡ false → (fine && one) ≡ fine
both true true kept = refl
both true false kept = absurd (cc)
both false one kept = refl

pub returns : goal.returns
returns c = λ most probs kept. both (is_fine most probs) (is_one (sum_of probs)) kept
