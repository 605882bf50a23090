use Rattle.dl_model.proofs.Common.{◌*ℚ◌, ◌/ℚ◌, ◌≤ℚ◌, ◌<ℚ◌, whole, zero, subst, div_times, le_refl, lt_of_lt_of_le, order, times_le_both}
use Rattle.dl_model.proofs.values.law_reciprocal.Goals as goal

pub returns : goal.returns
returns c R K B p b =
    let Bp : whole 0 <ℚ B = lt_of_lt_of_le _ _ _ p (b K) in (
      λ n u h. grw (order, b n) (rw (div_times (whole 1) B Bp) (h zero)),
      λ n u h. subst (λ t. t ≤ℚ whole 1 /ℚ R K *ℚ u) (div_times (whole 1) (R K) p)
          (times_le_both _ _ _ _ (le_refl (whole 1 /ℚ R K)) (h K)),
    )
