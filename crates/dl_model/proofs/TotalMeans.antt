-- The mean of a total is the sum of the means.
use Rattle.dl_model.proofs.Common.{sym, subst, subst₂, List, [], ◌∷◌, fun_ext, Fraction, ◌+ℚ◌, whole, times_one, one_times, Rises, Holds, times, Loss, IsLoss, AreDeclarable, One, Mean, score, partial_sums, level_mean}
use Rattle.dl_model.proofs.TotalLaws.{self_holds, holds_plus, holds_times, rises_times, loss_proper, outcomes_rise, total_alone_all, total_more_all, mean_more, mean_alone}

pub mean_of_total : (u : Loss) (us : List Loss) → IsLoss u → AreDeclarable us → (l h l' h' : Fraction)
    → Holds (partial_sums (u ∷ []) Mean) (partial_sums (u ∷ []) One) l h
    → Holds (partial_sums us Mean) (partial_sums us One) l' h'
    → Holds (partial_sums (u ∷ us) Mean) (partial_sums (u ∷ us) One) (l +ℚ l') (h +ℚ h')
mean_of_total u us is are l h l' h' v v' =
    let W = u.family.all in
    let A = level_mean u in
    let O = partial_sums us One in
    let M = partial_sums us Mean in
    let alone = fun_ext (mean_alone u is) in
    let rise : Rises A = subst Rises alone (outcomes_rise (u ∷ []) (is, tt) (score Mean)) in
    let w : Rises W = (loss_proper u is).all_rises in
    let o : Rises O = outcomes_rise us are (score One) in
    let r : Rises M = outcomes_rise us are (score Mean) in
    let a : Holds A W l h = subst₂ (λ Q R. Holds Q R l h) alone (fun_ext (total_alone_all u is)) v in
    let left = holds_times A W O O l (whole 1) h (whole 1) rise w o o a (self_holds O) in
    let right = holds_times W W M O (whole 1) l' (whole 1) h' w w r o (self_holds W) v' in
    let both = holds_plus (times A O) (times W M) (times W O) _ _ _ _ (rises_times A O rise o) (rises_times W M w r)
    left right in
    subst₂ (λ Q R. Holds Q R (l +ℚ l') (h +ℚ h')) (sym (fun_ext (mean_more u us is)))
    (sym (fun_ext (total_more_all u us is)))
    (simp (times_one, one_times) at both)
