-- The mean of a unit beside others is that of the unit alone, under a common factor too.
use Rattle.dl_shares.proofs.Common.{ℕ, zero, suc, ◌≡◌, ◌<◌, arith, sym, ap, ap₂, subst, subst₂, ◌∙◌, List, [], ◌∷◌, length, get_or, fun_ext, Fraction, whole, ◌*ℚ◌, ring, times_one, times_left_comm, Rises, Holds, times, Loss, IsLoss, AreDeclarable, One, Mean, Outcome, score, sum_over_outcomes, partial_sums, without, level_mean, self_holds, holds_times, loss_proper, outcomes_same, outcomes_times, outcomes_rise, total_alone_all, total_more_all, mean_alone, get_or-map, length-map, Plan, IsValid, plan_declared, by_factor, shared_outcome, sum_to_same, sum_to_times_right, unit_is, without_units}
use Rattle.dl_plan.specs.declared.plan.Unit.{Unit as UnitOfPlan}
use Rattle.dl_model.specs.Plans.{aggregates_of, declared, loss_of}
use Rattle.dl_model.proofs.Bounded.{are_units}
use Rattle.dl_shares.proofs.BesideJoint.{all_split}

loss_at : (us : List Loss) (i : ℕ) (u : Loss) → AreDeclarable us → i < length us → IsLoss (get_or us i u)
loss_at [] i u w b = absurd (omega arith)
loss_at (v ∷ us) zero u w b = w.0
loss_at (v ∷ us) (suc i) u w b = loss_at us i u w.1 (omega arith)

-- the unit's mean times the whole weight of the others
mean_split : (us : List Loss) (i : ℕ) (u : Loss) → AreDeclarable us → i < length us → (N : ℕ)
    → partial_sums us (Outcome i) N ≡ level_mean (get_or us i u) N *ℚ partial_sums (without us i) One N
unfolding sum_over_outcomes
mean_split [] i u w b N = absurd (omega arith)
mean_split (v ∷ us) zero u w b N =
    sum_to_same (v.last_outcome N) _ (λ y. whole y *ℚ v.family.cells y N *ℚ partial_sums us One N) (λ y h.
    ap (λ t. v.family.cells y N *ℚ t) (outcomes_same us _ (λ ys. whole y *ℚ score One ys) N
    (λ ys. sym (times_one (whole y)))
    ∙ outcomes_times us (whole y) (score One) N) ∙ turn (v.family.cells y N) (whole y) (partial_sums us One N))
    ∙ sum_to_times_right (v.last_outcome N) (partial_sums us One N) (λ y. whole y *ℚ v.family.cells y N)
  where
    turn : (a b c : Fraction) → a *ℚ (b *ℚ c) ≡ b *ℚ a *ℚ c
    turn a b c = simp ring
mean_split (v ∷ us) (suc i) u w b N =
    let m = level_mean (get_or us i u) N in
    sum_to_times_right (v.last_outcome N) (partial_sums us (Outcome i) N) (λ y. v.family.cells y N)
    ∙ ap₂ (λ s t. s *ℚ t) (w.0.full N) (mean_split us i u w.1 (omega arith) N)
    ∙ times_left_comm (v.family.all N) m (partial_sums (without us i) One N)
    ∙ ap (λ t. m *ℚ t) (sym (total_more_all v (without us i) w.0 N))

pub mean_beside : (us : List Loss) (i : ℕ) (u : Loss) (l h : Fraction) → AreDeclarable us → i < length us
    → Holds (partial_sums (get_or us i u ∷ []) Mean) (partial_sums (get_or us i u ∷ []) One) l h
    → Holds (partial_sums us (Outcome i)) (partial_sums us One) l h
mean_beside us i u l h w b held =
    let v = get_or us i u in
    let is = loss_at us i u w b in
    let A = level_mean v in
    let W = v.family.all in
    let O = partial_sums (without us i) One in
    let alone = fun_ext (mean_alone v is) in
    let a : Holds A W l h = subst₂ (λ Q R. Holds Q R l h) alone (fun_ext (total_alone_all v is)) held in
    let rise : Rises A = subst Rises alone (outcomes_rise (v ∷ []) (is, tt) (score Mean)) in
    let o : Rises O = outcomes_rise (without us i) (without_units us i w) (score One) in
    let weight : partial_sums us One ≡ times W O =
    fun_ext (λ N. all_split us w i N b ∙ ap (λ F. F.all N *ℚ O N) (unit_is us i u b)) in
    let both = holds_times A W O O l (whole 1) h (whole 1) rise (loss_proper v is).all_rises o o a (self_holds O) in
    subst₂ (λ Q R. Holds Q R l h) (sym (fun_ext (mean_split us i u w b))) (sym weight)
    (subst₂ (Holds (times A O) (times W O)) (times_one l) (times_one h) both)

-- in a plan, under a common factor too
pub plan_mean_beside : (plan : Plan) → IsValid plan → (i : ℕ) (u : UnitOfPlan) (l h : Fraction) → i < length plan.units
    → Holds (partial_sums (loss_of (get_or plan.units i u) ∷ []) Mean)
    (partial_sums (loss_of (get_or plan.units i u) ∷ []) One) l h
    → Holds (declared plan (Outcome i)) (declared plan One) l h
plan_mean_beside plan valid i u l h there held =
    by_factor (λ D. Holds (D (Outcome i)) (D One) l h) plan.common plan.units valid.common
    (mean_beside (aggregates_of plan) i (loss_of u) l h (are_units (aggregates_of plan) (plan_declared plan valid))
    (subst (λ n. i < n) (sym (length-map plan.units loss_of)) there)
    (subst (λ v. Holds (partial_sums (v ∷ []) Mean) (partial_sums (v ∷ []) One) l h)
    (sym (get_or-map loss_of plan.units i u (loss_of u) there)) held))
    (λ r factor. shared_outcome plan.cells r plan.units valid.units factor i u l h there held)
