-- A text whose steps certify a total has no bad step.
use Rattle.dl_cert.proofs.Common.{ℕ, zero, suc, ◌≡◌, ◌<◌, inl, inr, refl, ap₂, subst, arith, List, [], ◌∷◌, ◌++◌, length, get_or, take, take_all, Iv, Plan, AreSteps, lines_of, AllPass, made_after, Step, Made, made_by, Verifies, IsBadStep, IsBadLine, EndsAtTarget}
use Rattle.dl_cert.proofs.Readings.{step_is}

-- lines spell at most one list of steps
steps_are : (lines : List (List ℕ)) (ss ts : List Step) → AreSteps lines ss → AreSteps lines ts → ss ≡ ts
unfolding AreSteps
steps_are [] [] [] h k = refl
steps_are [] [] (t ∷ ts) h k = absurd k
steps_are [] (s ∷ ss) ts h k = absurd h
steps_are (l ∷ ls) [] ts h k = absurd h
steps_are (l ∷ ls) (s ∷ ss) [] h k = absurd k
steps_are (l ∷ ls) (s ∷ ss) (t ∷ ts) h k = ap₂ (λ x xs. x ∷ xs) (step_is h.0 k.0) (steps_are ls ss ts h.1 k.1)

-- where all steps pass, none is bad after those before it
good_line : (plan : Plan) (before : List Made) (lines : List (List ℕ)) (all first : List Step) (k : ℕ) → k < length lines
    → AreSteps lines all → AllPass plan before all → AreSteps (take k lines) first
    → ¬ IsBadLine plan (made_after before first) (get_or lines k [])
unfolding AreSteps
good_line plan before [] all first k inside spelled pass begin bad = omega (arith, inside)
good_line plan before (l ∷ ls) [] first k inside spelled pass begin bad = spelled
good_line plan before (l ∷ ls) (s ∷ ss) [] zero inside spelled pass begin bad = bad s spelled.0 pass.0
good_line plan before (l ∷ ls) (s ∷ ss) (t ∷ ts) zero inside spelled pass begin bad = begin
good_line plan before (l ∷ ls) (s ∷ ss) [] (suc k) inside spelled pass begin bad = begin
good_line plan before (l ∷ ls) (s ∷ ss) (t ∷ ts) (suc k) inside spelled pass begin bad =
    let same : t ≡ s = step_is begin.0 spelled.0 in
    good_line plan (before ++ made_by before s ∷ []) ls ss ts k (omega (arith, inside)) spelled.1 pass.1 begin.1
    (subst (λ x. IsBadLine plan (made_after (before ++ made_by before x ∷ []) ts) (get_or ls k [])) same bad)

pub no_bad_step : (plan : Plan) (text : List ℕ) (grid : List (Iv 56)) (k : ℕ) → Verifies plan text grid
    → ¬ IsBadStep plan text k
no_bad_step plan text grid k good bad = elim bad.bad [
  | inl line ↦ good_line plan [] (lines_of text) good.steps bad.steps k line.0 good.spelled good.certify.pass bad.spelled
      line.1
  | inr ends ↦
      let all : take k (lines_of text) ≡ lines_of text = take_all k (lines_of text) (omega (arith, ends.0)) in
      let same : good.steps ≡ bad.steps =
      steps_are (lines_of text) good.steps bad.steps good.spelled (subst (λ l. AreSteps l bad.steps) all bad.spelled) in
      ends.1 (subst (λ s. EndsAtTarget plan (made_after [] s)) same (record {
        before = good.certify.before;
        last = good.certify.last;
        ends = good.certify.made;
        label = good.certify.label;
      }))
]
