-- Steps that pass enclose what their labels count, and a certificate's grid encloses the total.
use Rattle.dl_cert.proofs.Common.{length-map, ℕ, zero, suc, ◌≡◌, ◌⊎◌, ◌*◌, ◌/◌, ◌<◌, ◌≤◌, inl, inr, refl, sym, subst, arith, div-mul-le_self, List, [], ◌∷◌, ◌++◌, length, map, get_or, min, mul-le-mul_right, get_or-append_seam, cases_lt, eq-eqb, pow_pos, length-append, get_or_append_left, All-head, All-tail, div_ceil, All, fun_ext, count_pairs, Iv, low_at, high_at, all_at_zero, Plan, UnitOfPlan, thinned_mean, IsValid, IsValidUnit, nothing, Encloses, aggregates_of, total, same_cells_enclosed, encloses_product, nothing_encloses, Kind, One, Start, Times, IsCovered, Label, labelled, HasValues, one, low_start, high_start, Passes, AllPass, made_after, Certifies, Step, Made, made_at, made_by, label_of, unit_part, unit_parts, parts_of_plan, div_ceil_times}
use Rattle.dl_cert.proofs.Labelled.{encloses_none, encloses_once, encloses_together}
use Rattle.dl_cert.proofs.Parts.{start_encloses}
use Rattle.dl_cert.proofs.Targets.{parts_values, plan_made_up}
use Rattle.dl_cert.proofs.Values.{labelled_values}

-- the cells past the last have no low end
past_low : {B : ℕ} (cells : List (Iv B)) (x : ℕ) → length cells ≤ x → low_at cells x ≡ 0
unfolding low_at
past_low [] x h = refl
past_low (c ∷ cells) zero h = absurd (omega (arith, h))
past_low (c ∷ cells) (suc x) h = past_low cells x (omega (arith, h))

-- the unit that a start names
record Named (units : List UnitOfPlan) (u : ℕ) : Type 1 where
  unit : UnitOfPlan
  reads : {A : Type 0} (f : UnitOfPlan → A) (e : A) → get_or (map f units) u e ≡ f unit
  holds : (P : UnitOfPlan → Type 0) → All P units → P unit

named : (units : List UnitOfPlan) (u : ℕ) → u < length units → Named units u
named [] u h = absurd (omega (arith, h))
named (x ∷ xs) zero h = record { unit = x; reads = λ f e. refl; holds = λ P all. All-head P x xs all }
named (x ∷ xs) (suc u) h =
    let n = named xs u (omega (arith, h)) in
    record { unit = n.unit; reads = λ f e. n.reads f e; holds = λ P all. n.holds P (All-tail P x xs all) }

module _ (plan : Plan) (valid : IsValid plan) (covered : IsCovered plan) where
  K_pos : 0 < plan.cells
  K_pos = rw valid.cells.3 (pow_pos valid.cells.0)

  -- what a step that was made encloses
  pub record IsSound (made : Made) : Type 0 where
    pub long : length made.cells ≡ plan.cells
    pub encloses : Encloses one plan.cells (low_at made.cells) (high_at made.cells)
        (labelled (parts_of_plan plan) made.label)

  pub AreSound : List Made → Type 0
  AreSound before = (k : ℕ) → k < length before → IsSound (made_at before k)

  proper : (label : Label) → HasValues (labelled (parts_of_plan plan) label)
  proper label = labelled_values (parts_of_plan plan) label (parts_values plan.cells plan.units valid.units)

  Meets : List Made → Step → Type 0
  Meets before step = Encloses one plan.cells (low_at step.cells) (high_at step.cells)
      (labelled (parts_of_plan plan) (label_of before step.kind))

  module _ (before : List Made) (sound : AreSound before) (cells : List (Iv 56)) where
    step_one : Passes plan before (record { kind = One; cells = cells }) → Meets before (record { kind = One; cells = cells })
    unfolding Meets all_at_zero
    step_one p = encloses_none one plan.cells (low_at cells) (high_at cells) (parts_of_plan plan)
        (nothing_encloses one plan.cells (low_at cells) (high_at cells) (omega arith)
        (p.low zero K_pos) (elim (p.high zero K_pos) [ inl near ↦ near | inr far ↦ far ]) none)
      where
        none : (y : ℕ) → 0 < y → low_at cells y ≡ 0
        none zero pos = absurd (omega (arith, pos))
        none (suc y) pos = elim (cases_lt (suc y) plan.cells) [
          | inl inside ↦ omega (arith, p.low (suc y) inside)
          | inr past ↦ past_low cells (suc y) (omega (arith, p.cells, past))
        ]

    step_start : (u : ℕ) → Passes plan before (record { kind = Start u; cells = cells })
        → Meets before (record { kind = Start u; cells = cells })
    unfolding Meets
    step_start u p =
        let n = named plan.units u p.there in
        let unit = n.unit in
        let v = thinned_mean unit in
        let ok : IsValidUnit plan.cells unit = n.holds (IsValidUnit plan.cells) valid.units in
        let counted : 1 ≤ unit_parts unit = rw (n.reads unit_parts 0, eq-eqb u u refl) at (p.label u) in
        encloses_once one plan.cells (low_at cells) (high_at cells) (parts_of_plan plan) u
        (rw (length-map plan.units unit_part) p.there)
        (subst (Encloses one plan.cells (low_at cells) (high_at cells)) (sym (n.reads unit_part nothing))
        (start_encloses unit.sev v plan.cells K_pos (low_at cells) (high_at cells) unit.freq ok.count refl counted
        (λ y inside. rw (n.reads (λ (x : UnitOfPlan). low_start x.freq x.sev (thinned_mean x) (low_at cells) y) 0) at
        (p.low y inside))
        (λ y inside. rw (n.reads (λ (x : UnitOfPlan). high_start x.freq x.sev (thinned_mean x) (high_at cells) y) 0) at
        (p.high y inside))))

    step_times : (a b : ℕ) → Passes plan before (record { kind = Times a b; cells = cells })
        → Meets before (record { kind = Times a b; cells = cells })
    unfolding Meets AreSound
    step_times a b p =
        let A = made_at before a in
        let B = made_at before b in
        encloses_together one plan.cells (low_at cells) (high_at cells) (parts_of_plan plan) A.label B.label
        (encloses_product one plan.cells (low_at A.cells) (high_at A.cells) (low_at B.cells) (high_at B.cells)
        (labelled (parts_of_plan plan) A.label) (labelled (parts_of_plan plan) B.label) (omega arith)
        (proper A.label).proper (proper B.label).proper (sound a p.there.0).encloses (sound b p.there.1).encloses
        (low_at cells) (high_at cells)
        (λ y inside. low_outside (count_pairs y (λ i j. low_at A.cells i * low_at B.cells j)) (low_at cells y)
        (p.low y inside))
        (λ y inside. high_outside (count_pairs y (λ i j. high_at A.cells i * high_at B.cells j)) (high_at cells y)
        (p.high y inside)))
      where
        low_outside : (n l : ℕ) → l ≤ n / one → l * one ≤ n
        low_outside n l h = omega (arith, div-mul-le_self n one, mul-le-mul_right one h)

        least : (n h : ℕ) → min one (div_ceil n one) ≤ h → div_ceil n one ≤ one → div_ceil n one ≤ h
        least n h near within = omega (arith, near, within)

        high_outside : (n h : ℕ) → (min one (div_ceil n one) ≤ h) ⊎ (one ≤ h) → (n ≤ h * one) ⊎ (one ≤ h)
        high_outside n h (inr far) = inr far
        high_outside n h (inl near) = elim (cases_lt one (div_ceil n one)) [
          | inl past ↦ inr (omega (arith, near, past))
          | inr within ↦ inl (omega (
            arith,
            (div_ceil_times n one (omega arith)).0,
            mul-le-mul_right one (least n h near within),
          ))
        ]

  pub step_encloses : (before : List Made) → AreSound before → (step : Step) → Passes plan before step
      → IsSound (made_by before step)
  unfolding Meets
  step_encloses before sound step p = record { long = p.cells; encloses = go step.kind step.cells p }
    where
      go : (kind : Kind) (cells : List (Iv 56)) → Passes plan before (record { kind = kind; cells = cells })
          → Meets before (record { kind = kind; cells = cells })
      go One cells p = step_one before sound cells p
      go (Start u) cells p = step_start before sound cells u p
      go (Times a b) cells p = step_times before sound cells a b p

  -- one step more
  one_more : (before : List Made) (made : Made) → AreSound before → IsSound made → AreSound (before ++ made ∷ [])
  unfolding AreSound
  one_more before made sound here k inside = elim (cases_lt k (length before)) [
    | inl earlier ↦ subst IsSound (sym (get_or_append_left before (made ∷ []) _ k earlier)) (sound k earlier)
    | inr last ↦ subst (λ j. IsSound (made_at (before ++ made ∷ []) j)) (seam last inside)
        (subst IsSound (sym (get_or-append_seam before made [] _)) here)
  ]
    where
      seam : {k : ℕ} → length before ≤ k → k < length (before ++ made ∷ []) → length before ≡ k
      seam last inside = omega (arith, last, inside, length-append before (made ∷ []))

  pub all_sound : (before : List Made) (steps : List Step) → AreSound before → AllPass plan before steps
      → AreSound (made_after before steps)
  all_sound before [] sound pass = sound
  all_sound before (step ∷ steps) sound pass =
      all_sound (before ++ made_by before step ∷ []) steps
      (one_more before (made_by before step) sound (step_encloses before sound step pass.0)) pass.1

  pub certified : (steps : List Step) (grid : List (Iv 56)) → Certifies plan steps grid
      → Encloses one (length grid) (low_at grid) (high_at grid) (total (aggregates_of plan))
  unfolding AreSound
  certified steps grid c =
      let all = all_sound [] steps (λ k inside. absurd (omega (arith, inside))) c.pass in
      let offset : length c.before < length (c.before ++ c.last ∷ []) =
      omega (arith, length-append c.before (c.last ∷ [])) in
      let here : IsSound c.last =
      subst IsSound (get_or-append_seam c.before c.last [] _)
      (subst (λ made. (k : ℕ) → k < length made → IsSound (made_at made k)) c.made all (length c.before) offset) in
      let sound = rw (fun_ext c.label) at here.encloses in
      same_cells_enclosed one (length grid) (low_at grid) (high_at grid) _ _ (plan_made_up plan valid covered)
      (rw (c.cells, here.long) sound)
