-- What a unit in whole buckets keeps where the rules on it are not broken, and its unit of the plan.
use Rattle.dl_rules.proofs.Common.{ℕ, ◌≡◌, ◌∙◌, Bool, true, false, List, [], ◌∷◌, Option, None, Sev, Clause, refl, sym, ap, ap₂, subst, Ok, Err, Fraction, Settings, Span, at_if, not_at, ◌else◌, else_first, else_second, GridUnit, GridCount, Exposed, Listed, ◌++◌, has_shares, fractions_too_fine, IsGridUnit, off_grid_cession, severity_in_layer, support, final_severity, CheckFault, OutOfMemory, expected_claims, claims_of, claims_above_zero, breaks, cells_asked, fault_on_grid, IsWholeCount, IsCountChecked, IsCountMade, IsCedeOf, too_fine, exposed_too_fine, too_many_claims, has_too_many_claims, horizon_too_large, most_amount_at, IsWithin, made_of, Result, OnOk, IfOk, IfErr, UnitOfPlan, IsNewZero, IfSome, IsLayered, IsFineSev, TypeFault, StopsAt, HasFault, AnswersGrid, first_broken, clause_rules, whole_rules, number_rules, count_rules, change_rules, zero_base, zero_mean, IsErr, IsErrAnd, else_none, first_in, AllKept, Bounds, AreBounds, bounds_asked, bounds_within, IsFinal, AreClaims, IsNumberOf, IsUnitCount, count_of, number_of}
use Rattle.dl_rules.specs.declared.rule.Rule.TheVariants as rules
use Rattle.dl_rules.specs.declared.claims.Claims.{Claims}
use Rattle.dl_rules.proofs.Aggregates.{aggregate_valid}
use Rattle.dl_rules.proofs.FineClaims.{count_probs, fine_left, occ_shares, agr_shares}
use Rattle.dl_rules.proofs.KeptCounts.{AreWhole, AreChecked, probs_are, whole_count, count_kept}
use Rattle.dl_rules.proofs.Stops.{stop_second, stopped}
use Rattle.dl_rules.proofs.RuleLists.{only, both, all_kept, lists}
use Rattle.dl_rules.proofs.PlannedCounts.{claims_admitted, made_valid, made_is, made_zero, made_thinned, made_over}

-- a value that is given back where rules on it are kept
pub kept_as : {A : Type 0} (P : A → Type 0) (x : A) (rules : Result Unit CheckFault) (r : Result A CheckFault)
    → IfOk r (λ made. made ≡ x) → OnOk r (rules ≡ Ok tt) → OnOk rules (P x) → IfOk r P
kept_as P x rules (Ok made) same ok h = subst P (sym same) (subst (λ told. OnOk told (P x)) ok h)
kept_as P x rules (Err stop) same ok h = tt

-- ---- the severity, the layer and the clauses

pub layered_is : (unit : ℕ) (u : GridUnit) → IsGridUnit u → first_broken unit (clause_rules u) ≡ None
    → IsLayered u × (off_grid_cession u ≡ None)
layered_is unit u grid none =
    let kept = all_kept unit (clause_rules u) none in (
      record {
        weighted = record { grid = grid; weights = kept.0 };
        reached = kept.1.0;
        apart = kept.1.1.0;
        within = kept.1.1.1.0;
      },
      kept.1.1.1.1.0,
    )

-- ---- the count

-- with n claims expected
pub record Counted (bounds : Bounds) (u : GridUnit) (n : Option Fraction) : Type 0 where
  pub whole : AreWhole bounds u.count n
  pub fine : too_fine bounds u n ≡ None
  pub few : too_many_claims u n ≡ None

counted_is : (bounds : Bounds) (u : GridUnit) (n : Option Fraction) → AllKept (number_rules bounds u n) → Counted bounds u n
counted_is bounds u n kept = record {
  whole = record { whole = kept.0; within = kept.1.0; trials = kept.1.1.0; shape = kept.1.1.1.0 };
  fine = kept.1.1.1.1.0;
  few = kept.1.1.1.1.1.0;
}

pub whole_is : (bounds : Bounds) (unit : ℕ) (k : GridCount) (n : Option Fraction)
    → first_broken unit (whole_rules bounds k n) ≡ None → AreWhole bounds k n
whole_is bounds unit k n none =
    let kept = all_kept unit (whole_rules bounds k n) none in
    record { whole = kept.0; within = kept.1.0; trials = kept.1.1.0; shape = kept.1.1.1.0 }

pub whole_here : (bounds : Bounds) (u : GridUnit) (n : Option Fraction) → AreWhole bounds u.count n → too_fine bounds u n ≡ None
    → IsWholeCount u.count n
whole_here bounds u n are fine = whole_count bounds u.count n (claims_above_zero (final_severity u) n) are (fine_left bounds u n fine).1

pub many_span : (u : GridUnit) (n : Option Fraction) (claims : Claims) (r : Bool) → AreClaims u claims
    → IsUnitCount u.count n claims.count
    → r ≡ has_too_many_claims (count_of claims.count) (number_of claims.count) claims.above
    → at_if r u.name ≡ too_many_claims u n
unfolding too_many_claims
many_span u n claims r are is e =
    ap (λ b. at_if b u.name) (e ∙ ap₂ (λ k m. has_too_many_claims k m claims.above) is.same is.number
    ∙ ap (has_too_many_claims u.count n) (are.above ∙ ap (claims_above_zero (final_severity u)) is.number))

-- no number of claims is expected where they are listed
pub number_is : (bounds : Bounds) (bs : Fraction) (u : GridUnit) → IsNumberOf u.count (expected_claims bounds bs u)
unfolding expected_claims
number_is bounds bs u = of_count u.count
  where
    of_count : (k : GridCount) → IsNumberOf k (claims_of bounds bs u k)
    of_count (Exposed exposure freq) = tt
    of_count (Listed values probs) = refl

-- the rules on its count, from what they are asked of
module _ (bounds : Bounds) (bs : Fraction) (unit : ℕ) (u : GridUnit) (xs : List ℕ) (n : Option Fraction) (span : Option Span)
    (amounts : xs ≡ support (severity_in_layer u)) (number : n ≡ expected_claims bounds bs u) (at : span ≡ zero_mean xs u.count)
  where
    abbrev asked : Option TypeFault
    asked =
        breaks unit rules.ZeroMean span else first_broken unit (whole_rules bounds u.count n)
        else breaks unit rules.TooFine (too_fine bounds u n) else breaks unit rules.TooManyClaims (too_many_claims u n)

    pub count_fault : first_broken unit (count_rules bounds bs u) ≡ asked
    unfolding first_in
    count_fault =
        ap₂ (λ p m. breaks unit rules.ZeroMean p else first_broken unit (number_rules bounds u m))
        (sym (at ∙ ap (λ ys. zero_mean ys u.count) amounts)) (sym number)
        ∙ ap (λ o. breaks unit rules.ZeroMean span else o) (lists unit (whole_rules bounds u.count n)
        ((rules.TooFine, too_fine bounds u n) ∷ (rules.TooManyClaims, too_many_claims u n) ∷ [])
        ∙ ap (λ o. first_broken unit (whole_rules bounds u.count n) else breaks unit rules.TooFine (too_fine bounds u n) else o)
        (else_none (breaks unit rules.TooManyClaims (too_many_claims u n))))

    pub count_told : {A : Type 0} (r : Result A CheckFault) (stop : CheckFault) → IsErr r × IsErrAnd r (λ e. e ≡ stop)
        → StopsAt asked stop → HasFault (first_broken unit (count_rules bounds bs u)) r
    count_told r stop is told =
        stopped (HasFault (first_broken unit (count_rules bounds bs u))) r stop is (subst (λ o. StopsAt o stop) (sym count_fault) told)

module _ (bounds : Bounds) (allowed : AreBounds bounds) (bs : Fraction) (unit : ℕ) (u : GridUnit) (grid : IsGridUnit u) (none : first_broken unit (count_rules bounds bs u) ≡ None) where
  abbrev n : Option Fraction
  n = expected_claims bounds bs u

  abbrev above : Option Fraction
  above = claims_above_zero (final_severity u) n

  counted : Counted bounds u n
  counted = counted_is bounds u n (all_kept unit (count_rules bounds bs u) none).1

  parts : (fractions_too_fine bounds u ≡ false) × (exposed_too_fine bounds u.count n above ≡ false)
  parts = fine_left bounds u n counted.fine

  pub fine_occ : has_shares u.occ ≡ true
  fine_occ = occ_shares bounds u parts.0

  pub fine_agr : has_shares u.agr ≡ true
  fine_agr = agr_shares bounds u parts.0

  pub fine_sev : IsLayered u → off_grid_cession u ≡ None → IsFineSev bounds u
  fine_sev layered ceded = record { allowed = allowed; layered = layered; ceded = ceded; fine = parts.0 }

  claims_is : n ≡ claims_of bounds bs u u.count
  unfolding expected_claims
  claims_is = refl

  few_is : has_too_many_claims u.count n above ≡ false
  unfolding too_many_claims
  few_is = not_at _ u.name counted.few

  are_kept : AreChecked bounds u.count n above
  are_kept = record {
    whole = counted.whole;
    fine = parts.1;
    few = few_is;
    read = grid.count;
    paired = grid.paired;
    shared = probs_are bounds allowed u.count (count_probs bounds u parts.0);
    admitted = claims_admitted bounds bs u u.count n claims_is;
  }

  pub kept_is : IsCountChecked u.count n
  kept_is = count_kept bounds u.count n above are_kept

-- ---- all rules on the unit in whole buckets

pub asked_within : (settings : Settings) → AreBounds (bounds_asked settings)
asked_within settings = bounds_within settings.rules

module _ (settings : Settings) (unit : ℕ) (u : GridUnit) where
  abbrev clauses : Option TypeFault
  clauses = first_broken unit (clause_rules u)

  abbrev counted_fault : Option TypeFault
  counted_fault = first_broken unit (count_rules (bounds_asked settings) settings.bs u)

  abbrev far : Option Span
  far = horizon_too_large (cells_asked settings) (made_of u.agr)

  abbrev base : Option Span
  base = zero_base u.count u.zero (expected_claims (bounds_asked settings) settings.bs u)

  abbrev all_asked : Option TypeFault
  all_asked = clauses else counted_fault else breaks unit rules.HorizonTooLarge far else breaks unit rules.ZeroBase base

  pub grid_fault : fault_on_grid settings unit u ≡ all_asked
  unfolding fault_on_grid first_in
  grid_fault =
      lists unit (clause_rules u) (count_rules (bounds_asked settings) settings.bs u ++ change_rules settings u)
      ∙ ap (λ o. clauses else o) (lists unit (count_rules (bounds_asked settings) settings.bs u) (change_rules settings u)
      ∙ ap (λ o. counted_fault else breaks unit rules.HorizonTooLarge far else o) (else_none (breaks unit rules.ZeroBase base)))

  -- a check of the unit in whole buckets stops as a check of its part
  pub grid_told : (text : List ℕ) (r : Result UnitOfPlan CheckFault) (stop : CheckFault)
      → IsErr r × IsErrAnd r (λ e. e ≡ stop) → StopsAt all_asked stop → AnswersGrid settings unit text u r
  grid_told text r stop is told =
      stopped (AnswersGrid settings unit text u) r stop is (subst (λ o. StopsAt o stop) (sym grid_fault) told)

  -- a check that stops after the rules on clauses and counts
  pub late_told : (text : List ℕ) (r : Result UnitOfPlan CheckFault) (stop : CheckFault)
      → IsErr r × IsErrAnd r (λ e. e ≡ stop) → clauses ≡ None → counted_fault ≡ None
      → StopsAt (breaks unit rules.HorizonTooLarge far else breaks unit rules.ZeroBase base) stop
      → AnswersGrid settings unit text u r
  late_told text r stop is no_clause no_count told =
      grid_told text r stop is (stop_second clauses _ stop no_clause (stop_second counted_fault _ stop no_count told))

  pub grid_parts : fault_on_grid settings unit u ≡ None → (clauses ≡ None) × (counted_fault ≡ None) × (far ≡ None) × (base ≡ None)
  grid_parts none =
      let all = sym grid_fault ∙ none in
      let later = else_second clauses _ all in
      let last = both unit rules.HorizonTooLarge far _ (else_second counted_fault _ later) in
      (else_first clauses _ all, else_first counted_fault _ later, last.0, only unit rules.ZeroBase base last.1)

module _ (settings : Settings) (unit : ℕ) (u : GridUnit) (grid : IsGridUnit u)
    (within : IsWithin (most_amount_at (cells_asked settings)) u)
    (none : fault_on_grid settings unit u ≡ None) (text : List ℕ) where
  pub grid_answer : (made : UnitOfPlan) → made.name ≡ text → made.zero ≡ u.zero → IsFinal u made.sev
      → IsCountMade u.count (expected_claims (bounds_asked settings) settings.bs u) made.freq → IsCedeOf u.agr made.cede
      → AnswersGrid settings unit text u (Ok made)
  grid_answer made name zero sev freq cede =
      let parts = grid_parts settings unit u none in
      let ceded = (layered_is unit u grid parts.0).1 in
      let n = expected_claims (bounds_asked settings) settings.bs u in
      let bounds = bounds_asked settings in
      let allowed = asked_within settings in
      let kept = kept_is bounds allowed settings.bs unit u grid parts.1 in
      let valid = made_valid u.count n made.freq kept freq in (
        none,
        record {
          name = name;
          severity = sev.means;
          count = made_is bounds settings.bs u u.count n made.freq (claims_is bounds allowed settings.bs unit u grid parts.1) kept freq;
          clause = cede.same;
          zero = zero;
        },
        record {
          amounts = sev.near (most_amount_at (cells_asked settings)) within.sev;
          items = λ _. sev.few;
          count = valid.0;
          expected = valid.1;
          thinned = made_thinned (final_severity u) made.sev sev.means bounds u.count n made.freq
              (are_kept bounds allowed settings.bs unit u grid parts.1) freq;
          thinned_count = made_over (final_severity u) made.sev sev.means bounds u.count n made.freq
              (are_kept bounds allowed settings.bs unit u grid parts.1) freq;
          clause = aggregate_valid (cells_asked settings) u ceded (fine_occ bounds allowed settings.bs unit u grid parts.1) parts.2
              within made.sev sev.means made.cede cede;
          zero = subst (λ z. IfSome z (IsNewZero made.freq)) (sym zero)
              (made_zero u.count n u.zero made.freq kept freq grid.zero parts.3);
        },
      )

  -- the unit is made of these parts, or there is no room for it
  pub made_answer : (sev : Sev) (clause : Option Clause) → IsFinal u sev → IsCedeOf u.agr clause
      → (r : Result UnitOfPlan CheckFault) → IfOk r (λ made. made.name ≡ text) → IfOk r (λ made. made.sev ≡ sev)
      → IfOk r (λ made. IsCountMade u.count (expected_claims (bounds_asked settings) settings.bs u) made.freq)
      → IfOk r (λ made. made.cede ≡ clause) → IfOk r (λ made. made.zero ≡ u.zero) → IfErr r (λ stop. stop ≡ OutOfMemory)
      → AnswersGrid settings unit text u r
  made_answer sev clause final cede (Ok made) name same freq kept plain room =
      grid_answer made name plain (subst (IsFinal u) (sym same) final) freq (subst (IsCedeOf u.agr) (sym kept) cede)
  made_answer sev clause final cede (Err stop) name same freq kept plain room =
      subst (StopsAt (fault_on_grid settings unit u)) (sym room) tt
