-- The total of independent Poisson units is one Poisson unit, whose severity mixes theirs by their parts of all claims.
use Rattle.dl_model.proofs.Common.{◌≡◌, ℕ, zero, suc, refl, sym, ap, ap₂, subst, subst₂, ◌∙◌, arith, List, [], ◌∷◌, ◌++◌, map, fun_ext, All, All-head, All-tail, All-cons, All-nil, plus_zero, Fraction, whole, ◌*ℚ◌, ◌/ℚ◌, ◌<ℚ◌, ◌^ℚ◌, sum_to, sum_over, sum_pairs, factorial, factorial_pos, ring, div_times, times_le_both, times_assoc, times_cancel, times_comm, times_one, whole_pos, whole_times, sum_over_same, sum_over_times, sum_pairs_same, sum_to_same, Series, times, Freq, Fixed, Table, Bernoulli, Binomial, Poisson, Gamma, UnitOfPlan, expected_count, probability_of, greatest, CanShare, at_zero, power, cell, poisson, compound, SameCells, loss, plain, Loss, AreDeclarable, total, sum_over_outcomes, IsDeclarable, Aggregate, count_weights, outcome_after, loss_of, after_zero, compound_of, divided_power, PoissonUnit, AreSeverities, expected_claims, pooled_severity, poisson_units, IsPoissonSum, Iv, GridEncloses, length, low_at, high_at, ◌^◌, IsPoisson}
use Rattle.dl_model.proofs.ValueLaws.{AreLevel, level_same, level_trans, level_both, cauchy_level, same_value, sum_rises_to, rises_times, sum_at_zero}
use Rattle.dl_model.proofs.Divided.{divided_whole, divided_plus}
use Rattle.dl_model.proofs.Itself.{level_sum, rows_level, sum_to_at_zero}
use Rattle.dl_model.proofs.PoissonWeights.{poisson_zero, poisson_next, poisson_plus}
use Rattle.dl_model.proofs.PoissonTimes.{poisson_none}
use Rattle.dl_model.proofs.Outcomes.{total_more, total_more_all, total_append, total_append_all, total_proper, no_units}
use Rattle.dl_model.proofs.UnitLaws.{unit_loss, unit_plain}
use Rattle.dl_model.proofs.Alike.{same_cells_enclosed}
use Rattle.dl_model.proofs.SharedClaims.{mixed, scaled_power}
use Rattle.dl_model.proofs.CommonPlans.{expected_units, are_severities}

-- ---- weights as divided powers

poisson_undivided : (v : Fraction) (n : ℕ) → poisson v n *ℚ whole (factorial n) ≡ v ^ℚ n
unfolding factorial ◌^ℚ◌
poisson_undivided v zero = times_one _ ∙ poisson_zero v
poisson_undivided v (suc n) =
    ap (λ t. poisson v (suc n) *ℚ t) (whole_times (suc n) (factorial n)) ∙ sym (times_assoc _ _ _)
    ∙ ap (λ t. t *ℚ whole (factorial n)) (poisson_next v n) ∙ times_assoc _ _ _
    ∙ ap (λ t. v *ℚ t) (poisson_undivided v n)

poisson_divided : (v : Fraction) (f : ℕ → Fraction) (n s : ℕ)
    → poisson v n *ℚ power f n s ≡ divided_power (λ a. v *ℚ f a) n s
poisson_divided v f n s =
    let w = whole (factorial n) in
    times_cancel _ _ w (whole_pos (factorial n) (factorial_pos n))
    ((simp ring) ∙ ap (λ t. t *ℚ power f n s) (poisson_undivided v n) ∙ sym (scaled_power v f n s)
    ∙ sym (divided_whole (λ a. v *ℚ f a) n s))

cell_divided : (v : Fraction) (f : ℕ → Fraction) (s N : ℕ)
    → cell (poisson v) f s N ≡ sum_to N (λ n. divided_power (λ a. v *ℚ f a) n s)
cell_divided v f s N = sum_to_same N _ _ (λ n e. poisson_divided v f n s)

-- ---- the total

-- the expected claims of each amount, of all units
abbrev claims_of_amount : List PoissonUnit → ℕ → Fraction
claims_of_amount us a = mixed (λ u. u.mean) us a

abbrev alone : PoissonUnit → Aggregate
alone u = plain (poisson u.mean) u.severity u.most

abbrev pub losses : List PoissonUnit → List Loss
losses us = map (λ u. loss (alone u)) us

losses_declarable : (us : List PoissonUnit) → AreSeverities us → AreDeclarable (losses us)
losses_declarable [] h = tt
losses_declarable (u ∷ us) h =
    (unit_loss (alone u) (record { severity = h.0; clause = λ s. omega arith }), losses_declarable us h.1)

module _ (u : PoissonUnit) (us : List PoissonUnit) (h : AreSeverities (u ∷ us)) (y : ℕ) where
  abbrev first : ℕ → Fraction
  first a = u.mean *ℚ u.severity a

  abbrev rest : ℕ → Series
  rest j N = sum_to N (λ m. divided_power (claims_of_amount us) m j)

  first_apart : (N : ℕ) → (total (losses (u ∷ us))).cells y N
      ≡ sum_pairs y (λ i j. sum_to N (λ n. divided_power first n i) *ℚ (total (losses us)).cells j N)
  first_apart N =
      let declarable : IsDeclarable (alone u) = record { severity = h.0; clause = λ s. omega arith } in
      total_more (loss (alone u)) (losses us) (unit_loss (alone u) declarable) y N
      ∙ sum_pairs_same y _ _ (λ i j e. ap (λ t. t *ℚ (total (losses us)).cells j N)
      (unit_plain (alone u) declarable (λ s. refl) i N ∙ cell_divided u.mean u.severity i N))

  one_more : ((j : ℕ) → AreLevel ((total (losses us)).cells j) (rest j))
      → AreLevel ((total (losses (u ∷ us))).cells y) (λ N. sum_to N (λ n. divided_power (claims_of_amount (u ∷ us)) n y))
  unfolding sum_over
  one_more others =
      let one : ℕ → Series = λ i N. sum_to N (λ n. divided_power first n i) in
      let rises = λ (i : ℕ). sum_rises_to (λ n. divided_power first n i) in
      let fall = λ (j : ℕ). (total_proper (losses us) (losses_declarable us h.1)).cells_rise j in
      let rest_rises = λ (j : ℕ). sum_rises_to (λ m. divided_power (claims_of_amount us) m j) in
      level_trans _ _ _ (level_same _ _ first_apart)
      (level_trans _ (λ N. sum_pairs y (λ i j. one i N *ℚ rest j N)) _
      (level_sum y (λ i j. times (one i) ((total (losses us)).cells j)) (λ i j. times (one i) (rest j))
      (λ i j. rises_times _ _ (rises i) (fall j)) (λ i j. rises_times _ _ (rises i) (rest_rises j))
      (λ i j. level_both (λ x y. x *ℚ y) times_le_both _ _ _ _ (rises i) (rises i) (fall j) (rest_rises j)
      (level_same _ _ (λ N. refl)) (others j)))
      (level_trans _ _ _ (rows_level (divided_power first) (divided_power (claims_of_amount us)) y)
      (level_same _ _ (λ N. sum_to_same N _ _ (λ n e. sym (divided_plus first (claims_of_amount us) n y))))))

cells_level : (us : List PoissonUnit) → AreSeverities us → (y : ℕ)
    → AreLevel ((total (losses us)).cells y) (λ N. sum_to N (λ n. divided_power (claims_of_amount us) n y))
unfolding sum_over power
cells_level [] h y = level_same _ _ (λ N. no_units y N ∙ sym (sum_to_at_zero N (λ n. power at_zero n y))
    ∙ sum_to_same N _ _ (λ n e. ap (λ t. t *ℚ power at_zero n y) (poisson_none n)
    ∙ poisson_divided (whole 0) at_zero n y
    ∙ ap (λ f. divided_power f n y) (fun_ext (λ a. none a))))
  where
    none : (a : ℕ) → whole 0 *ℚ at_zero a ≡ whole 0
    none a = simp ring
cells_level (u ∷ us) h y = one_more u us h y (λ j. cells_level us h.1 j)

all_level : (us : List PoissonUnit) → AreSeverities us
    → AreLevel (total (losses us)).all (λ N. sum_to N (poisson (expected_claims us)))
unfolding sum_over sum_over_outcomes
all_level [] h = level_same _ _ (λ N. sym (ap (sum_to N) (sym (fun_ext poisson_none)) ∙ sum_at_zero N))
all_level (u ∷ us) h =
    let declarable : IsDeclarable (alone u) = record { severity = h.0; clause = λ s. omega arith } in
    let one = sum_rises_to (poisson u.mean) in
    let cauchy = cauchy_level (poisson u.mean) (poisson (expected_claims us)) in
    level_trans _ _ _ (level_same _ _ (total_more_all (loss (alone u)) (losses us) (unit_loss (alone u) declarable)))
    (level_trans _ (times (λ N. sum_to N (poisson u.mean)) (λ N. sum_to N (poisson (expected_claims us)))) _
    (level_both (λ x y. x *ℚ y) times_le_both _ _ _ _ one one
    (total_proper (losses us) (losses_declarable us h.1)).all_rises (sum_rises_to (poisson (expected_claims us)))
    (level_same _ _ (λ N. refl)) (all_level us h.1))
    (level_trans _ _ _ (cauchy.1, cauchy.0)
    (level_same _ _ (λ N. sum_to_same N _ _ (λ n e. sym (poisson_plus u.mean (expected_claims us) n))))))

-- ---- by the pooled severity

-- the whole times a part of it, and of that some part
pub part_back : (v n p : Fraction) → whole 0 <ℚ v → v *ℚ (n /ℚ v *ℚ p) ≡ n *ℚ p
part_back v n p some = sym (times_assoc v (n /ℚ v) p) ∙ ap (λ t. t *ℚ p) (times_comm v (n /ℚ v) ∙ div_times n v some)

pooled_claims : (us : List PoissonUnit) → whole 0 <ℚ expected_claims us → (a : ℕ)
    → expected_claims us *ℚ pooled_severity us a ≡ claims_of_amount us a
pooled_claims us some a =
    let v = expected_claims us in
    sym (sum_over_times v (λ (u : PoissonUnit). u.mean /ℚ v *ℚ u.severity a) us)
    ∙ sum_over_same _ _ us (λ u. part_back v u.mean (u.severity a) some)

pub pooled_total : (us : List PoissonUnit) → AreSeverities us → whole 0 <ℚ expected_claims us
    → SameCells (compound (poisson (expected_claims us)) (pooled_severity us)) (total (losses us))
pooled_total us h some y =
    let cells = cells_level us h y in
    let all = all_level us h in
    same_value _ _ _ _ (level_trans _ _ _ (level_same _ _ (λ N.
    cell_divided (expected_claims us) (pooled_severity us) y N
    ∙ sum_to_same N _ _ (λ n e. ap (λ f. divided_power f n y) (fun_ext (pooled_claims us some))))) (cells.1, cells.0))
    (all.1, all.0)

-- ---- units of a plan

poisson_weights : (freq : Freq) → IsPoisson freq → count_weights freq ≡ poisson (expected_count freq)
poisson_weights (Fixed m) h = absurd h
poisson_weights (Table counts all) h = absurd h
poisson_weights (Bernoulli q) h = absurd h
poisson_weights (Binomial trials q) h = absurd h
poisson_weights (Poisson mean) h = refl
poisson_weights (Gamma shape mean) h = absurd h

loss_is : (u : UnitOfPlan) → CanShare u
    → loss (plain (poisson (expected_count u.freq)) (probability_of u.sev) (greatest u.sev.items)) ≡ loss_of u
loss_is u h =
    sym (ap (λ o. after_zero o (record {
      count = count_weights u.freq;
      severity = probability_of u.sev;
      most = greatest u.sev.items;
      clause = outcome_after u.cede;
    })) h.zero
    ∙ ap₂ (λ w o. loss (record {
      count = w;
      severity = probability_of u.sev;
      most = greatest u.sev.items;
      clause = outcome_after o;
    })) (poisson_weights u.freq h.count) h.clause)

losses_are : (units : List UnitOfPlan) → All CanShare units → losses (poisson_units units) ≡ map loss_of units
losses_are [] h = refl
losses_are (u ∷ us) h =
    ap₂ (λ x xs. x ∷ xs) (loss_is u (All-head CanShare u us h)) (losses_are us (All-tail CanShare u us h))

module _ (units : List UnitOfPlan) (made : UnitOfPlan) (h : IsPoissonSum units made) where
  abbrev us : List PoissonUnit
  us = poisson_units units

  abbrev one : List PoissonUnit
  one = poisson_units (made ∷ [])

  positive : whole 0 <ℚ expected_claims us
  positive = subst (λ t. whole 0 <ℚ t) (sym (expected_units units)) h.some

  count_is : count_weights made.freq ≡ poisson (expected_claims us)
  count_is = poisson_weights made.freq h.alone.count ∙ ap poisson (h.claims ∙ sym (expected_units units))

  pub poisson_total : SameCells (compound_of made.freq made.sev) (total (map loss_of units))
  poisson_total =
      subst (λ ls. SameCells (compound_of made.freq made.sev) (total ls)) (losses_are units h.each)
      (subst₂ (λ w f. SameCells (compound w f) (total (losses us))) (sym count_is) (sym (fun_ext h.severity))
      (pooled_total us (are_severities units) positive))

  pub poisson_total_enclosed : {B : ℕ} (grid : List (Iv B)) → GridEncloses grid (compound_of made.freq made.sev)
      → GridEncloses grid (total (map loss_of units))
  poisson_total_enclosed {B} grid =
      same_cells_enclosed (2 ^ B) (length grid) (low_at grid) (high_at grid) _ _ poisson_total

  -- ---- beside other losses

  same_claims : (a : ℕ) → claims_of_amount one a ≡ claims_of_amount us a
  unfolding sum_over
  same_claims a =
      plus_zero _ ∙ ap₂ (λ v p. v *ℚ p) (h.claims ∙ sym (expected_units units)) (h.severity a)
      ∙ pooled_claims us positive a

  all_claims : expected_claims one ≡ expected_claims us
  unfolding sum_over
  all_claims = plus_zero _ ∙ h.claims ∙ sym (expected_units units)

  alone_can : All CanShare (made ∷ [])
  alone_can = All-cons CanShare made [] h.alone (All-nil CanShare)

  cells_alike : (y : ℕ) → AreLevel ((total (losses one)).cells y) ((total (losses us)).cells y)
  cells_alike y =
      let claims = cells_level us (are_severities units) y in
      level_trans _ _ _ (cells_level one (are_severities (made ∷ [])) y)
      (level_trans _ _ _ (level_same _ _ (λ N. ap (λ f. sum_to N (λ n. divided_power f n y)) (fun_ext same_claims)))
      (claims.1, claims.0))

  all_alike : AreLevel (total (losses one)).all (total (losses us)).all
  all_alike =
      let claims = all_level us (are_severities units) in
      level_trans _ _ _ (all_level one (are_severities (made ∷ [])))
      (level_trans _ _ _ (level_same _ _ (λ N. ap (λ v. sum_to N (poisson v)) all_claims)) (claims.1, claims.0))

  module _ (rest : List Loss) (w : AreDeclarable rest) where
    among : SameCells (total (rest ++ losses one)) (total (rest ++ losses us))
    among y =
        let first = total_proper rest w in
        let second = total_proper (losses one) (losses_declarable one (are_severities (made ∷ []))) in
        let third = total_proper (losses us) (losses_declarable us (are_severities units)) in
        same_value _ _ _ _
        (level_trans _ _ _ (level_same _ _ (total_append rest (losses one) w y))
        (level_trans _ (λ N. sum_pairs y (λ i j. (total rest).cells i N *ℚ (total (losses us)).cells j N)) _
        (level_sum y (λ i j. times ((total rest).cells i) ((total (losses one)).cells j))
        (λ i j. times ((total rest).cells i) ((total (losses us)).cells j))
        (λ i j. rises_times _ _ (first.cells_rise i) (second.cells_rise j))
        (λ i j. rises_times _ _ (first.cells_rise i) (third.cells_rise j))
        (λ i j. level_both (λ x z. x *ℚ z) times_le_both _ _ _ _ (first.cells_rise i) (first.cells_rise i)
        (second.cells_rise j) (third.cells_rise j) (level_same _ _ (λ N. refl)) (cells_alike j)))
        (level_same _ _ (λ N. sym (total_append rest (losses us) w y N)))))
        (level_trans _ _ _ (level_same _ _ (total_append_all rest (losses one) w))
        (level_trans _ (times (total rest).all (total (losses us)).all) _
        (level_both (λ x z. x *ℚ z) times_le_both _ _ _ _ first.all_rises first.all_rises second.all_rises
        third.all_rises (level_same _ _ (λ N. refl)) all_alike)
        (level_same _ _ (λ N. sym (total_append_all rest (losses us) w N)))))

    pub poisson_among : SameCells (total (rest ++ loss_of made ∷ [])) (total (rest ++ map loss_of units))
    poisson_among = subst₂ (λ ls ms. SameCells (total (rest ++ ls)) (total (rest ++ ms)))
        (losses_are (made ∷ []) alone_can) (losses_are units h.each) among
