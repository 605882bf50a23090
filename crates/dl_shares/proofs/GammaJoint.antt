-- The joint mean of a gamma unit beside independent units, from the cells of the total with the unit's extra claims. One
-- claim apart leaves a gamma count with one more in its shape, and so do the extra claims.
use Rattle.dl_shares.proofs.Common.{ℕ, suc, ◌≡◌, ◌∙◌, ◌<◌, ◌≤◌, ◌^◌, List, ◌∷◌, length, get_or, refl, ap, ap₂, sym, subst, subst₂, arith, fun_ext, Fraction, whole, ◌over◌, ◌+ℚ◌, ◌*ℚ◌, ◌/ℚ◌, ◌<ℚ◌, sum_pairs, times_le_both, times_assoc, times_comm, times_left_comm, div_times, sum_pairs_same, UnitOfPlan, probability_of, expected_count, IsClaimCount, Iv, low_at, high_at, pow_pos, Series, Holds, GridEncloses, Loss, One, Point, Joint, partial_sums, score, gamma_of, count_weights, claims_mean, plus_comm, sum_to, convolve, cell, power, gamma, Family, unit_of, without, Rises, times, AreLevel, level_both, level_same, level_trans, same_value, rises_times, sum_rises, sum_rises_to, gamma_next, gamma_plus, gamma_shift, one_least, shape_times, share_of, level_sum, product_level, over_factor, convolve_assoc, unit_is, without_units, CanRaise, IsExtra, extra_count, gamma_count}
use Rattle.dl_model.specs.Plans.{loss_of}
use Rattle.dl_model.specs.Program.{AreDeclarable, IsLoss, total}
use Rattle.dl_model.proofs.Outcomes.{outcomes_rise, total_more, total_more_all}
use Rattle.dl_shares.proofs.BesideJoint.{cells_split}
use Rattle.dl_shares.proofs.JointValues.{amounts_over}
use Rattle.dl_shares.proofs.OneClaim.{beside_holds, rest_cell}
use Rattle.dl_shares.proofs.PlainUnits.{plain_cells, plain_all, plain_loss}

-- ---- the claims of two counts

module _ (a b f : ℕ → Fraction) (y : ℕ) where
  abbrev together : Series
  together N = sum_pairs y (λ i j. cell a f i N *ℚ cell b f j N)

  together_rises : Rises together
  together_rises = sum_rises y (λ i j. times (cell a f i) (cell b f j))
      (λ i j e. rises_times _ _ (sum_rises_to (λ n. a n *ℚ power f n i)) (sum_rises_to (λ n. b n *ℚ power f n j)))

-- ---- gamma counts of shape r and mean m

module _ (r m : Fraction) (above : whole 0 <ℚ r) where
  abbrev W : Fraction
  W = r +ℚ m

  abbrev own : ℕ → Fraction
  own = gamma r (m /ℚ W)

  abbrev more : ℕ → Fraction
  more = gamma (r +ℚ whole 1) (m /ℚ W)

  abbrev few : ℕ → Fraction
  few = gamma (whole 1) (m /ℚ W)

  one_apart : (n : ℕ) → own (suc n) *ℚ whole (suc n) ≡ r *ℚ (m /ℚ W) *ℚ more n
  one_apart n =
      let c = m /ℚ W in
      times_comm _ _ ∙ gamma_next r c n ∙ times_left_comm _ c (own n)
      ∙ ap (λ t. c *ℚ t) (sym (gamma_shift r c n)) ∙ times_left_comm c r (more n) ∙ sym (times_assoc r c (more n))

  -- the extra count has the same ratio
  extra_weights : gamma_of (whole 1) (m /ℚ r) ≡ few
  extra_weights = ap (gamma (whole 1)) (share_of r (m /ℚ r) m above (times_comm r (m /ℚ r) ∙ div_times m r above))

  -- and added to the unit's one more in the shape
  more_level : (f : ℕ → Fraction) (y : ℕ) → AreLevel (cell more f y) (together few own f y)
  more_level f y =
      let level = product_level few own f y in
      let added : convolve few own ≡ more = fun_ext (λ n. sym (gamma_plus (whole 1) r (m /ℚ W) n)
      ∙ ap (λ s. gamma s (m /ℚ W) n) (plus_comm (whole 1) r)) in
      subst (λ w. AreLevel (cell w f y) (together few own f y)) added (level.1, level.0)

  -- ---- beside the others, with the extra claims

  module _ (f : ℕ → Fraction) (us : List Loss) (w : AreDeclarable us) (i : ℕ) (there : i < length us)
      (unit : (y N : ℕ) → (unit_of us i).cells y N ≡ cell own f y N) (extra : Loss) (is_loss : IsLoss extra)
      (claims : (y N : ℕ) → extra.family.cells y N ≡ cell few f y N)
      (all : (N : ℕ) → extra.family.all N ≡ sum_to N few) (x : ℕ) where
    abbrev others : ℕ → Series
    others z = partial_sums (without us i) (Point z)

    abbrev ones : Series
    ones = partial_sums us One

    abbrev with_extra : ℕ → Series
    with_extra k = partial_sums (extra ∷ us) (Point k)

    others_rise : (z : ℕ) → Rises (others z)
    others_rise z = outcomes_rise (without us i) (without_units us i w) (score (Point z))

    extra_cell : (k N : ℕ) → with_extra k N ≡ sum_pairs k (λ y z. together few own f y N *ℚ others z N)
    extra_cell k N =
        total_more extra us is_loss k N
        ∙ sum_pairs_same k _ _ (λ y z e. ap₂ (λ s t. s *ℚ t) (claims y N) (cells_split us w i z N there
        ∙ sum_pairs_same z _ _ (λ y z e. ap (λ c. c *ℚ others z N) (unit y N))))
        ∙ sym (ap (λ g. g k) (convolve_assoc (λ y. cell few f y N) (λ y. cell own f y N) (λ z. others z N)))

    abbrev rest : ℕ → Series
    rest = rest_cell own more (r *ℚ (m /ℚ W)) one_apart f us w i there unit x

    rest_level : (k : ℕ) → AreLevel (rest k) (with_extra k)
    rest_level k =
        let rises = λ (y : ℕ). sum_rises_to (λ n. more n *ℚ power f n y) in
        level_trans _ _ _
        (level_sum k (λ y z. times (cell more f y) (others z)) (λ y z. times (together few own f y) (others z))
        (λ y z. rises_times _ _ (rises y) (others_rise z))
        (λ y z. rises_times _ _ (together_rises few own f y) (others_rise z))
        (λ y z. level_both (λ s t. s *ℚ t) times_le_both _ _ _ _ (rises y) (together_rises few own f y) (others_rise z)
        (others_rise z) (more_level f y) (level_same _ _ (λ N. refl))))
        (level_same _ _ (λ N. sym (extra_cell k N)))

    extra_all : AreLevel (partial_sums (extra ∷ us) One) (times ones (λ N. sum_to N few))
    extra_all = level_same _ _ (λ N. total_more_all extra us is_loss N ∙ ap (λ t. t *ℚ ones N) (all N)
        ∙ times_comm _ _)

    whole_back : (s : Fraction) → W /ℚ r *ℚ (r *ℚ (m /ℚ W) *ℚ s) ≡ m *ℚ s
    whole_back s = sym (times_assoc _ _ _) ∙ ap (λ t. t *ℚ s) (shape_times r m above m)

    abbrev ends : (ℕ → Fraction) → Fraction
    ends g = sum_pairs x (λ a k. whole a *ℚ f a *ℚ g k)

    gamma_holds : (lo hi : ℕ → Fraction)
        → ((k : ℕ) → k ≤ x → Holds (with_extra k) (partial_sums (extra ∷ us) One) (lo k) (hi k))
        → Holds (partial_sums us (Joint i x)) ones (m *ℚ ends lo) (m *ℚ ends hi)
    gamma_holds lo hi cells =
        let R = partial_sums (extra ∷ us) One in
        let told = beside_holds own more (r *ℚ (m /ℚ W)) one_apart f us w i there unit x R lo hi (λ k near.
        let same = same_value (rest k) R (with_extra k) R (rest_level k) (level_same R R (λ N. refl)) in
        ((same.0 _).1 (cells k near).0, (same.1 _).1 (cells k near).1)) in
        subst₂ (Holds (partial_sums us (Joint i x)) ones) (whole_back (ends lo)) (whole_back (ends hi))
        (over_factor _ ones (λ N. sum_to N few) R (W /ℚ r) _ _ (outcomes_rise us w (score One)) (sum_rises_to few)
        (one_least r m above) extra_all told)

-- ---- a unit of a plan

module _ (u made : UnitOfPlan) (can : CanRaise u) (counts : IsClaimCount u.freq) (is : IsExtra u made) where
  abbrev n : Fraction
  n = expected_count u.freq

  abbrev r : Fraction
  r = (gamma_count u.freq can.count counts).0

  abbrev f : ℕ → Fraction
  f = probability_of u.sev

  above : whole 0 <ℚ r
  above = (gamma_count u.freq can.count counts).2

  weights : count_weights u.freq ≡ own r n above
  weights = ap count_weights (gamma_count u.freq can.count counts).1

  made_weights : count_weights made.freq ≡ few r n above
  made_weights = ap count_weights (is.count ∙ ap extra_count (gamma_count u.freq can.count counts).1)
      ∙ extra_weights r n above

  pub gamma_exact : {B : ℕ} (grid : List (Iv B)) (us : List Loss) (i x : ℕ) (w : AreDeclarable us) → i < length us
      → get_or us i (loss_of u) ≡ loss_of u → GridEncloses grid (total (loss_of made ∷ us)) → x < length grid
      → Holds (partial_sums us (Joint i x)) (partial_sums us One) (claims_mean u (2 ^ B) x (low_at grid))
      (claims_mean u (2 ^ B) x (high_at grid))
  gamma_exact {B} grid us i x w there here encloses inside =
      let s = pow_pos B in
      let told = gamma_holds r n above f us w i there
      (λ y N. ap (λ (F : Family). F.cells y N) (unit_is us i (loss_of u) there)
      ∙ ap (λ (l : Loss). l.family.cells y N) here ∙ plain_cells u can.clause can.zero y N
      ∙ ap (λ c. cell c f y N) weights) (loss_of made) (plain_loss made is.clause is.zero)
      (λ y N. plain_cells made is.clause is.zero y N ∙ ap₂ (λ c g. cell c g y N) made_weights (fun_ext is.severity))
      (λ N. plain_all made is.clause is.zero N ∙ ap (sum_to N) made_weights) x
      (λ k. low_at grid k over 2 ^ B) (λ k. high_at grid k over 2 ^ B) (λ k near. encloses k (omega arith)) in
      subst₂ (λ a b. Holds (partial_sums us (Joint i x)) (partial_sums us One) a b)
      (ap (λ z. n *ℚ z) (amounts_over x (2 ^ B) u.sev (low_at grid) s))
      (ap (λ z. n *ℚ z) (amounts_over x (2 ^ B) u.sev (high_at grid) s)) told
