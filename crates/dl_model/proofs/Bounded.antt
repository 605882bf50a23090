-- Every quantity of declared losses is bounded, their whole weight is somewhere above 0, and their probabilities add up
-- to 1.
use Rattle.dl_model.proofs.Common.{◌≡◌, ℕ, zero, ◌+◌, ◌-◌, ◌≤◌, max, Bool, true, false, nat_eq, nat_lt, nat_le, arith, sym, ap, subst, ◌∙◌, List, [], ◌∷◌, sum, get_or, le-max_left, le-max_right, le-ltb, Fraction, ◌+ℚ◌, ◌-ℚ◌, ◌*ℚ◌, ◌/ℚ◌, ◌≤ℚ◌, ◌<ℚ◌, whole, ring, plus_comm, zero_plus, times_zero, times_one, one_times, whole_pos, one_pos, le_refl, le_trans, le_of_eq, zero_le, le_plus, plus_le_both, times_pos, lt_of_lt_of_le, times_le_both, whole_le, sum_over, sum_to_zero, IsBound, AtLeast, Settles, layer, Loss, fun_ext, AreDeclarable, One, Point, Cdf, Mean, Layer, Tail, Outcome, Joint, where_true, score, sum_over_outcomes, partial_sums, survival, AreDeclared, item_le_total, layer_le, Quantity, Series, Rises, Price, Part, Share, PricedTerm, IsAsked, ArePriced, times_plus, order}
use Rattle.dl_model.proofs.TotalLaws.{rises_to, loss_proper, outcomes_same, outcomes_plus, outcomes_times, outcomes_le, outcomes_rise, sum-cons, total_more_all, mean_more, survival_rest, cdf_grows, rest_pos, div_is_times}
use Rattle.dl_model.proofs.SettlesGamma.{settles_times}

pub are_units : (us : List Loss) → AreDeclared us → AreDeclarable us
are_units [] h = h
are_units (u ∷ us) h = (h.0.loss, are_units us h.1)

-- ---- bounds of the whole weight and of the mean

one_bound : (us : List Loss) → AreDeclared us → (B : Fraction) × IsBound (partial_sums us One) B
unfolding sum_over_outcomes
one_bound [] h = (whole 1, λ N. le_refl _)
one_bound (u ∷ us) h =
    let rest = one_bound us h.1 in (
      h.0.bound *ℚ rest.0,
      λ N. rw (total_more_all u us h.0.loss N) (times_le_both _ _ _ _ (h.0.bounded N) (rest.1 N)),
    )

mean_bound : (us : List Loss) → AreDeclared us → (B : Fraction) × IsBound (partial_sums us Mean) B
unfolding sum_over_outcomes
mean_bound [] h = (whole 0, λ N. le_refl _)
mean_bound (u ∷ us) h =
    let ones = one_bound us h.1 in
    let rest = mean_bound us h.1 in (
      h.0.mean_bound *ℚ ones.0 +ℚ h.0.bound *ℚ rest.0,
      λ N. rw (mean_more u us h.0.loss N) (grw (order, h.0.mean_bounded N, ones.1 N, h.0.bounded N, rest.1 N)),
    )

-- ---- each score is at most a factor of 1 and the total

abbrev pub scale : List ℕ → Fraction
scale ys = whole 1 +ℚ whole (sum ys)

abbrev pub IsScaled : (List ℕ → Fraction) → Type 0
IsScaled value = (k : Fraction) × ((ys : List ℕ) → value ys ≤ℚ k *ℚ scale ys)

by_one : (x : Fraction) (ys : List ℕ) → x ≤ℚ whole 1 → x ≤ℚ whole 1 *ℚ scale ys
by_one x ys h = rw one_times (le_trans _ _ _ h (le_plus _ _))

by_total : (n : ℕ) (ys : List ℕ) → n ≤ sum ys → whole n ≤ℚ whole 1 *ℚ scale ys
by_total n ys h = rw (one_times, plus_comm) (le_trans _ _ _ (whole_le n (sum ys) h) (le_plus _ _))

where_at_most : (b : Bool) (x : Fraction) → where_true b x ≤ℚ x
where_at_most true x = le_refl _
where_at_most false x = zero_le _

tail_scaled : (p : Fraction) (q : ℕ) → p <ℚ whole 1 → (ys : List ℕ)
    → score (Tail p q) ys ≤ℚ (whole q +ℚ whole 1 /ℚ (whole 1 -ℚ p)) *ℚ scale ys
tail_scaled p q h ys =
    let c = whole 1 /ℚ (whole 1 -ℚ p) in
    let s = whole (sum ys) in
    let below : whole (sum ys - q) ≤ℚ s = whole_le (sum ys - q) (sum ys) (omega arith) in
    rw (div_is_times (whole (sum ys - q)) _ (rest_pos p (whole 1) h)) (grw (order, below)
    (le_trans _ _ _ (le_plus (whole q +ℚ c *ℚ s) (whole q *ℚ s +ℚ c)) (le_of_eq _ _ (simp ring))))

-- what is at most k, and what is at most k times one outcome
by_factor : (k : Fraction) (ys : List ℕ) → k ≤ℚ k *ℚ scale ys
by_factor k ys = rw (times_plus, times_one) (le_plus _ _)

share_scaled : (p u : Fraction) (i : ℕ) → p <ℚ whole 1 → (ys : List ℕ) → whole (get_or ys i 0) /ℚ (whole 1 -ℚ p) +ℚ
    (whole 1 -ℚ u) *ℚ whole (get_or ys i 0) /ℚ (whole 1 -ℚ p)
    ≤ℚ whole 1 /ℚ (whole 1 -ℚ p) *ℚ (whole 1 +ℚ (whole 1 -ℚ u)) *ℚ scale ys
share_scaled p u i h ys =
    let y = whole (get_or ys i 0) in
    let r = rest_pos p (whole 1) h in
    let below : y ≤ℚ scale ys = rw one_times at (by_total (get_or ys i 0) ys (item_le_total ys i)) in
    rw (div_is_times y _ r, div_is_times ((whole 1 -ℚ u) *ℚ y) _ r) (grw (order, below, below) (le_of_eq _ _ (simp ring)))

price_scaled : (terms : List PricedTerm) → ArePriced terms
    → (k : Fraction) × ((ys : List ℕ) → score (Price terms) ys ≤ℚ k *ℚ scale ys)
unfolding sum_over
price_scaled [] h = (whole 0, λ ys. zero_le _)
price_scaled (t ∷ terms) h =
    let rest = price_scaled terms h.1 in
    let k = whole t.quantile +ℚ whole 1 /ℚ (whole 1 -ℚ t.p) in (
      t.weight *ℚ k +ℚ rest.0,
      λ ys. grw (order, tail_scaled t.p t.quantile h.0 ys, rest.1 ys) (le_of_eq _ _ (simp ring)),
    )

pub score_scaled : (quantity : Quantity) → IsAsked quantity → IsScaled (score quantity)
score_scaled One h = (whole 1, λ ys. by_one (whole 1) ys (le_refl _))
score_scaled (Point x) h = (whole 1, λ ys. by_one _ ys (where_at_most (nat_eq (sum ys) x) (whole 1)))
score_scaled (Cdf x) h = (whole 1, λ ys. by_one _ ys (where_at_most (nat_le (sum ys) x) (whole 1)))
score_scaled Mean h = (whole 1, λ ys. by_total (sum ys) ys (omega arith))
score_scaled (Layer limit attachment) h =
    (whole 1, λ ys. by_total (layer limit attachment (sum ys)) ys (layer_le limit attachment (sum ys)))
score_scaled (Tail p q) h = (whole q +ℚ whole 1 /ℚ (whole 1 -ℚ p), tail_scaled p q h)
score_scaled (Outcome i) h = (whole 1, λ ys. by_total (get_or ys i 0) ys (item_le_total ys i))
score_scaled (Joint i x) h = (
  whole 1,
  λ ys. le_trans _ _ _ (where_at_most (nat_eq (sum ys) x) (whole (get_or ys i 0)))
      (by_total (get_or ys i 0) ys (item_le_total ys i)),
)
score_scaled (Price terms) h = price_scaled terms h
score_scaled (Part q u) h = (
  whole 1 +ℚ u,
  λ ys. le_trans _ _ _ (plus_le_both _ _ _ _ (where_at_most (nat_lt (sum ys) q) (whole 1))
      (where_at_most (nat_eq (sum ys) q) u)) (by_factor (whole 1 +ℚ u) ys),
)
score_scaled (Share i p q u) h = (
  whole 1 /ℚ (whole 1 -ℚ p) *ℚ (whole 1 +ℚ (whole 1 -ℚ u)),
  λ ys. le_trans _ _ _ (plus_le_both _ _ _ _ (where_at_most (nat_lt q (sum ys)) _)
      (where_at_most (nat_eq (sum ys) q) _)) (share_scaled p u i h ys),
)

pub quantity_bounded : (us : List Loss) (quantity : Quantity) → AreDeclared us → IsAsked quantity
    → (u : Fraction) × IsBound (partial_sums us quantity) u
quantity_bounded us quantity h asked =
    let s = score_scaled quantity asked in
    let ones = one_bound us h in
    let means = mean_bound us h in (
      s.0 *ℚ (ones.0 +ℚ means.0),
      λ N. le_trans _ _ _ (outcomes_le us (score quantity) (λ ys. s.0 *ℚ scale ys) s.1 N)
          (rw (outcomes_times us s.0 scale N, outcomes_plus us (score One) (score Mean) N)
          (grw (order, ones.1 N, means.1 N))),
    )

-- ---- the whole weight is above 0

pub whole_positive : (us : List Loss) → AreDeclared us → (K : ℕ) × (whole 0 <ℚ partial_sums us One K)
unfolding sum_over_outcomes
whole_positive [] h = (zero, whole_pos 1 one_pos)
whole_positive (u ∷ us) h =
    let rest = whole_positive us h.1 in
    let K = max h.0.level rest.0 in (
      K,
      rw (total_more_all u us h.0.loss K) (times_pos _ _
          (lt_of_lt_of_le _ _ _ h.0.positive (rises_to u.family.all (loss_proper u h.0.loss).all_rises h.0.level K
          (le-max_left h.0.level rest.0)))
          (lt_of_lt_of_le _ _ _ rest.1 (rises_to (partial_sums us One)
          (outcomes_rise us (are_units us h.1) (score One)) rest.0 K (le-max_right h.0.level rest.0)))),
    )

-- ---- the probabilities add up to 1

one_settles : (us : List Loss) → AreDeclared us → Settles (partial_sums us One)
unfolding sum_over_outcomes
one_settles [] h = λ p q one qp. (zero, λ N. rw (times_one, ← one) (le_plus p q))
one_settles (u ∷ us) h =
    subst Settles (sym (fun_ext (total_more_all u us h.0.loss)))
    (settles_times u.family.all (partial_sums us One) (loss_proper u h.0.loss).all_rises
    (outcomes_rise us (are_units us h.1) (score One)) h.0.settles (one_settles us h.1))

-- the greatest total at a level
last_outcomes : List Loss → ℕ → ℕ
last_outcomes [] N = 0
last_outcomes (u ∷ us) N = u.last_outcome N + last_outcomes us N

none_above : (us : List Loss) (N a x : ℕ) → a + last_outcomes us N ≤ x
    → sum_over_outcomes us (λ ys. where_true (nat_lt x (a + sum ys)) (whole 1)) N ≡ whole 0
unfolding sum_over_outcomes last_outcomes
none_above [] N a x h = ap (λ b. where_true b (whole 1)) (le-ltb x (a + 0) (omega arith))
none_above (u ∷ us) N a x h =
    sum_to_zero (u.last_outcome N) _ (λ y b. ap (λ t. u.family.cells y N *ℚ t)
    (outcomes_same us _ (λ ys. where_true (nat_lt x (a + y + sum ys)) (whole 1)) N
    (λ ys. ap (λ s. where_true (nat_lt x s) (whole 1)) (omega (arith, sum-cons y ys)))
    ∙ none_above us N (a + y) x (omega arith)) ∙ times_zero _)

pub adds_up : (us : List Loss) (p q : Fraction) → AreDeclared us → p +ℚ q ≡ whole 1 → whole 0 <ℚ q
    → (x : ℕ) × AtLeast (partial_sums us (Cdf x)) (partial_sums us One) p
adds_up us p q h one pos =
    let s = one_settles us h p q one pos in
    let x = last_outcomes us s.0 in
    let nothing_left : survival us x s.0 ≡ whole 0 =
    outcomes_same us _ (λ ys. where_true (nat_lt x (0 + sum ys)) (whole 1)) s.0
    (λ ys. ap (λ s. where_true (nat_lt x s) (whole 1)) (omega arith)) ∙ none_above us s.0 0 x (omega arith) in
    let all : partial_sums us (Cdf x) s.0 ≡ partial_sums us One s.0 = sym (zero_plus _)
    ∙ ap (λ t. t +ℚ partial_sums us (Cdf x) s.0) (sym nothing_left) ∙ survival_rest us x s.0 in
    (x, λ n u b. le_trans _ _ _ (s.1 n) (subst (λ t. t ≤ℚ u) all (b s.0)))

-- ---- together

-- What D declares is bounded, above 0 somewhere, and adds up to 1; nothing falls.
pub record IsDistribution (D : Quantity → Series) : Type 0 where
  pub bounded : (quantity : Quantity) → IsAsked quantity → (u : Fraction) × IsBound (D quantity) u
  pub positive : (N : ℕ) × (whole 0 <ℚ D One N)
  pub adds_up : (p q : Fraction) → p +ℚ q ≡ whole 1 → whole 0 <ℚ q → (x : ℕ) × AtLeast (D (Cdf x)) (D One) p
  pub grows : (x y N : ℕ) → x ≤ y → D (Cdf x) N ≤ℚ D (Cdf y) N
  pub rises : Rises (D One)

pub losses_distribution : (us : List Loss) → AreDeclared us → IsDistribution (partial_sums us)
losses_distribution us h = record {
  bounded = λ quantity. quantity_bounded us quantity h;
  positive = whole_positive us h;
  adds_up = λ p q. adds_up us p q h;
  grows = cdf_grows us;
  rises = outcomes_rise us (are_units us h) (score One);
}
