-- A portfolio under a common factor declares of its total what one gamma unit with the pooled severity does.
use Rattle.dl_model.proofs.Common.{◌≡◌, ℕ, ◌-◌, ◌*◌, ◌<◌, ◌≤◌, arith, refl, sym, ap, ap₂, ◌∙◌, mul-le-mul_right, List, [], ◌∷◌, fun_ext, sum, sum_by-cons, Fraction, ◌+ℚ◌, ◌*ℚ◌, ◌/ℚ◌, ◌<ℚ◌, whole, product_below, whole_pos, zero-lt-suc, suc, zero, sum_to, sum_over, ring, div_times, plus_comm, times_comm, times_assoc, times_cancel, times_zero, sum_to_same, sum_to_times, sum_to_times_right, sum_to_swap, sum_to_none, sum_to_plus, sum_to_either, times_one, IsSeverity, power, cell, gamma, gamma_of, One, Point, Cdf, Mean, Layer, Tail, score, where_true, layer, nat_eq, nat_le, nat_lt, Option, ◌-ℚ◌, factorial, whole_times, sum_over_same, sum_over_times, times_right_comm, divided_power, Quantity, PricedTerm, above_quantile, Price, Part, PoissonUnit, amounts, amounts_given_counts, ways_to_share, chances, expected_claims, common_sums, pooled_severity, AreSeverities, CountsTotal, sum_over_claims, total, le_refl_n}
use Rattle.dl_model.proofs.TotalLaws.{div_is_times, pos_plus, cells_all, divided_whole}
use Rattle.dl_model.proofs.SharedClaims.{mixed, weighed, weighed_same, weighed_by_total, first_none, others_none, four_factors, claims_same, claims_times, scaled_power}

pub sum_alone : (x : ℕ) → sum (x ∷ []) ≡ x
sum_alone x = sum_by-cons (λ (x : ℕ). x) x [] ∙ omega arith

-- ---- what counts the total alone

pub total_point : (x : ℕ) → CountsTotal (Point x)
total_point x ys = ap (λ t. where_true (nat_eq t x) (whole 1)) (sym (sum_alone (sum ys)))

pub total_cdf : (x : ℕ) → CountsTotal (Cdf x)
total_cdf x ys = ap (λ t. where_true (nat_le t x) (whole 1)) (sym (sum_alone (sum ys)))

pub total_mean : CountsTotal Mean
total_mean ys = ap whole (sym (sum_alone (sum ys)))

pub total_layer : (limit : Option ℕ) (attachment : ℕ) → CountsTotal (Layer limit attachment)
total_layer limit attachment ys = ap (λ t. whole (layer limit attachment t)) (sym (sum_alone (sum ys)))

pub total_tail : (p : Fraction) (q : ℕ) → CountsTotal (Tail p q)
total_tail p q ys = ap (λ t. whole q +ℚ whole (t - q) /ℚ (whole 1 -ℚ p)) (sym (sum_alone (sum ys)))

pub total_price : (terms : List PricedTerm) → CountsTotal (Price terms)
total_price terms ys = ap (λ x. sum_over terms (λ t. t.weight *ℚ above_quantile t.p t.quantile x))
    (sym (sum_alone (sum ys)))

pub total_part : (q : ℕ) (u : Fraction) → CountsTotal (Part q u)
total_part q u ys = ap (λ t. where_true (nat_lt t q) (whole 1) +ℚ where_true (nat_eq t q) u) (sym (sum_alone (sum ys)))

-- ---- one gamma unit for all

-- the product of the r + i over the i below n
abbrev pub orders : Fraction → ℕ → Fraction
orders r n = product_below n (λ i. r +ℚ whole i)

-- it is n! times the gamma weight of n claims without its power
orders_shared : (r : Fraction) (n : ℕ)
    → orders r n ≡ whole (factorial n) *ℚ product_below n (λ i. (r +ℚ whole i) /ℚ whole (suc i))
unfolding factorial product_below
orders_shared r zero = sym (times_one _)
orders_shared r (suc n) =
    let N = whole (suc n) in
    let P = product_below n (λ i. (r +ℚ whole i) /ℚ whole (suc i)) in
    ap₂ (λ s t. s *ℚ t) (orders_shared r n) (sym (div_times (r +ℚ whole n) N (whole_pos (suc n) (zero-lt-suc n))))
    ∙ turned (whole (factorial n)) P ((r +ℚ whole n) /ℚ N) N
    ∙ ap (λ t. t *ℚ (P *ℚ ((r +ℚ whole n) /ℚ N))) (sym (whole_times (suc n) (factorial n)))
  where
    turned : (F P d N : Fraction) → F *ℚ P *ℚ (d *ℚ N) ≡ N *ℚ F *ℚ (P *ℚ d)
    turned F P d N = simp ring

-- with n! and the number of ways, a divided power is a gamma weight times a power
pub gamma_divided : (r c : Fraction) (f : ℕ → Fraction) (n x : ℕ)
    → orders r n *ℚ divided_power (λ a. c *ℚ f a) n x ≡ gamma r c n *ℚ power f n x
unfolding gamma
gamma_divided r c f n x =
    let F = whole (factorial n) in
    let P = product_below n (λ i. (r +ℚ whole i) /ℚ whole (suc i)) in
    let D = divided_power (λ a. c *ℚ f a) n x in
    ap (λ t. t *ℚ D) (orders_shared r n) ∙ turned F P D
    ∙ ap (λ t. P *ℚ t) (divided_whole (λ a. c *ℚ f a) n x ∙ scaled_power c f n x) ∙ sym (times_assoc _ _ _)
  where
    turned : (F P D : Fraction) → F *ℚ P *ℚ D ≡ P *ℚ (D *ℚ F)
    turned F P D = simp ring

module _ (r : Fraction) (us : List PoissonUnit) where
  -- a claim's chance to be of a unit, and to be of any
  abbrev pub chance : PoissonUnit → Fraction
  chance u = u.mean /ℚ (r +ℚ expected_claims us)

  abbrev pub any_chance : Fraction
  any_chance = expected_claims us /ℚ (r +ℚ expected_claims us)

  -- the sum over the claims lists of n claims, by the parts of the units
  pub level_sum : (quantity : Quantity) (n : ℕ) → sum_over_claims us n (λ claims.
      score quantity (amounts claims) *ℚ amounts_given_counts claims *ℚ ways_to_share r n claims *ℚ
      chances r (expected_claims us) claims)
      ≡ orders r n *ℚ weighed chance us n (score quantity)
  level_sum quantity n = claims_same us n _ _ (λ claims. four_factors chance (score quantity (amounts claims))
      (orders r n) claims) ∙ claims_times us n (orders r n) _

  module _ (some : whole 0 <ℚ expected_claims us) where
    pub claims_pos : whole 0 <ℚ r +ℚ expected_claims us
    claims_pos = rw plus_comm (pos_plus (expected_claims us) r some)

    -- a chance is the chance of any times the unit's share
    pub chance_share : (u : PoissonUnit) → chance u ≡ any_chance *ℚ (u.mean /ℚ expected_claims us)
    chance_share u =
        let v = expected_claims us in
        let c = r +ℚ v in
        times_cancel _ _ c claims_pos (rw (
          div_times u.mean c claims_pos,
          times_right_comm any_chance,
          div_times v c claims_pos,
          times_comm v,
          div_times u.mean v some,
        ) refl)

    pub mixed_pooled : (a : ℕ) → mixed chance us a ≡ any_chance *ℚ pooled_severity us a
    mixed_pooled a =
        sum_over_same _ (λ u. any_chance *ℚ (u.mean /ℚ expected_claims us *ℚ u.severity a)) us
        (λ u. ap (λ t. t *ℚ u.severity a) (chance_share u) ∙ times_assoc _ _ _)
        ∙ sum_over_times any_chance (λ u. u.mean /ℚ expected_claims us *ℚ u.severity a) us

    -- the weight of n claims of the pooled unit, times the probability that they come to x
    pub pooled_weight : (n x : ℕ) → orders r n *ℚ divided_power (mixed chance us) n x
        ≡ gamma r any_chance n *ℚ power (pooled_severity us) n x
    pooled_weight n x = ap (λ f. orders r n *ℚ divided_power f n x) (fun_ext mixed_pooled)
        ∙ gamma_divided r any_chance (pooled_severity us) n x

    pub pooled : AreSeverities us → (M : ℕ) → ((a : ℕ) → M < a → pooled_severity us a ≡ whole 0)
        → (quantity : Quantity) → CountsTotal quantity → (N : ℕ)
        → common_sums r us quantity N ≡ sum_to (N * M) (λ x.
        cell (gamma_of r (expected_claims us)) (pooled_severity us) x N *ℚ score quantity (x ∷ []))
    pooled h M past quantity total N =
        let value : ℕ → Fraction = λ x. score quantity (x ∷ []) in
        let far = N * M in
        sum_to_same N _ _ (λ n c.
        let few : n * M ≤ far = mul-le-mul_right M c in
        level_sum quantity n
        ∙ ap (λ t. orders r n *ℚ t) (weighed_same chance us n _ (λ ys. value (sum ys)) total
        ∙ weighed_by_total chance us h M (λ a d. mixed_pooled a ∙ ap (λ t. any_chance *ℚ t) (past a d) ∙ times_zero _)
        n far few value)
        ∙ sym (sum_to_times far (orders r n) _)
        ∙ sum_to_same far _ (λ x. gamma r any_chance n *ℚ power (pooled_severity us) n x *ℚ value x) (λ x d.
        (simp ring) ∙ ap (λ t. t *ℚ value x) (pooled_weight n x)))
        ∙ sum_to_swap N far (λ n x. gamma r any_chance n *ℚ power (pooled_severity us) n x *ℚ value x)
        ∙ sum_to_same far _ _ (λ x d. sum_to_times_right N (value x)
        (λ n. gamma r any_chance n *ℚ power (pooled_severity us) n x))

-- ---- the pooled severity adds up to 1

scaled_all : (y : PoissonUnit → Fraction) (us : List PoissonUnit) → AreSeverities us → (M : ℕ)
    → ((a : ℕ) → M < a → mixed y us a ≡ whole 0) → sum_to M (mixed y us) ≡ sum_over us y
unfolding sum_over
scaled_all y [] h M past = sum_to_none M
scaled_all y (u ∷ us) h M past = sum_to_plus M (λ a. y u *ℚ u.severity a) (mixed y us)
    ∙ ap₂ (λ s t. s +ℚ t) (sum_to_either M u.most (λ a. y u *ℚ u.severity a) (λ a c. first_none y u us a (past a c))
    (λ a c. simp (h.0.past a c, times_zero)) ∙ rw (sum_to_times u.most (y u) u.severity, h.0.add_up) (times_one _))
    (scaled_all y us h.1 M (λ a c. others_none y u us a (past a c)))

pub pooled_is_severity : (us : List PoissonUnit) → AreSeverities us → whole 0 <ℚ expected_claims us → (M : ℕ)
    → ((a : ℕ) → M < a → pooled_severity us a ≡ whole 0) → IsSeverity (pooled_severity us) M
pooled_is_severity us h some M past =
    let v = expected_claims us in
    record {
      add_up = scaled_all (λ u. u.mean /ℚ v) us h M past
          ∙ sum_over_same _ (λ u. whole 1 /ℚ v *ℚ u.mean) us (λ u. div_is_times u.mean v some)
          ∙ sum_over_times (whole 1 /ℚ v) (λ (u : PoissonUnit). u.mean) us ∙ div_times (whole 1) v some;
      past = past;
    }

-- the whole weight
pub pooled_one : (r : Fraction) (us : List PoissonUnit) → AreSeverities us → whole 0 <ℚ expected_claims us → (M : ℕ)
    → ((a : ℕ) → M < a → pooled_severity us a ≡ whole 0) → (N : ℕ)
    → common_sums r us One N ≡ sum_to N (gamma_of r (expected_claims us))
pooled_one r us h some M past N = pooled r us some h M past One (λ ys. refl) N
    ∙ sum_to_same (N * M) _ _ (λ x c. times_one _) ∙ cells_all (gamma_of r (expected_claims us))
    (pooled_severity us) M (pooled_is_severity us h some M past) N (N * M) (le_refl_n _)
