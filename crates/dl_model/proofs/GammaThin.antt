-- Claims of amount 0 left out of a gamma count.
use Rattle.dl_model.proofs.Common.{◌≡◌, ℕ, suc, zero, ◌+◌, max, arith, sym, ap, ap₂, subst, subst₂, ◌∙◌, zero-lt-suc, fun_ext, le-max_left, le-max_right, Fraction, ◌+ℚ◌, ◌*ℚ◌, ◌/ℚ◌, ◌≤ℚ◌, ◌<ℚ◌, whole, sum_to, sum_pairs, Series, IsLeastBound, Rises, SameBounds, SameValue, times, convolve, refl, power, cell, gamma, gamma_of, ◌^ℚ◌, IsPositivePart, compound, times_itself, ring, plus_comm, plus_assoc, times_comm, times_assoc, times_left_comm, plus_times, times_plus, one_times, times_one, whole_pos, whole_plus, whole_suc, times_cancel, le_refl, le_trans, le_plus, times_le_both, lt_of_lt_of_le, div_times, div_pos, sum_to_same, sum_to_le, sum_to_grows, sum_to_times, sum_pairs_same, sum_pairs_plus, sum_pairs_times, sum_pairs_turn, sum_pairs_weighed, times_right_comm, times_second, one_pos}
use Rattle.dl_model.proofs.ValueLaws.{sum_rises_to, triangle_le_square, square_le_triangle, cauchy_low, AreLevel, level_trans, same_value, cancel_value, rises_to, value_trans, value_sym}
use Rattle.dl_model.proofs.Cauchy.{cauchy_high}
use Rattle.dl_model.proofs.Alike.{bounds_value}
use Rattle.dl_model.proofs.Thin.{split}
use Rattle.dl_model.proofs.Itself.{count_power}
use Rattle.dl_model.proofs.Least.{least_scaled, least_sum}
use Rattle.dl_model.proofs.Gamma.{gamma_zero, gamma_next, gamma_shift, gamma_plus, gamma_power, geometric_least, over_next}
use Rattle.dl_model.proofs.AnyShape.{gamma_bound, gamma_part, whole_least}

-- x is r's parameter over all amounts, x' that over the amounts above 0
module _ (f : ℕ → Fraction) (p : Fraction) (g : ℕ → Fraction) (h : IsPositivePart f p g) (r : Fraction)
    (x c x' : Fraction) (rest : x *ℚ f zero +ℚ c ≡ whole 1) (part : x' *ℚ c ≡ x *ℚ p) where
  -- the parameter of the claims of amount 0
  abbrev z : Fraction
  z = x *ℚ f zero

  -- the weight of i claims of amount 0 and j others
  abbrev t : ℕ → ℕ → Fraction
  t i j = gamma r (x *ℚ p) j *ℚ gamma (r +ℚ whole j) z i

  abbrev step : ℕ → Fraction
  step n = (r +ℚ whole n) *ℚ x

  shapes : (i j : ℕ) → r +ℚ whole j +ℚ whole i ≡ r +ℚ whole (i + j)
  shapes i j = plus_assoc r _ _ ∙ ap (λ s. r +ℚ s) (plus_comm _ _ ∙ sym (whole_plus i j))

  t_start : gamma r x zero ≡ t zero zero
  t_start = gamma_zero r x ∙ sym (ap₂ (λ a b. a *ℚ b) (gamma_zero r _) (gamma_zero _ _) ∙ times_one _)

  t_left : (i j : ℕ) → whole (suc i) *ℚ t (suc i) j ≡ step (i + j) *ℚ (f zero *ℚ t i j)
  t_left i j =
      let A = gamma r (x *ℚ p) j in
      let G = gamma (r +ℚ whole j) z in
      times_left_comm (whole (suc i)) A (G (suc i))
      ∙ ap (λ s. A *ℚ s) (gamma_next (r +ℚ whole j) z i ∙ ap (λ m. m *ℚ (x *ℚ f zero *ℚ G i)) (shapes i j))
      ∙ simp ring

  t_right : (i j : ℕ) → whole (suc j) *ℚ t i (suc j) ≡ step (i + j) *ℚ (p *ℚ t i j)
  t_right i j =
      let A = gamma r (x *ℚ p) in
      let G = gamma (r +ℚ whole j) z in
      let more : r +ℚ whole (suc j) ≡ r +ℚ whole j +ℚ whole 1 =
      ap (λ s. r +ℚ s) (whole_suc j) ∙ sym (plus_assoc r _ _) in
      sym (times_assoc _ _ _)
      ∙ ap₂ (λ a m. a *ℚ gamma m z i) (gamma_next r (x *ℚ p) j) more
      ∙ times_second (r +ℚ whole j) (x *ℚ p *ℚ A j) (gamma (r +ℚ whole j +ℚ whole 1) z i)
      ∙ ap (λ s. x *ℚ p *ℚ A j *ℚ s) (gamma_shift (r +ℚ whole j) z i ∙ ap (λ m. m *ℚ G i) (shapes i j))
      ∙ simp ring

  split_gamma : (n y : ℕ) → gamma r x n *ℚ power f n y ≡ sum_pairs n (λ j i. t i j *ℚ power g j y)
  split_gamma n y = split f p g h (gamma r x) step t t_start (λ n. gamma_next r x n ∙ sym (times_assoc _ _ _))
      t_left t_right n y ∙ sym (sum_pairs_turn n (λ i j. t i j *ℚ power g j y))

  split_all : (n : ℕ) → gamma r x n ≡ sum_pairs n (λ i j. t i j)
  unfolding sum_pairs
  split_all zero = t_start
  split_all (suc n) = over_next n _ _ (gamma_next r x n ∙ sym (times_assoc _ _ _) ∙ ap (λ s. step n *ℚ s) (split_all n)
      ∙ sym (sum_pairs_weighed n t ∙ sym (sum_pairs_plus n _ _)
      ∙ sum_pairs_same n _ (λ i j. step n *ℚ t i j) (λ i j e. ap₂ (λ a b. a +ℚ b) (t_left i j) (t_right i j)
      ∙ both (step (i + j)) (f zero) p (t i j) ∙ ap (λ s. s *ℚ (step (i + j) *ℚ t i j)) h.share ∙ one_times _
      ∙ ap (λ m. step m *ℚ t i j) e) ∙ sum_pairs_times n (step n) _))
    where
      both : (k a b s : Fraction) → k *ℚ (a *ℚ s) +ℚ k *ℚ (b *ℚ s) ≡ (a +ℚ b) *ℚ (k *ℚ s)
      both k a b s = simp ring

  module _ (L : Fraction) (inverse : L *ℚ c ≡ whole 1) (cp : whole 0 <ℚ c) where
    -- the sums of the weights of shape r at the claims of amount 0, which fall out of each quotient, and of shape j
    abbrev E : Series
    E N = sum_to N (gamma r z)

    abbrev F : ℕ → Series
    F j N = sum_to N (gamma (whole j) z)

    -- each number of claims above 0 counts for m
    module _ (m : ℕ → Fraction) where
      abbrev term : ℕ → Fraction
      term j = gamma r (x *ℚ p) j *ℚ m j

      abbrev in_all : Series
      in_all N = sum_to N (λ n. sum_pairs n (λ j i. t i j *ℚ m j))

      abbrev of_each : Series
      of_each N = sum_to N (λ j. sum_to N (λ i. t i j *ℚ m j))

      -- up to N claims above 0, without the common factor; and the same with the greatest sums
      abbrev V : Series
      V N = sum_to N (λ j. term j *ℚ F j N)

      abbrev D : Series
      D N = sum_to N (λ j. gamma r x' j *ℚ m j)

      row : (j N : ℕ) → sum_to N (λ i. t i j *ℚ m j) ≡ term j *ℚ sum_to N (gamma (r +ℚ whole j) z)
      row j N = sum_to_same N _ _ (λ i b. times_right_comm _ _ (m j)) ∙ sum_to_times N (term j) (gamma (r +ℚ whole j) z)

      sums : (j N : ℕ) → sum_to N (gamma (r +ℚ whole j) z) ≡ sum_to N (λ n. convolve (gamma r z) (gamma (whole j) z) n)
      sums j N = sum_to_same N _ _ (λ n b. gamma_plus r (whole j) z n)

      factor_out : (N : ℕ) → sum_to N (λ j. term j *ℚ (E N *ℚ F j N)) ≡ E N *ℚ V N
      factor_out N = sum_to_same N _ _ (λ j b. times_left_comm (term j) (E N) (F j N))
          ∙ sum_to_times N (E N) (λ j. term j *ℚ F j N)

      apart : AreLevel of_each (times E V)
      apart = (
        λ N. (
          N,
          subst (λ s. of_each N ≤ℚ s) (factor_out N) (sum_to_le N _ _ (λ j b. rw (row j N)
              (times_le_both _ _ _ _ (le_refl (term j))
              (rw (sums j N) (cauchy_low N (gamma r z) (gamma (whole j) z)))))),
        ),
        λ N. (
          N + N,
          subst (λ s. s ≤ℚ of_each (N + N)) (factor_out N) (le_trans _ _ _
              (sum_to_le N _ (λ j. sum_to (N + N) (λ i. t i j *ℚ m j)) (λ j b. rw (row j (N + N))
              (times_le_both _ _ _ _ (le_refl (term j))
              (rw (sums j (N + N)) (cauchy_high N (gamma r z) (gamma (whole j) z))))))
              (sum_to_grows N (N + N) (λ j. sum_to (N + N) (λ i. t i j *ℚ m j)) (omega arith))),
        ),
      )

      all_level : AreLevel in_all (times E V)
      all_level = level_trans in_all of_each (times E V) (
        λ N. (N, triangle_le_square N N (λ j i. t i j *ℚ m j) (omega arith)),
        λ N. (N + N, square_le_triangle N N (λ j i. t i j *ℚ m j)),
      ) apart

      V_rises : Rises V
      V_rises N = le_trans _ _ _ (sum_to_le N _ (λ j. term j *ℚ F j (suc N)) (λ j b.
          times_le_both _ _ _ _ (le_refl (term j)) (sum_rises_to (gamma (whole j) z) N)))
          (sum_to_grows N (suc N) (λ j. term j *ℚ F j (suc N)) (omega arith))

      to_part : x *ℚ p *ℚ L ≡ x'
      to_part = ap (λ s. s *ℚ L) (sym part) ∙ times_assoc _ _ _ ∙ ap (λ s. x' *ℚ s) (times_comm c L ∙ inverse)
          ∙ times_one x'

      greatest_part : (j : ℕ) → term j *ℚ L ^ℚ j ≡ gamma r x' j *ℚ m j
      greatest_part j = times_right_comm _ (m j) _
          ∙ ap (λ s. s *ℚ m j) (sym (gamma_part r (x *ℚ p) L j) ∙ ap (λ y. gamma r y j) to_part)

      greatest : (n : ℕ) → IsLeastBound (λ N. sum_to n (λ j. term j *ℚ F j N)) (D n)
      greatest n = subst (IsLeastBound (λ N. sum_to n (λ j. term j *ℚ F j N)))
          (sum_to_same n _ _ (λ j b. greatest_part j))
          (least_sum n (λ j N. term j *ℚ F j N) (λ j. term j *ℚ L ^ℚ j)
          (λ j N. times_le_both _ _ _ _ (le_refl (term j)) (sum_rises_to (gamma (whole j) z) N))
          (λ j. least_scaled (term j) (F j) (L ^ℚ j) (sum_rises_to (gamma (whole j) z))
          (whole_least z c rest cp L inverse j)))

      V_bounds : SameBounds V D
      V_bounds u = (
        λ b n. (greatest n).1 u (λ N.
            let k = max n N in
            le_trans _ _ _ (sum_to_le n _ (λ j. term j *ℚ F j k) (λ j e. times_le_both _ _ _ _ (le_refl (term j))
            (rises_to (F j) (sum_rises_to (gamma (whole j) z)) N k (le-max_right n N))))
            (le_trans _ _ _ (sum_to_grows n k (λ j. term j *ℚ F j k) (le-max_left n N)) (b k))),
        λ b n. le_trans _ _ _ ((greatest n).0 n) (b n),
      )

    -- the declared values of two such series are those without the claims of amount 0
    thin_of : (m k : ℕ → Fraction) → SameValue (in_all m) (in_all k) (D m) (D k)
    unfolding sum_to
    thin_of m k =
        let bound = gamma_bound z c rest cp r in
        value_trans _ _ (times E (V m)) (times E (V k)) _ _
        (same_value (in_all m) (in_all k) (times E (V m)) (times E (V k)) (all_level m) (all_level k))
        (value_trans _ _ (V m) (V k) _ _
        (cancel_value E (sum_rises_to (gamma r z)) bound.0 zero bound.1 E_pos (V m) (V k) (V_rises m) (V_rises k))
        (bounds_value (V m) (V k) (D m) (D k) (V_bounds m) (V_bounds k)))
      where
        E_pos : whole 0 <ℚ E zero
        E_pos = rw (gamma_zero r z) (whole_pos 1 one_pos)

    thin_value : (y : ℕ) → SameValue (cell (gamma r x) f y) (λ N. sum_to N (gamma r x))
        (cell (gamma r x') g y) (λ N. sum_to N (gamma r x'))
    thin_value y =
        let m : ℕ → Fraction = λ j. power g j y in
        let k : ℕ → Fraction = λ j. whole 1 in
        subst₂ (λ Q R. SameValue Q R (cell (gamma r x') g y) (λ N. sum_to N (gamma r x')))
        (fun_ext (λ N. sum_to_same N _ _ (λ n b. sym (split_gamma n y))))
        (fun_ext (λ N. sum_to_same N _ _ (λ n b. sum_pairs_same n _ (λ j i. t i j) (λ j i e. times_one _)
        ∙ sum_pairs_turn n t ∙ sym (split_all n))))
        (subst (λ R. SameValue (in_all m) (in_all k) (D m) R)
        (fun_ext (λ N. sum_to_same N _ _ (λ n b. times_one (gamma r x' n)))) (thin_of m k))

-- ---- by the mean

pub div_plus : (a b w : Fraction) → whole 0 <ℚ w → a +ℚ b ≡ w → a /ℚ w +ℚ b /ℚ w ≡ whole 1
div_plus a b w h e = times_cancel _ _ w h
    (plus_times _ _ w ∙ ap₂ (λ s t. s +ℚ t) (div_times a w h) (div_times b w h) ∙ e ∙ sym (one_times w))

pub pos_plus : (a b : Fraction) → whole 0 <ℚ a → whole 0 <ℚ a +ℚ b
pos_plus a b h = lt_of_lt_of_le (whole 0) a (a +ℚ b) h (le_plus a b)

-- the gamma weights of mean v and shape r have the parameter v / W, and r / W is the rest of 1
module _ (r v : Fraction) (above : whole 0 <ℚ r) where
  abbrev W : Fraction
  W = r +ℚ v

  pub mean_pos : whole 0 <ℚ W
  mean_pos = pos_plus r v above

  -- the sums of the weights of shape 1 with that parameter
  pub one_least : IsLeastBound (λ N. sum_to N (gamma (whole 1) (v /ℚ W))) (W /ℚ r)
  one_least = geometric_least (v /ℚ W) (r /ℚ W) (div_plus v r W mean_pos (plus_comm v r)) (W /ℚ r)
      (div_pos r W above mean_pos) (times_cancel _ _ W mean_pos
      (rw (times_assoc, div_times r W mean_pos, div_times W r above) (sym (one_times W))))

  -- that bound, times the shape and a part of the mean
  pub shape_times : (m : Fraction) → W /ℚ r *ℚ (r *ℚ (m /ℚ W)) ≡ m
  shape_times m = sym (times_assoc _ _ _) ∙ ap (λ t. t *ℚ (m /ℚ W)) (div_times W r above)
      ∙ times_comm W (m /ℚ W) ∙ div_times m W mean_pos

all_of : (v a p r : Fraction) → a +ℚ p ≡ whole 1 → v *ℚ a +ℚ (r +ℚ v *ℚ p) ≡ r +ℚ v
all_of v a p r e = (simp ring) ∙ ap (λ s. r +ℚ v *ℚ s) e ∙ ap (λ s. r +ℚ s) (times_one v)

rest_of : (v a b w : Fraction) → whole 0 <ℚ w → v *ℚ a +ℚ b ≡ w → v /ℚ w *ℚ a +ℚ b /ℚ w ≡ whole 1
rest_of v a b w h e = times_cancel _ _ w h ((simp ring)
    ∙ ap₂ (λ s t. s *ℚ a +ℚ t) (div_times v w h) (div_times b w h) ∙ e ∙ sym (one_times w))

part_of : (v p V w : Fraction) → whole 0 <ℚ V → whole 0 <ℚ w → v *ℚ p /ℚ V *ℚ (V /ℚ w) ≡ v /ℚ w *ℚ p
part_of v p V w Vp h = times_cancel _ _ w h
    (rw (times_assoc, div_times V w h, div_times (v *ℚ p) V Vp, times_right_comm (v /ℚ w), div_times v w h) refl)

-- u / (1 + u) = m / (r + m) where r * u = m
pub share_of : (r u m : Fraction) → whole 0 <ℚ r → r *ℚ u ≡ m → u /ℚ (whole 1 +ℚ u) ≡ m /ℚ (r +ℚ m)
share_of r u m rp e =
    let op : whole 0 <ℚ whole 1 +ℚ u = pos_plus (whole 1) u (whole_pos 1 (zero-lt-suc zero)) in
    let Vp : whole 0 <ℚ r +ℚ m = pos_plus r m rp in
    let both : r *ℚ (whole 1 +ℚ u) ≡ r +ℚ m = times_plus r (whole 1) u ∙ ap₂ (λ s t. s +ℚ t) (times_one r) e in
    times_cancel _ _ (r +ℚ m) Vp
    (ap (λ s. u /ℚ (whole 1 +ℚ u) *ℚ s) (sym both) ∙ times_left_comm _ _ _
    ∙ ap (λ s. r *ℚ s) (div_times u (whole 1 +ℚ u) op) ∙ e ∙ sym (div_times m (r +ℚ m) Vp))

-- thinning: claims of amount 0 can be left out of a gamma count
pub thin_gamma : (r v : Fraction) (f : ℕ → Fraction) (p : Fraction) (g : ℕ → Fraction) → whole 0 <ℚ r
    → IsPositivePart f p g → (y : ℕ)
    → SameValue (cell (gamma_of r v) f y) (λ N. sum_to N (gamma_of r v))
    (cell (gamma_of r (v *ℚ p)) g y) (λ N. sum_to N (gamma_of r (v *ℚ p)))
thin_gamma r v f p g rp h y =
    let W = r +ℚ v in
    let Wp = pos_plus r v rp in
    let V = r +ℚ v *ℚ p in
    let Vp = pos_plus r (v *ℚ p) rp in
    let x = v /ℚ W in
    let c = V /ℚ W in
    let cp : whole 0 <ℚ c = div_pos V W Vp Wp in
    let rest : x *ℚ f zero +ℚ c ≡ whole 1 = rest_of v (f zero) V W Wp (all_of v (f zero) p r h.share) in
    let part : v *ℚ p /ℚ V *ℚ c ≡ x *ℚ p = part_of v p V W Vp Wp in
    thin_value f p g h r x c (v *ℚ p /ℚ V) rest part (whole 1 /ℚ c) (div_times (whole 1) c cp) cp y

-- division: r shares of shape 1 over the amounts above 0, against shape r over all amounts
pub gamma_shares : (q : ℕ) (u v : Fraction) (f : ℕ → Fraction) (p : Fraction) (g : ℕ → Fraction) → IsPositivePart f p g
    → whole (suc q) *ℚ u ≡ v *ℚ p → (y : ℕ)
    → SameValue ((times_itself (compound (gamma_of (whole 1) u) g) (suc q)).cells y)
    ((times_itself (compound (gamma_of (whole 1) u) g) (suc q)).all)
    (cell (gamma_of (whole (suc q)) v) f y) (λ N. sum_to N (gamma_of (whole (suc q)) v))
gamma_shares q u v f p g h e y =
    let r = whole (suc q) in
    let rp = whole_pos (suc q) (zero-lt-suc q) in
    value_trans _ _ (cell (gamma_of r (v *ℚ p)) g y) (λ N. sum_to N (gamma_of r (v *ℚ p))) _ _
    (count_power (gamma_of (whole 1) u) (gamma_of r (v *ℚ p)) g (suc q) (gamma_power q _ ∙ ap (gamma r)
    (share_of r u (v *ℚ p) rp e)) y)
    (value_sym _ _ _ _ (thin_gamma r v f p g rp h y))
