-- Losses are proper families. Sums over the outcomes of all units are linear in the score, and the totals of units are
-- products of families.
use Rattle.dl_model.proofs.Common.{◌≡◌, inl, inr, ℕ, suc, zero, ◌+◌, ◌-◌, ◌<◌, ◌≤◌, nat_eq, arith, refl, sym, ap, ap₂, subst₂, ◌∙◌, List, [], ◌∷◌, ◌++◌, ne_eqb, eq-eqb, sum, fun_ext, cases_eq, sum_by-cons, Fraction, ◌+ℚ◌, ◌*ℚ◌, ◌≤ℚ◌, whole, sum_to, sum_pairs, sum_below, ring, whole_plus, plus_zero, times_plus, times_left_comm, times_assoc, times_one, one_times, times_zero, zero_times, le_refl, le_trans, times_le_both, sum_to_same, sum_to_plus, sum_to_times, sum_to_times_right, sum_to_le, sum_to_grows, sum_to_none, sum_to_either, sum_to_longer, le_of_eq, Rises, at_zero, convolve, Loss, IsLoss, One, Point, Mean, AreDeclarable, where_true, score, sum_over_outcomes, partial_sums, Family, total, level_mean, product, nothing, IsProper, sum_to_pairs, order}
use Rattle.dl_model.proofs.ValueLaws.{at_zero_convolve, convolve_assoc, convolve_comm, proper_product, nothing_proper}

abbrev cells_at : Loss → ℕ → ℕ → Fraction
cells_at u N y = u.family.cells y N

-- up to a place past the reach the cells make up the whole weight
full_to : (u : Loss) → IsLoss u → (k N : ℕ) → u.last_outcome N ≤ k → sum_to k (cells_at u N) ≡ u.family.all N
full_to u h k N b = sum_to_longer (u.last_outcome N) k _ b (λ y c. h.past y N c) ∙ h.full N

pub loss_proper : (u : Loss) → IsLoss u → IsProper u.family
loss_proper u h = record {
  cells_rise = h.cells_rise;
  all_rises = λ N. subst₂ (λ s t. s ≤ℚ t) (full_to u h (u.last_outcome (suc N)) N (h.last_rises N)) (h.full (suc N))
      (sum_to_le (u.last_outcome (suc N)) _ _ (λ y b. h.cells_rise y N));
  within = λ y N. le_trans _ _ _ (sum_to_grows y (y + u.last_outcome N) _ (omega arith))
      (le_of_eq _ _ (full_to u h (y + u.last_outcome N) N (omega arith)));
}

pub outcomes_same : (us : List Loss) (f g : List ℕ → Fraction) (N : ℕ) → ((ys : List ℕ) → f ys ≡ g ys)
    → sum_over_outcomes us f N ≡ sum_over_outcomes us g N
outcomes_same us f g N h = ap (λ s. sum_over_outcomes us s N) (fun_ext h)

pub outcomes_none : (us : List Loss) (N : ℕ) → sum_over_outcomes us (λ ys. whole 0) N ≡ whole 0
unfolding sum_over_outcomes
outcomes_none [] N = refl
outcomes_none (u ∷ us) N = simp (outcomes_none us, times_zero, sum_to_none)

pub outcomes_plus : (us : List Loss) (f g : List ℕ → Fraction) (N : ℕ)
    → sum_over_outcomes us (λ ys. f ys +ℚ g ys) N ≡ sum_over_outcomes us f N +ℚ sum_over_outcomes us g N
unfolding sum_over_outcomes
outcomes_plus [] f g N = refl
outcomes_plus (u ∷ us) f g N = simp (outcomes_plus us, times_plus, sum_to_plus)

pub outcomes_times : (us : List Loss) (k : Fraction) (f : List ℕ → Fraction) (N : ℕ)
    → sum_over_outcomes us (λ ys. k *ℚ f ys) N ≡ k *ℚ sum_over_outcomes us f N
unfolding sum_over_outcomes
outcomes_times [] k f N = refl
outcomes_times (u ∷ us) k f N =
    simp (outcomes_times us) (sum_to_same _ _ _ (λ y b. times_left_comm _ _ _) ∙ sum_to_times _ _ _)

pub outcomes_sum : (us : List Loss) (n : ℕ) (f : ℕ → List ℕ → Fraction) (N : ℕ)
    → sum_over_outcomes us (λ ys. sum_to n (λ i. f i ys)) N ≡ sum_to n (λ i. sum_over_outcomes us (f i) N)
unfolding sum_to
outcomes_sum us zero f N = refl
outcomes_sum us (suc n) f N = simp (outcomes_plus, outcomes_sum us n)

pub outcomes_below : (us : List Loss) (n : ℕ) (f : ℕ → List ℕ → Fraction) (N : ℕ)
    → sum_over_outcomes us (λ ys. sum_below n (λ i. f i ys)) N ≡ sum_below n (λ i. sum_over_outcomes us (f i) N)
unfolding sum_below
outcomes_below us zero f N = outcomes_none us N
outcomes_below us (suc n) f N = simp (outcomes_plus, outcomes_below us n)

pub outcomes_le : (us : List Loss) (f g : List ℕ → Fraction) → ((ys : List ℕ) → f ys ≤ℚ g ys) → (N : ℕ)
    → sum_over_outcomes us f N ≤ℚ sum_over_outcomes us g N
unfolding sum_over_outcomes
outcomes_le [] f g h N = h []
outcomes_le (u ∷ us) f g h N = sum_to_le (u.last_outcome N) _ _
    (λ y b. grw (order, outcomes_le us (λ ys. f (y ∷ ys)) (λ ys. g (y ∷ ys)) (λ ys. h (y ∷ ys)) N))

pub outcomes_rise : (us : List Loss) → AreDeclarable us → (f : List ℕ → Fraction) → Rises (sum_over_outcomes us f)
unfolding sum_over_outcomes
outcomes_rise [] h f N = le_refl _
outcomes_rise (u ∷ us) h f N =
    le_trans _ _ _ (sum_to_le (u.last_outcome N) _ _
    (λ y b. times_le_both _ _ _ _ (h.0.cells_rise y N) (outcomes_rise us h.1 (λ ys. f (y ∷ ys)) N)))
    (sum_to_grows (u.last_outcome N) (u.last_outcome (suc N)) _ (h.0.last_rises N))

-- ---- the total

pub sum-cons : (y : ℕ) (ys : List ℕ) → sum (y ∷ ys) ≡ y + sum ys
sum-cons y ys = sum_by-cons (λ (x : ℕ). x) y ys

-- no units
pub no_units : (x N : ℕ) → partial_sums [] (Point x) N ≡ at_zero x
unfolding sum_over_outcomes at_zero
no_units zero N = refl
no_units (suc x) N = ap (λ b. where_true b (whole 1)) (ne_eqb 0 (suc x) (omega arith))

pub total_above : (x y s : ℕ) (k : Fraction) → x < y → where_true (nat_eq (y + s) x) k ≡ whole 0
total_above x y s k h = ap (λ b. where_true b k) (ne_eqb (y + s) x (omega arith))

pub total_below : (x y s : ℕ) (k : Fraction) → y ≤ x → where_true (nat_eq (y + s) x) k ≡ where_true (nat_eq s (x - y)) k
total_below x y s k h = ap (λ b. where_true b k) (elim (cases_eq s (x - y)) [
  | inl e ↦ eq-eqb (y + s) x (omega arith) ∙ sym (eq-eqb s (x - y) e)
  | inr n ↦ ne_eqb (y + s) x (omega arith) ∙ sym (ne_eqb s (x - y) n)
])

-- a score that is 0 but where the total is x, by the outcome of the first unit
pub first_unit : (u : Loss) (us : List Loss) → IsLoss u → (v : ℕ → List ℕ → Fraction) (x N : ℕ)
    → sum_to (u.last_outcome N) (λ y. u.family.cells y N *ℚ sum_over_outcomes us
    (λ ys. where_true (nat_eq (sum (y ∷ ys)) x) (v y ys)) N)
    ≡ sum_pairs x (λ y z. u.family.cells y N *ℚ sum_over_outcomes us (λ ys. where_true (nat_eq (sum ys) z) (v y ys)) N)
first_unit u us h v x N =
    sum_to_either (u.last_outcome N) x _ (λ y b. simp (h.past y N b, zero_times))
    (λ y b. ap (λ t. u.family.cells y N *ℚ t) (outcomes_same us _ (λ ys. whole 0) N
    (λ ys. rw (sum-cons y ys) (total_above x y (sum ys) (v y ys) b)) ∙ outcomes_none us N) ∙ times_zero _)
    ∙ sum_to_same x _ (λ y. cells_at u N y *ℚ sum_over_outcomes us (λ ys. where_true (nat_eq (sum ys) (x - y)) (v y ys)) N)
    (λ y b. ap (λ t. u.family.cells y N *ℚ t)
    (outcomes_same us _ _ N (λ ys. rw (sum-cons y ys) (total_below x y (sum ys) (v y ys) b))))
    ∙ sum_to_pairs x (λ y z. cells_at u N y *ℚ sum_over_outcomes us (λ ys. where_true (nat_eq (sum ys) z) (v y ys)) N)

-- one unit more
pub total_more : (u : Loss) (us : List Loss) → IsLoss u → (x N : ℕ)
    → (total (u ∷ us)).cells x N ≡ (product u.family (total us)).cells x N
unfolding sum_over_outcomes
total_more u us h x N = first_unit u us h (λ y ys. whole 1) x N

pub total_more_all : (u : Loss) (us : List Loss) → IsLoss u → (N : ℕ)
    → (total (u ∷ us)).all N ≡ (product u.family (total us)).all N
unfolding sum_over_outcomes
total_more_all u us h N = sum_to_times_right _ _ _ ∙ ap (λ t. t *ℚ partial_sums us One N) (h.full N)

-- the mean, by the outcome of the first unit
pub mean_more : (u : Loss) (us : List Loss) → IsLoss u → (N : ℕ) → partial_sums (u ∷ us) Mean N
    ≡ level_mean u N *ℚ partial_sums us One N +ℚ u.family.all N *ℚ partial_sums us Mean N
unfolding sum_over_outcomes
mean_more u us h N =
    let M = u.last_outcome N in
    sum_to_same M _ _ (λ y b. ap (λ t. u.family.cells y N *ℚ t)
    (outcomes_same us _ _ N (λ ys. ap whole (sum-cons y ys) ∙ whole_plus y (sum ys)
    ∙ ap (λ t. t +ℚ whole (sum ys)) (sym (times_one (whole y))))
    ∙ outcomes_plus us (λ ys. whole y *ℚ score One ys) (score Mean) N
    ∙ ap (λ t. t +ℚ partial_sums us Mean N) (outcomes_times us (whole y) (score One) N))
    ∙ turn (u.family.cells y N) (whole y) (partial_sums us One N) (partial_sums us Mean N))
    ∙ sum_to_plus M (λ y. whole y *ℚ u.family.cells y N *ℚ partial_sums us One N)
    (λ y. u.family.cells y N *ℚ partial_sums us Mean N)
    ∙ ap₂ (λ s t. s +ℚ t) (sum_to_times_right M (partial_sums us One N) (λ y. whole y *ℚ u.family.cells y N))
    (sum_to_times_right M (partial_sums us Mean N) (cells_at u N)
    ∙ ap (λ t. t *ℚ partial_sums us Mean N) (h.full N))
  where
    turn : (o y a b : Fraction) → o *ℚ (y *ℚ a +ℚ b) ≡ y *ℚ o *ℚ a +ℚ o *ℚ b
    turn o y a b = simp ring

proper_same : (F G : Family) → ((y N : ℕ) → F.cells y N ≡ G.cells y N) → ((N : ℕ) → F.all N ≡ G.all N) → IsProper F
    → IsProper G
proper_same F G cells all p =
    subst₂ (λ C A. IsProper (record { cells = C; all = A })) (fun_ext (λ y. fun_ext (cells y))) (fun_ext all) p

pub total_proper : (us : List Loss) → AreDeclarable us → IsProper (total us)
unfolding sum_over_outcomes
total_proper [] h = proper_same nothing (total []) (λ x N. sym (no_units x N)) (λ N. refl) nothing_proper
total_proper (u ∷ us) h = proper_same (product u.family (total us))
    (total (u ∷ us)) (λ x N. sym (total_more u us h.0 x N)) (λ N. sym (total_more_all u us h.0 N))
    (proper_product u.family (total us) (loss_proper u h.0) (total_proper us h.1))

-- ---- totals side by side

abbrev points : List Loss → ℕ → ℕ → Fraction
points us N x = partial_sums us (Point x) N

points_more : (u : Loss) (us : List Loss) → IsLoss u → (N : ℕ)
    → points (u ∷ us) N ≡ convolve (cells_at u N) (points us N)
points_more u us h N = fun_ext (λ x. total_more u us h x N)

points_append : (us vs : List Loss) → AreDeclarable us → (N : ℕ)
    → points (us ++ vs) N ≡ convolve (points us N) (points vs N)
points_append [] vs h N =
    sym (ap (λ g. convolve g (points vs N)) (fun_ext (λ x. no_units x N)) ∙ at_zero_convolve (points vs N))
points_append (u ∷ us) vs h N = points_more u (us ++ vs) h.0 N ∙ ap (convolve (cells_at u N))
    (points_append us vs h.1 N) ∙ sym (ap (λ g. convolve g (points vs N)) (points_more u us h.0 N)
    ∙ convolve_assoc (cells_at u N) (points us N) (points vs N))

pub total_append : (us vs : List Loss) → AreDeclarable us → (x N : ℕ)
    → (total (us ++ vs)).cells x N ≡ (product (total us) (total vs)).cells x N
total_append us vs h x N = ap (λ g. g x) (points_append us vs h N)

pub total_append_all : (us vs : List Loss) → AreDeclarable us → (N : ℕ)
    → (total (us ++ vs)).all N ≡ (product (total us) (total vs)).all N
unfolding sum_over_outcomes
total_append_all [] vs h N = sym (one_times _)
total_append_all (u ∷ us) vs h N =
    total_more_all u (us ++ vs) h.0 N ∙ ap (λ t. u.family.all N *ℚ t) (total_append_all us vs h.1 N)
    ∙ sym (ap (λ t. t *ℚ partial_sums vs One N) (total_more_all u us h.0 N) ∙ times_assoc _ _ _)

-- one unit alone
pub total_alone : (u : Loss) → IsLoss u → (x N : ℕ) → (total (u ∷ [])).cells x N ≡ u.family.cells x N
total_alone u h x N = ap (λ g. g x) (points_more u [] h N ∙ convolve_comm _ _
    ∙ ap (λ g. convolve g (cells_at u N)) (fun_ext (λ x. no_units x N)) ∙ at_zero_convolve (cells_at u N))

pub total_alone_all : (u : Loss) → IsLoss u → (N : ℕ) → (total (u ∷ [])).all N ≡ u.family.all N
unfolding sum_over_outcomes
total_alone_all u h N = total_more_all u [] h N ∙ times_one _

pub mean_alone : (u : Loss) → IsLoss u → (N : ℕ) → partial_sums (u ∷ []) Mean N ≡ level_mean u N
unfolding sum_over_outcomes
mean_alone u h N = mean_more u [] h N ∙ ap₂ (λ s t. s +ℚ t) (times_one _) (times_zero _) ∙ plus_zero _
