-- Weighings of lists of outcomes: what the sums over the outcomes of independent units, and those over claims lists,
-- have in common.
use Rattle.dl_model.proofs.Common.{◌≡◌, ℕ, zero, suc, refl, sym, ap, ◌∙◌, List, [], ◌∷◌, length, fun_ext, Fraction, ◌+ℚ◌, ◌*ℚ◌, ◌≤ℚ◌, whole, sum_to, sum_below, zero_times, subst, inl, inr, cases_eq, eq-eqb, ne_eqb, item_le_total, times_one, whole_le, zero_le, sum, Joint, Point, Series, Quantity, Loss, score, sum_over_outcomes}
use Rattle.dl_model.proofs.TotalLaws.{outcomes_plus, outcomes_times, outcomes_le}

-- E is a weighted sum of the values of lists of outcomes at each level, with weights of 0 or more, and reads only lists
-- of one outcome of each of n units.
pub record IsWeighing (n : ℕ) (E : (List ℕ → Fraction) → Series) : Type 0 where
  pub adds : (f g : List ℕ → Fraction) (N : ℕ) → E (λ ys. f ys +ℚ g ys) N ≡ E f N +ℚ E g N
  pub scales : (k : Fraction) (f : List ℕ → Fraction) (N : ℕ) → E (λ ys. k *ℚ f ys) N ≡ k *ℚ E f N
  pub grows : (f g : List ℕ → Fraction) → ((ys : List ℕ) → f ys ≤ℚ g ys) → (N : ℕ) → E f N ≤ℚ E g N
  pub reads : (f g : List ℕ → Fraction) (N : ℕ) → ((ys : List ℕ) → length ys ≡ n → f ys ≡ g ys) → E f N ≡ E g N

-- what such a weighing declares of each quantity
abbrev pub weighed_by : ((List ℕ → Fraction) → Series) → Quantity → Series
weighed_by E quantity = E (score quantity)

pub weighed_same : (E : (List ℕ → Fraction) → Series) (f g : List ℕ → Fraction) (N : ℕ)
    → ((ys : List ℕ) → f ys ≡ g ys) → E f N ≡ E g N
weighed_same E f g N h = ap (λ s. E s N) (fun_ext h)

-- no outcome is above the total
outcome_le : (i x : ℕ) (ys : List ℕ) → score (Joint i x) ys ≤ℚ whole x *ℚ score (Point x) ys
outcome_le i x ys = elim (cases_eq (sum ys) x) [
  | inl e ↦ rw (eq-eqb (sum ys) x e, times_one) (whole_le _ _ (rw e at (item_le_total ys i)))
  | inr e ↦ rw (ne_eqb (sum ys) x e) (zero_le _)
]

module _ (n : ℕ) (E : (List ℕ → Fraction) → Series) (w : IsWeighing n E) where
  pub weighed_none : (N : ℕ) → E (λ ys. whole 0) N ≡ whole 0
  weighed_none N = weighed_same E _ (λ ys. whole 0 *ℚ whole 0) N (λ ys. sym (zero_times (whole 0)))
      ∙ w.scales (whole 0) (λ ys. whole 0) N ∙ zero_times _

  pub weighed_sum : (k : ℕ) (f : ℕ → List ℕ → Fraction) (N : ℕ)
      → E (λ ys. sum_to k (λ i. f i ys)) N ≡ sum_to k (λ i. E (f i) N)
  unfolding sum_to
  weighed_sum zero f N = refl
  weighed_sum (suc k) f N =
      w.adds (λ ys. sum_to k (λ i. f i ys)) (f (suc k)) N ∙ ap (λ t. t +ℚ E (f (suc k)) N) (weighed_sum k f N)

  pub weighed_below : (k : ℕ) (f : ℕ → List ℕ → Fraction) (N : ℕ)
      → E (λ ys. sum_below k (λ i. f i ys)) N ≡ sum_below k (λ i. E (f i) N)
  unfolding sum_below
  weighed_below zero f N = weighed_none N
  weighed_below (suc k) f N =
      w.adds (λ ys. sum_below k (λ i. f i ys)) (f k) N ∙ ap (λ t. t +ℚ E (f k) N) (weighed_below k f N)

  pub joint_le_point : (i x N : ℕ) → E (score (Joint i x)) N ≤ℚ whole x *ℚ E (score (Point x)) N
  joint_le_point i x N = subst (λ t. E (score (Joint i x)) N ≤ℚ t) (w.scales (whole x) (score (Point x)) N)
      (w.grows (score (Joint i x)) (λ ys. whole x *ℚ score (Point x) ys) (outcome_le i x) N)

-- ---- independent units

outcomes_of_length : (us : List Loss) (f g : List ℕ → Fraction) (N : ℕ)
    → ((ys : List ℕ) → length ys ≡ length us → f ys ≡ g ys) → sum_over_outcomes us f N ≡ sum_over_outcomes us g N
unfolding sum_over_outcomes
outcomes_of_length [] f g N h = h [] refl
outcomes_of_length (u ∷ us) f g N h = ap (sum_to (u.last_outcome N)) (fun_ext (λ y. ap (λ t. u.family.cells y N *ℚ t)
    (outcomes_of_length us (λ ys. f (y ∷ ys)) (λ ys. g (y ∷ ys)) N (λ ys e. h (y ∷ ys) (ap suc e)))))

pub losses_weighing : (us : List Loss) → IsWeighing (length us) (sum_over_outcomes us)
losses_weighing us = record {
  adds = outcomes_plus us;
  scales = outcomes_times us;
  grows = outcomes_le us;
  reads = outcomes_of_length us;
}
