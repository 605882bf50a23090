-- Bounds of the sums over claims lists: what counts for less has the lesser sums, and no outcome is above the total.
use Rattle.dl_model.proofs.Common.{◌≡◌, ℕ, suc, zero, ◌*◌, refl, sym, ap, ◌∙◌, List, [], ◌∷◌, Fraction, ◌+ℚ◌, ◌*ℚ◌, ◌≤ℚ◌, whole, ring, plus_zero, le_refl, times_le_times, fun_ext, sum_to, sum_to_le, sum_to_same, sum_to_times, sum_to_plus, sum_pairs_plus, Series, Rises, length, le_plus, sum_pairs_same, One, Point, Mean, Joint, score, sum_pairs_le, sum_over_claims, PoissonUnit, Claims, amounts, amounts_given_counts, ways_to_share, chances, expected_claims, common_sums, Quantity, IsAsked, length-map}
use Rattle.dl_model.proofs.SharedClaims.{claims_times}
use Rattle.dl_model.proofs.Bounded.{score_scaled}
use Rattle.dl_model.proofs.Weighings.{IsWeighing, joint_le_point}

claims_le : (us : List PoissonUnit) (n : ℕ) (f g : List Claims → Fraction)
    → ((claims : List Claims) → f claims ≤ℚ g claims) → sum_over_claims us n f ≤ℚ sum_over_claims us n g
unfolding sum_over_claims
claims_le [] zero f g h = h []
claims_le [] (suc n) f g h = le_refl _
claims_le (u ∷ us) n f g h = sum_pairs_le n _ _ (λ j k e. sum_to_le (j * u.most) _ _ (λ s b. claims_le us k _ _
    (λ claims. h (record { unit = u; count = j; amount = s } ∷ claims))))

claims_plus : (us : List PoissonUnit) (n : ℕ) (f g : List Claims → Fraction)
    → sum_over_claims us n (λ claims. f claims +ℚ g claims) ≡ sum_over_claims us n f +ℚ sum_over_claims us n g
unfolding sum_over_claims
claims_plus [] zero f g = refl
claims_plus [] (suc n) f g = sym (plus_zero (whole 0))
claims_plus (u ∷ us) n f g = simp (claims_plus us, sum_to_plus, sum_pairs_plus)

-- a claims list has the claims of each unit
claims_of_length : (us : List PoissonUnit) (n : ℕ) (f g : List Claims → Fraction)
    → ((claims : List Claims) → length claims ≡ length us → f claims ≡ g claims)
    → sum_over_claims us n f ≡ sum_over_claims us n g
unfolding sum_over_claims
claims_of_length [] zero f g h = h [] refl
claims_of_length [] (suc n) f g h = refl
claims_of_length (u ∷ us) n f g h = sum_pairs_same n _ _ (λ j k e. sum_to_same (j * u.most) _ _ (λ s b.
    claims_of_length us k _ _ (λ claims d. h (record { unit = u; count = j; amount = s } ∷ claims) (ap suc d))))

-- ---- of any value of the amounts

module _ (r : Fraction) (us : List PoissonUnit) where
  -- what a claims list counts for, at this value of its amounts
  abbrev counted : (List ℕ → Fraction) → ℕ → List Claims → Fraction
  counted value n claims = value (amounts claims) *ℚ amounts_given_counts claims *ℚ ways_to_share r n claims *ℚ
      chances r (expected_claims us) claims

  abbrev pub values : (List ℕ → Fraction) → Series
  values value N = sum_to N (λ n. sum_over_claims us n (counted value n))

  values_le : (f g : List ℕ → Fraction) → ((ys : List ℕ) → f ys ≤ℚ g ys) → (N : ℕ) → values f N ≤ℚ values g N
  values_le f g h N = sum_to_le N _ _ (λ n d. claims_le us n (counted f n) (counted g n) (λ claims.
      times_le_times _ _ (chances r (expected_claims us) claims) (times_le_times _ _ (ways_to_share r n claims)
      (times_le_times _ _ (amounts_given_counts claims) (h (amounts claims))))))

  values_times : (k : Fraction) (f : List ℕ → Fraction) (N : ℕ) → values (λ ys. k *ℚ f ys) N ≡ k *ℚ values f N
  values_times k f N = sum_to_same N _ _ (λ n d. ap (sum_over_claims us n) (fun_ext (λ claims. (simp ring)))
      ∙ claims_times us n k (counted f n)) ∙ sum_to_times N k (λ n. sum_over_claims us n (counted f n))

  values_plus : (f g : List ℕ → Fraction) (N : ℕ) → values (λ ys. f ys +ℚ g ys) N ≡ values f N +ℚ values g N
  values_plus f g N = sum_to_same N _ _ (λ n d. ap (sum_over_claims us n) (fun_ext (λ claims. (simp ring)))
      ∙ claims_plus us n (counted f n) (counted g n)) ∙ sum_to_plus N _ _

  values_of_length : (f g : List ℕ → Fraction) (N : ℕ) → ((ys : List ℕ) → length ys ≡ length us → f ys ≡ g ys)
      → values f N ≡ values g N
  values_of_length f g N h = sum_to_same N _ _ (λ n d. claims_of_length us n (counted f n) (counted g n) (λ claims e.
      ap (λ t. t *ℚ amounts_given_counts claims *ℚ ways_to_share r n claims *ℚ chances r (expected_claims us) claims)
      (h (amounts claims) (length-map claims (λ (c : Claims). c.amount) ∙ e))))

  pub shared_weighing : IsWeighing (length us) values
  shared_weighing =
      record { adds = values_plus; scales = values_times; grows = values_le; reads = values_of_length }

  pub values_rise : (f : List ℕ → Fraction) → Rises (values f)
  unfolding sum_to
  values_rise f N = le_plus _ _

  -- ---- of quantities

  pub asked_within : (quantity : Quantity) → IsAsked quantity → (k : Fraction) × ((N : ℕ)
      → common_sums r us quantity N ≤ℚ k *ℚ (common_sums r us One N +ℚ common_sums r us Mean N))
  asked_within quantity asked =
      let s = score_scaled quantity asked in (
        s.0,
        λ N. rw (values_times s.0 (λ ys. score One ys +ℚ score Mean ys) N, values_plus (score One) (score Mean) N) at
            (values_le (score quantity) (λ ys. s.0 *ℚ (score One ys +ℚ score Mean ys)) s.1 N),
      )

  pub joint_within : (i x N : ℕ) → common_sums r us (Joint i x) N ≤ℚ whole x *ℚ common_sums r us (Point x) N
  joint_within = joint_le_point (length us) values shared_weighing
