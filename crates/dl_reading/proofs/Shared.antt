-- Fine probabilities that sum to 1, and their whole weights.
use Rattle.dl_reading.proofs.Common.{most_values, leb-true, le-leb, eqb-true, false_from_ne_true, ◌≡◌, ◌≢◌, ◌∙◌, ℕ, zero, suc, ◌<◌, ◌≤◌, ◌^◌, List, [], ◌∷◌, ◌++◌, map, length, true, false, Some, None, inl, inr, refl, sym, ap, ap₂, subst, arith, All, ◌∣◌, MatchOption, All-head, All-tail, Fraction, whole, ◌over◌, over_self, over_same, whole_num, whole_den, IsFineTo40Bits, common_denominator, common_pos, den_divides, sum_of, Weights, IsWeighing, Span, at_if, Shares, is_fine, is_one, is_not_one, weights_over, IsShares, AreProbabilities, Bool, ◌&&◌, are_fine, and_parts, most_weights, nat_le, replicate, and-false, and-true, cases_Bool, drop_at, get_or-replicate, length-replicate, take_at, All-drop, All-replicate, All-take, sum_by-replicate, dvd_of_mod-eq-zero, dvd_refl, le_of_dvd, lcm, same_num, lowest_den, sum_over_map, sum_over_common, lcm_least, lowest_by, numerator_over, common_from, shares_back, sum_one, sum_map}

-- ---- common denominators

-- what each denominator divides, their common multiple divides
common_divides_from : (m : ℕ) (xs : List Fraction) (c : ℕ) → m ∣ c → All (λ x. x.den ∣ c) xs → common_from m xs ∣ c
common_divides_from m [] c h all = h
common_divides_from m (x ∷ xs) c h all =
    common_divides_from (lcm m x.den) xs c (lcm_least m x.den c x.positive h (All-head (λ y. y.den ∣ c) x xs all))
    (All-tail (λ y. y.den ∣ c) x xs all)

one_divides : (c : ℕ) → 1 ∣ c
one_divides c = dvd_of_mod-eq-zero 1 (omega arith)

pub common_divides : (xs : List Fraction) (c : ℕ) → All (λ x. x.den ∣ c) xs → common_denominator xs ∣ c
common_divides xs c all = common_divides_from 1 xs c (one_divides c) all

-- each denominator of the one list divides the common denominator of the other, which is at most this
pub fine_with : (most : ℕ) (xs ys : List Fraction) → All (λ x. x.den ∣ common_denominator ys) xs
    → common_denominator ys ≤ most → common_denominator xs ≤ most
fine_with most xs ys all fine = omega (
  arith,
  fine,
  le_of_dvd (common_pos ys)
      (common_divides xs (common_denominator ys) all),
)

-- ---- whole weights

-- the numerators over the common denominator
abbrev pub over_common : List Fraction → Weights
over_common xs = record {
  weights = map (numerator_over (common_denominator xs)) xs;
  total = common_denominator xs;
}

-- of fine probabilities that sum to 1
pub weighing : (xs : List Fraction) → IsFineTo40Bits xs → sum_of xs ≡ whole 1 → IsWeighing xs (over_common xs)
weighing xs fine one = record {
  shares = shares_back xs;
  total = refl;
  sum = sum_map (numerator_over (common_denominator xs)) xs ∙ sum_one xs (common_denominator xs) refl one;
  some = common_pos xs;
  within = fine;
}

pub probabilities_of : (xs : List Fraction) (made : Weights) → IsWeighing xs made → AreProbabilities xs
probabilities_of xs made is = record {
  fine = subst (λ n. n ≤ 2 ^ 40) is.total is.within;
  one =
      ap sum_of (sym is.shares) ∙ sum_over_map (λ w. w over made.total) (λ x. x) made.weights
      ∙ sum_over_common (λ w. w) made.total made.weights is.some
      ∙ ap (λ n. n over made.total) is.sum
      ∙ over_same made.total made.total 1 1 is.some (omega arith) (omega arith);
}

one_test : (xs : List Fraction) → sum_of xs ≡ whole 1 → is_one (sum_of xs) ≡ true
one_test xs one = rw (one, whole_num 1, whole_den 1) refl

pub weighing_fine : (most : ℕ) (xs : List Fraction) (made : Weights) → IsWeighing xs made → common_denominator xs ≤ most
    → are_fine most xs ≡ true
weighing_fine most xs made is fine =
    rw (le-leb (common_denominator xs) most fine, one_test xs (probabilities_of xs made is).one) refl

same_weights : (vs ws : List ℕ) (t : ℕ) → 0 < t → map (λ w. w over t) vs ≡ map (λ w. w over t) ws → vs ≡ ws
same_weights [] [] t h e = refl
same_weights [] (w ∷ ws) t h e = absurd (cc)
same_weights (v ∷ vs) [] t h e = absurd (cc)
same_weights (v ∷ vs) (w ∷ ws) t h e =
    ap₂ (λ x xs. x ∷ xs) (same_num v w t h (cc)) (same_weights vs ws t h (cc))

weights_as : (xs : List Fraction) (made : Weights) → IsWeighing xs made → made ≡ over_common xs
weights_as xs made is =
    let c = common_denominator xs in
    ap₂ (λ (ws : List ℕ) (t : ℕ). record { weights = ws; total = t })
    (same_weights made.weights (map (numerator_over c) xs) c (common_pos xs)
    ((rw is.total at is.shares) ∙ sym (shares_back xs))) is.total

-- ---- a list with its weights

pub fine_weights : (xs : List Fraction) (made : Weights) → IsWeighing xs made → Some made ≡ weights_over xs
fine_weights xs made is =
    ap (λ w. Some w) (weights_as xs made is)
    ∙ sym (rw (weighing_fine most_weights xs made is (probabilities_of xs made is).fine) refl)

pub coarse_test : (most : ℕ) (xs : List Fraction) → ¬ common_denominator xs ≤ most → is_fine most xs ≡ false
coarse_test most xs coarse =
    false_from_ne_true (is_fine most xs) (λ fine. coarse (leb-true (common_denominator xs) most fine))

one_yes : (x : Fraction) → is_one x ≡ true → x ≡ whole 1
one_yes x e = sym (over_self x) ∙ over_same x.num x.den 1 1 x.positive (omega arith)
    (omega (arith, eqb-true x.num x.den e))

no_weights : (xs : List Fraction) → (are_fine most_weights xs ≡ true → ⊥) → None ≡ weights_over xs
no_weights xs none = sym (rw (false_from_ne_true (are_fine most_weights xs) none) refl)

pub coarse_weights : (xs : List Fraction) → ¬ IsFineTo40Bits xs → None ≡ weights_over xs
coarse_weights xs coarse =
    no_weights xs (λ fine. coarse (leb-true (common_denominator xs) most_weights (and_parts _ _ fine).0))

pub other_weights : (xs : List Fraction) → sum_of xs ≢ whole 1 → None ≡ weights_over xs
other_weights xs other = no_weights xs (λ fine. other (one_yes (sum_of xs) (and_parts _ _ fine).1))

pub probabilities_fine : (xs : List Fraction) → AreProbabilities xs → are_fine most_weights xs ≡ true
probabilities_fine xs are = rw (le-leb (common_denominator xs) most_weights are.fine, one_test xs are.one) refl

-- what is fine by a bound of at most 2^30 are probabilities
pub fine_probabilities : (most : ℕ) (xs : List Fraction) → most ≤ most_weights → are_fine most xs ≡ true
    → AreProbabilities xs
fine_probabilities most xs le fine =
    let both = and_parts (is_fine most xs) (is_one (sum_of xs)) fine in
    record {
      fine = omega (arith, le, leb-true (common_denominator xs) most both.0);
      one = one_yes (sum_of xs) both.1;
    }

module _ (most : ℕ) (l : Shares) (le : most ≤ most_weights) (is : IsShares l) where
  -- a list that is fine has its weights
  pub list_weighed : are_fine most l.values ≡ true
      → (w : Weights) × (l.weights ≡ Some w) × IsWeighing l.values w
  list_weighed fine =
      let are = fine_probabilities most l.values le fine in
      let w : Weights = over_common l.values in
      let made : IsWeighing l.values w = weighing l.values are.fine are.one in
      (w, is.weights ∙ sym (fine_weights l.values w made), made)

  -- a list is fine where it has weights, with a total of at most this
  pub list_test : (b : Bool) → MatchOption l.weights (b ≡ false) (λ w. b ≡ nat_le w.total most)
      → b ≡ are_fine most l.values
  list_test b h = elim (cases_Bool (are_fine most_weights l.values)) [
    | inl e ↦
        let both = and_parts (is_fine most_weights l.values) (is_one (sum_of l.values)) e in
        let there : l.weights ≡ Some (over_common l.values) = is.weights ∙ rw e refl in
        (rw there at h) ∙ sym (and-true (is_fine most l.values))
        ∙ ap (λ t. is_fine most l.values && t) (sym both.1)
    | inr e ↦
        let none : l.weights ≡ None = is.weights ∙ rw e refl in
        (rw none at h) ∙ sym (false_from_ne_true (are_fine most l.values) (λ fine.
        let are = fine_probabilities most l.values le fine in
        absurd (cc (
          e,
          weighing_fine most_weights l.values (over_common l.values)
              (weighing l.values are.fine are.one) are.fine,
        ))))
  ]

-- ---- the sum of a list

module _ (most : ℕ) (xs : List Fraction) (span : Span) where
  pub keeps_weighed : (made : Weights) → IsWeighing xs made → None ≡ at_if (is_not_one most xs) span
  keeps_weighed made is = rw (one_test xs (probabilities_of xs made is).one, and-false (is_fine most xs)) refl

  pub coarse_kept : most ≤ most_weights → ¬ IsFineTo40Bits xs → None ≡ at_if (is_not_one most xs) span
  coarse_kept le coarse = rw (coarse_test most xs (λ fine. coarse (omega (arith, le, fine)))) refl

  pub breaks_one : sum_of xs ≢ whole 1 → at_if (is_fine most xs) span ≡ at_if (is_not_one most xs) span
  breaks_one other =
      let not_one = false_from_ne_true (is_one (sum_of xs)) (λ e. other (one_yes (sum_of xs) e)) in
      rw (not_one, and-true (is_fine most xs)) refl

-- ---- equal shares

pub map_replicate : {A B : Type 0} (f : A → B) (n : ℕ) (x : A) → map f (replicate n x) ≡ replicate n (f x)
map_replicate f zero x = refl
map_replicate f (suc n) x = ap (λ xs. f x ∷ xs) (map_replicate f n x)

share_den : (n : ℕ) → 0 < n → (1 over n).den ≡ n
share_den n h = lowest_den 1 n h (lowest_by 1 n (λ d one other. one))

pub equal_common : (n : ℕ) → 0 < n → n ≡ common_denominator (replicate n (1 over n))
equal_common n h =
    let xs : List Fraction = replicate n (1 over n) in
    let some : 0 < length xs = omega (arith, h, length-replicate n (1 over n)) in
    let below : n ≤ common_denominator xs = subst (λ d. d ≤ common_denominator xs)
    (ap (λ (y : Fraction). y.den) (get_or-replicate n 0 (1 over n) (1 over n) h) ∙ share_den n h)
    (le_of_dvd (common_pos xs) (den_divides 1 xs 0 (1 over n) some)) in
    let own : (1 over n).den ∣ n = rw (share_den n h) (dvd_refl n) in
    let above : common_denominator xs ≤ n = le_of_dvd h (common_divides xs n
    (All-replicate (λ x. x.den ∣ n) n (1 over n) own)) in
    omega (arith, below, above)

-- so many equal shares of 1 have the weight 1 each
pub equal_weighing : (n : ℕ) (ws : List ℕ) → 0 < n → n ≤ most_values → ws ≡ replicate n 1
    → IsWeighing (replicate n (1 over n)) (record { weights = ws; total = n })
equal_weighing n ws some few e = record {
  shares = ap (map (λ w. w over n)) e ∙ map_replicate (λ w. w over n) n 1;
  total = equal_common n some;
  sum = rw e (omega (arith, sum_by-replicate (λ x. x) n 1));
  some = omega (arith, some);
  within = omega (arith, few);
}

-- ---- parts of lists

pub all_left : {A : Type 0} (P : A → Type 0) (xs ys : List A) → All P (xs ++ ys) → All P xs
all_left P xs ys h = rw (take_at xs ys (length xs) refl) at (All-take P (length xs) (xs ++ ys) h)

pub all_right : {A : Type 0} (P : A → Type 0) (xs ys : List A) → All P (xs ++ ys) → All P ys
all_right P xs ys h = rw (drop_at xs ys (length xs) refl) at (All-drop P (length xs) (xs ++ ys) h)
