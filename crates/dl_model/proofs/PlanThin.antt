-- Thinning and division of the units of a plan.
use Rattle.dl_model.proofs.Common.{ℕ, suc, ◌≡◌, ◌+◌, ◌*◌, ◌^◌, ◌<◌, ◌≤◌, List, [], ◌∷◌, length, map, nat_lt, arith, refl, sym, ap, subst, inl, inr, ◌∙◌, fun_ext, All, cases_lt, lt-ltb, le-ltb, All-head, All-tail, pow_pos, Fraction, whole, ◌over◌, ◌+ℚ◌, ◌-ℚ◌, ◌*ℚ◌, ◌/ℚ◌, ◌≤ℚ◌, ◌<ℚ◌, sum_over, over_same, over_mul, over_le, plus_comm, times_comm, times_zero, sub_plus, div_times, whole_pos, Item, Sev, Freq, Fixed, Table, Bernoulli, Binomial, Poisson, Gamma, weight_at, weight_sum, probability_of, pairs_of, expected_count, over_zero, total_pos, IsPositivePart, nothing, times_itself, SameCells, compound_of, All-filter, Pairs, probability, conditioned, mass, shares, HasDistribution, thinned_mean, items_over, filter-shares, probability-conditioned, positive_share, weight_at-le, total, eq-zero-or-pos, mul-pos, ne_eqb, eq-eqb, UnitOfPlan, IsUnbounded, IsCountOfPlan, weight_sum_pos}
use Rattle.dl_model.proofs.PoissonTimes.{poisson_shares}
use Rattle.dl_model.proofs.TotalLaws.{thin_gamma, value_sym, part_of, weight_within, weight_sum-cons, weight_at-cons}
use Rattle.dl_model.proofs.Beginnings.{poisson_no_loss, gamma_no_loss}

-- ---- the weights of the amounts above 0

-- the items ys are xs without amount 0: they leave the weights of the others, and with that of 0 they make up all
record IsApart (xs ys : List Item) : Type 0 where
  none : weight_at ys 0 ≡ 0
  each : (j : ℕ) → weight_at ys (suc j) ≡ weight_at xs (suc j)
  all : weight_at xs 0 + weight_sum ys ≡ weight_sum xs

parts : (xs : List Item) → IsApart xs (items_over 0 xs)
parts [] = record { none = refl; each = λ j. refl; all = refl }
parts (x ∷ xs) =
    let rest = parts xs in
    let zero_more = weight_at-cons x xs 0 in
    let all_more = weight_sum-cons x xs in
    elim (cases_lt 0 x.amount) [
      | inl h ↦
          let none : part_of 0 x ≡ 0 = rw (ne_eqb x.amount 0 (omega (arith, h))) refl in
          let kept : items_over 0 (x ∷ xs) ≡ x ∷ items_over 0 xs = rw (lt-ltb 0 x.amount h) refl in
          subst (IsApart (x ∷ xs)) (sym kept) (record {
            none = omega (arith, weight_at-cons x (items_over 0 xs) 0, none, rest.none);
            each = λ j. rw (weight_at-cons x (items_over 0 xs) (suc j), rest.each j) (sym (weight_at-cons x xs (suc j)));
            all = omega (arith, weight_sum-cons x (items_over 0 xs), all_more, zero_more, none, rest.all);
          })
      | inr h ↦
          let e : x.amount ≡ 0 = omega (arith, h) in
          let here : part_of 0 x ≡ x.weight = rw (eq-eqb x.amount 0 e) refl in
          let dropped : items_over 0 (x ∷ xs) ≡ items_over 0 xs = rw (le-ltb 0 x.amount h) refl in
          subst (IsApart (x ∷ xs)) (sym dropped) (record {
            none = rest.none;
            each = λ j. rw (weight_at-cons x xs (suc j), ne_eqb x.amount (suc j) (omega (arith, e)), rest.each j) (omega arith);
            all = omega (arith, all_more, zero_more, here, rest.all);
          })
    ]

no_weight : (xs : List Item) → length xs ≡ 0 → weight_sum xs ≡ 0
no_weight [] e = refl
no_weight (x ∷ xs) e = absurd (omega (arith, e))

module _ (sev : Sev) where
  abbrev xs : List Item
  xs = sev.items

  abbrev kept : List Item
  kept = items_over 0 xs

  pos : 0 < sev.total
  pos = total_pos xs sev.total sev.weighted

  -- the probability of a positive amount
  abbrev pub positive : Fraction
  positive = whole 1 -ℚ probability_of sev 0

  kept_share : positive ≡ weight_sum kept over sev.total
  kept_share = sym (positive_share (weight_at xs 0) sev.total pos)
      ∙ ap (λ n. n over sev.total) (omega (arith, (parts xs).all, sev.weighted.sum))

  zero_within : probability_of sev 0 ≤ℚ whole 1
  zero_within =
      over_le (weight_at xs 0) sev.total 1 1 pos (omega arith) (omega (arith, weight_at-le xs, sev.weighted.sum))

  share : probability_of sev 0 +ℚ positive ≡ whole 1
  share = plus_comm _ _ ∙ sub_plus (whole 1) (probability_of sev 0) zero_within

  -- where some amount is positive
  some_above : 0 < weight_sum kept → (j : ℕ)
      → probability_of sev (suc j) ≡ positive *ℚ weight_at kept (suc j) over weight_sum kept
  some_above some j =
      let w = weight_at kept (suc j) in
      let v = weight_sum kept in
      sym (ap (λ p. p *ℚ w over v) kept_share ∙ over_mul v sev.total w v pos some
      ∙ over_same (v * w) (sev.total * v) w sev.total (mul-pos pos some) pos (omega arith)
      ∙ ap (λ n. n over sev.total) ((parts xs).each j))

  -- where none is
  none_above : weight_sum kept ≡ 0 → (j : ℕ) → probability_of sev (suc j) ≡ whole 0
  none_above none j =
      let nothing_left : weight_at xs (suc j) ≡ 0 =
      omega (arith, (parts xs).each j, weight_within kept (suc j), none) in
      ap (λ n. n over sev.total) nothing_left ∙ over_zero sev.total pos

  all_positive : All (λ (i : Item). 0 < i.weight) kept
  all_positive = All-filter (λ (i : Item). nat_lt 0 i.amount) (λ (i : Item). 0 < i.weight) xs sev.weighted.positive

  abbrev pub given : ℕ → Fraction
  given = probability (conditioned 0 (pairs_of sev))

  given_some : 0 < weight_sum kept → (y : ℕ) → given y ≡ weight_at kept y over weight_sum kept
  given_some some y = probability-conditioned 0 xs sev.total y pos some

  given_none : length kept ≡ 0 → (y : ℕ) → given y ≡ whole 0
  unfolding sum_over
  given_none none y =
      ap value (filter-shares 0 xs sev.total) ∙ empty kept none
    where
      value : Pairs → Fraction
      value pairs = probability (map (λ pair. (pair.0, pair.1 /ℚ mass pairs)) pairs) y

      empty : (ys : List Item) → length ys ≡ 0 → value (shares ys sev.total) ≡ whole 0
      empty [] e = refl
      empty (i ∷ ys) e = absurd (omega (arith, e))

  -- the severity conditioned on positive amounts is its positive part
  pub given_part : IsPositivePart (probability_of sev) positive given
  given_part = elim (eq-zero-or-pos (length kept)) [
    | inl none ↦ record {
      no_zero = given_none none 0;
      share = share;
      above = λ j. none_above (no_weight kept none) j
          ∙ sym (ap (λ t. positive *ℚ t) (given_none none (suc j)) ∙ times_zero positive);
    }
    | inr some ↦
        let weight : 0 < weight_sum kept = weight_sum_pos kept some all_positive in
        record {
          no_zero = given_some weight 0 ∙ ap (λ n. n over weight_sum kept) (parts xs).none
              ∙ over_zero (weight_sum kept) weight;
          share = share;
          above = λ j. some_above weight j ∙ ap (λ t. positive *ℚ t) (sym (given_some weight (suc j)));
        }
  ]

-- ---- of a unit

pub part_of_means : (sev s : Sev) → HasDistribution s (conditioned 0 (pairs_of sev))
    → IsPositivePart (probability_of sev) (positive sev) (probability_of s)
part_of_means sev s means =
    subst (λ g. IsPositivePart (probability_of sev) (positive sev) g) (sym (fun_ext means)) (given_part sev)

-- k shares of m make up m
shares_make_up : (m : Fraction) (k : ℕ) → 0 < k → whole k *ℚ (m /ℚ whole k) ≡ m
shares_make_up m k pos = times_comm _ _ ∙ div_times m (whole k) (whole_pos k pos)

pub poisson_thinned : (u : UnitOfPlan) (s : Sev) (mean : Fraction) (h : ℕ) → u.freq ≡ Poisson mean
    → HasDistribution s (conditioned 0 (pairs_of u.sev))
    → SameCells (times_itself (compound_of (Poisson (thinned_mean u /ℚ whole (2 ^ h))) s) (2 ^ h))
    (compound_of u.freq u.sev)
poisson_thinned u s mean h is means =
    let k = 2 ^ h in
    let m = thinned_mean u in
    subst (λ freq. SameCells (times_itself (compound_of (Poisson (m /ℚ whole k)) s) k) (compound_of freq u.sev))
    (sym is)
    (poisson_shares (m /ℚ whole k) mean k (probability_of u.sev) (positive u.sev) (probability_of s)
    (part_of_means u.sev s means)
    (shares_make_up m k (pow_pos h) ∙ ap (λ freq. expected_count freq *ℚ positive u.sev) is))

pub gamma_thinned : (u : UnitOfPlan) (s : Sev) (shape mean : Fraction) → u.freq ≡ Gamma shape mean
    → whole 0 <ℚ shape → HasDistribution s (conditioned 0 (pairs_of u.sev))
    → SameCells (compound_of (Gamma shape (thinned_mean u)) s) (compound_of u.freq u.sev)
gamma_thinned u s shape mean is above means = subst
    (λ freq. SameCells (compound_of (Gamma shape (expected_count freq *ℚ positive u.sev)) s) (compound_of freq u.sev))
    (sym is) (λ y. value_sym _ _ _ _ (thin_gamma shape mean (probability_of u.sev) (positive u.sev) (probability_of s)
    above (part_of_means u.sev s means) y))

-- where the thinned mean is 0 there is no loss
pub none_thinned : (freq : Freq) (sev : Sev) → IsCountOfPlan freq
    → IsUnbounded freq → expected_count freq *ℚ positive sev ≡ whole 0 → SameCells nothing (compound_of freq sev)
none_thinned (Fixed m) sev h bounded none = absurd bounded
none_thinned (Table counts total) sev h bounded none = absurd bounded
none_thinned (Bernoulli q) sev h bounded none = absurd bounded
none_thinned (Binomial trials q) sev h bounded none = absurd bounded
none_thinned (Poisson mean) sev h unbounded none =
    poisson_no_loss mean (positive sev) (probability_of sev) (given sev) (given_part sev) none
none_thinned (Gamma shape mean) sev h unbounded none =
    gamma_no_loss shape mean (positive sev) (probability_of sev) (given sev) h.shape.above (given_part sev) none

no_item : (xs : List Item) → All (λ (i : Item). i.amount ≤ 0) xs → weight_sum (items_over 0 xs) ≡ 0
no_item [] h = refl
no_item (x ∷ xs) h =
    let here : x.amount ≤ 0 = All-head (λ (i : Item). i.amount ≤ 0) x xs h in
    ap weight_sum (dropped here) ∙ no_item xs (All-tail (λ (i : Item). i.amount ≤ 0) x xs h)
  where
    dropped : x.amount ≤ 0 → items_over 0 (x ∷ xs) ≡ items_over 0 xs
    dropped here = rw (le-ltb 0 x.amount here) refl

pub no_amount_thinned : (u : UnitOfPlan) → All (λ (i : Item). i.amount ≤ 0) u.sev.items → thinned_mean u ≡ whole 0
no_amount_thinned u h = ap (λ p. expected_count u.freq *ℚ p) (kept_share u.sev
    ∙ ap (λ n. n over u.sev.total) (no_item u.sev.items h) ∙ over_zero u.sev.total (pos u.sev)) ∙ times_zero _
