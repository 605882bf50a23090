-- Shares of the tail mean, and joint means of all units together.
use Rattle.dl_model.proofs.Common.{◌≡◌, inl, inr, ℕ, zero, suc, ◌+◌, ◌-◌, Bool, true, false, nat_eq, nat_lt, arith, refl, sym, ap, ap₂, ◌∙◌, List, [], ◌∷◌, length, sum, get_or, fun_ext, cases_lt, cases_eq, lt-ltb, le-ltb, eq-eqb, ne_eqb, Fraction, whole, ◌+ℚ◌, ◌-ℚ◌, ◌*ℚ◌, ◌/ℚ◌, ◌≤ℚ◌, ◌<ℚ◌, sum_below, ring, times_one, one_times, times_zero, zero_times, times_comm, whole_plus, plus_times, times_plus, le_of_lt, div_times, sub_plus, Series, Loss, One, Point, Tail, Joint, Part, Share, score, sum_over_outcomes, partial_sums, where_true}
use Rattle.dl_model.proofs.TotalLaws.{below_first, sum-cons, where_factor, rest_pos}
use Rattle.dl_model.proofs.Weighings.{IsWeighing, losses_weighing, weighed_below, weighed_same}

-- ---- sums over the units

below_same : (n : ℕ) (f g : ℕ → Fraction) → ((i : ℕ) → f i ≡ g i) → sum_below n f ≡ sum_below n g
below_same n f g h = ap (sum_below n) (fun_ext h)

below_times : (n : ℕ) (k : Fraction) (f : ℕ → Fraction) → sum_below n (λ i. k *ℚ f i) ≡ k *ℚ sum_below n f
unfolding sum_below
below_times zero k f = sym (times_zero k)
below_times (suc n) k f = ap (λ t. t +ℚ k *ℚ f n) (below_times n k f) ∙ sym (times_plus k (sum_below n f) (f n))

-- the outcomes of all units add up to the total
outcomes_total : (ys : List ℕ) → sum_below (length ys) (λ i. whole (get_or ys i 0)) ≡ whole (sum ys)
unfolding sum_below
outcomes_total [] = refl
outcomes_total (y ∷ ys) = below_first (length ys) (λ i. whole (get_or (y ∷ ys) i 0))
    ∙ ap (λ t. whole y +ℚ t) (outcomes_total ys) ∙ sym (ap whole (sum-cons y ys) ∙ whole_plus y (sum ys))

each_outcome : (n : ℕ) (ys : List ℕ) → length ys ≡ n → sum_below n (λ i. whole (get_or ys i 0)) ≡ whole (sum ys)
each_outcome n ys e = rw (← e) (outcomes_total ys)

module _ (n : ℕ) (E : (List ℕ → Fraction) → Series) (w : IsWeighing n E) where
  pub joint_means : (x N : ℕ) → sum_below n (λ i. E (score (Joint i x)) N) ≡ whole x *ℚ E (score (Point x)) N
  joint_means x N =
      sym (weighed_below n E w n (λ i. score (Joint i x)) N)
      ∙ w.reads _ (λ ys. whole x *ℚ score (Point x) ys) N (λ ys e.
      below_same n _ _ (λ i. where_factor (nat_eq (sum ys) x) (whole (get_or ys i 0)))
      ∙ below_times n (score (Point x) ys) (λ i. whole (get_or ys i 0))
      ∙ ap (λ t. score (Point x) ys *ℚ t) (each_outcome n ys e) ∙ at ys)
      ∙ w.scales (whole x) (score (Point x)) N
    where
      at : (ys : List ℕ) → score (Point x) ys *ℚ whole (sum ys) ≡ whole x *ℚ score (Point x) ys
      at ys = elim (cases_eq (sum ys) x) [
        | inl e ↦ rw e (times_comm _ _)
        | inr e ↦ rw (ne_eqb (sum ys) x e) (simp (zero_times, times_zero))
      ]

pub joint_means_total : (us : List Loss) (x N : ℕ) → sum_below (length us) (λ i. partial_sums us (Joint i x) N)
    ≡ whole x *ℚ partial_sums us (Point x) N
joint_means_total us = joint_means (length us) (sum_over_outcomes us) (losses_weighing us)

-- ---- the shares of all units

module _ (p u : Fraction) (q : ℕ) (below : p <ℚ whole 1) (le : u ≤ℚ whole 1) where
  abbrev r : Fraction
  r = whole 1 -ℚ p

  pub r_pos : whole 0 <ℚ r
  r_pos = rest_pos p (whole 1) below

  -- the factor of one outcome in its share
  abbrev pub factor : List ℕ → Fraction
  factor ys = where_true (nat_lt q (sum ys)) (whole 1) +ℚ where_true (nat_eq (sum ys) q) (whole 1 -ℚ u)

  over_r : (b : Bool) (k : Fraction) → r *ℚ where_true b (k /ℚ r) ≡ where_true b k
  over_r true k = times_comm r (k /ℚ r) ∙ div_times k r r_pos
  over_r false k = times_zero r

  pub share_factor : (i : ℕ) (ys : List ℕ) → r *ℚ score (Share i p q u) ys ≡ factor ys *ℚ whole (get_or ys i 0)
  share_factor i ys =
      let y = whole (get_or ys i 0) in
      times_plus r _ _
      ∙ ap₂ (λ a b. a +ℚ b) (over_r (nat_lt q (sum ys)) y ∙ where_factor (nat_lt q (sum ys)) y)
      (over_r (nat_eq (sum ys) q) ((whole 1 -ℚ u) *ℚ y) ∙ where_times (nat_eq (sum ys) q) (whole 1 -ℚ u) y)
      ∙ sym (plus_times _ _ y)
    where
      where_times : (b : Bool) (k y : Fraction) → where_true b (k *ℚ y) ≡ where_true b k *ℚ y
      where_times true k y = refl
      where_times false k y = sym (zero_times y)

  -- the total and q, whichever is greater
  abbrev greater : List ℕ → Fraction
  greater ys = whole q +ℚ whole (sum ys - q)

  tail_greater : (ys : List ℕ) → r *ℚ score (Tail p q) ys +ℚ p *ℚ whole q *ℚ score One ys ≡ greater ys
  tail_greater ys =
      let d = whole (sum ys - q) in
      rw (times_plus, times_comm r (d /ℚ r), div_times d r r_pos) ((simp ring)
      ∙ ap (λ t. t *ℚ whole q +ℚ d) (sub_plus (whole 1) p (le_of_lt _ _ below)) ∙ ap (λ t. t +ℚ d) (one_times (whole q)))

  parts_greater : (ys : List ℕ) → factor ys *ℚ whole (sum ys) +ℚ whole q *ℚ score (Part q u) ys ≡ greater ys
  parts_greater ys = elim (cases_lt q (sum ys)) [
    | inl far ↦ rw (lt-ltb q (sum ys) far, ne_eqb (sum ys) q (omega arith), le-ltb (sum ys) q (omega arith))
        ((simp ring) ∙ the_greater (sum ys) (omega arith))
    | inr near ↦ elim (cases_eq (sum ys) q) [
      | inl same ↦ rw (le-ltb q (sum ys) near, eq-eqb (sum ys) q same, le-ltb (sum ys) q (omega arith))
          (ap (λ t. (whole 0 +ℚ (whole 1 -ℚ u)) *ℚ whole t +ℚ whole q *ℚ (whole 0 +ℚ u)) same ∙ (simp ring)
          ∙ ap (λ t. whole q *ℚ t) (sub_plus (whole 1) u le) ∙ times_one _ ∙ the_greater q (omega arith))
      | inr other ↦ rw (le-ltb q (sum ys) near, ne_eqb (sum ys) q other, lt-ltb (sum ys) q (omega arith))
          ((simp ring) ∙ the_greater q (omega arith))
    ]
  ]
    where
      the_greater : (m : ℕ) → m ≡ q + (sum ys - q) → whole m ≡ greater ys
      the_greater m e = ap whole e ∙ whole_plus q (sum ys - q)

  pub shares_add_up : (n : ℕ) (E : (List ℕ → Fraction) → Series) → IsWeighing n E → (N : ℕ)
      → (whole 1 -ℚ p) *ℚ sum_below n (λ i. E (score (Share i p q u)) N) +ℚ whole q *ℚ E (score (Part q u)) N
      ≡ (whole 1 -ℚ p) *ℚ E (score (Tail p q)) N +ℚ p *ℚ whole q *ℚ E (score One) N
  shares_add_up n E w N =
      ap₂ (λ a b. a +ℚ b)
      (ap (λ t. r *ℚ t) (sym (weighed_below n E w n (λ i. score (Share i p q u)) N))
      ∙ sym (w.scales r (λ ys. sum_below n (λ i. score (Share i p q u) ys)) N))
      (sym (w.scales (whole q) (score (Part q u)) N))
      ∙ sym (w.adds (λ ys. r *ℚ sum_below n (λ i. score (Share i p q u) ys)) (λ ys. whole q *ℚ score (Part q u) ys) N)
      ∙ w.reads _ greater N (λ ys e. ap (λ t. t +ℚ whole q *ℚ score (Part q u) ys)
      (sym (below_times n r (λ i. score (Share i p q u) ys))
      ∙ below_same n _ _ (λ i. share_factor i ys) ∙ below_times n (factor ys) (λ i. whole (get_or ys i 0))
      ∙ ap (λ t. factor ys *ℚ t) (each_outcome n ys e)) ∙ parts_greater ys)
      ∙ sym (ap₂ (λ a b. a +ℚ b) (sym (w.scales r (score (Tail p q)) N)) (sym (w.scales (p *ℚ whole q) (score One) N))
      ∙ sym (w.adds (λ ys. r *ℚ score (Tail p q) ys) (λ ys. p *ℚ whole q *ℚ score One ys) N)
      ∙ weighed_same E _ greater N tail_greater)

  pub shares_total : (us : List Loss) (N : ℕ)
      → (whole 1 -ℚ p) *ℚ sum_below (length us) (λ i. partial_sums us (Share i p q u) N) +ℚ
      whole q *ℚ partial_sums us (Part q u) N
      ≡ (whole 1 -ℚ p) *ℚ partial_sums us (Tail p q) N +ℚ p *ℚ whole q *ℚ partial_sums us One N
  shares_total us = shares_add_up (length us) (sum_over_outcomes us) (losses_weighing us)
