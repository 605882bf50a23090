-- The tail mean from the excess at the low end of the bracket.
use Rattle.dl_model.proofs.Common.{◌≡◌, inl, inr, ℕ, ◌+◌, ◌-◌, ◌<◌, ◌≤◌, min, arith, sym, ap, subst, subst₂, ◌∙◌, List, sum, Some, None, fun_ext, Fraction, whole, ◌+ℚ◌, ◌-ℚ◌, ◌*ℚ◌, ◌/ℚ◌, ◌≤ℚ◌, ◌<ℚ◌, ring, one_times, plus_comm, plus_assoc, zero_plus, whole_plus, le_refl, le_trans, le_of_lt, lt_or_le, lt_not_le, plus_le_cancel, plus_le_both, le_plus, sub_plus, plus_cancel, div_times, whole_le, Series, IsBound, Rises, AtMost, AtLeast, Holds, Loss, AreDeclarable, One, Cdf, Layer, Tail, score, partial_sums, above, survival, IsQuantile, sum_below_constant, plus_swap, times_swap, cases_lt, plus_zero, times_zero, order}
use Rattle.dl_model.proofs.TotalLaws.{sub_zero, at_most_wider, at_least_wider, times_self, at_most_plus, scaled_rises, at_least_plus, scaled_most, scaled_least, at_least_rest, at_most_rest, at_least_minus, at_most_minus, outcomes_same, outcomes_plus, outcomes_rise, survival_rest, cdf_rest, layer_survivals, tail_excess, below_least, below_most, part_most_one, cdf_grows}

parts : (a k t : ℕ) → whole (t - (a + k)) +ℚ whole (min (t - a) k) ≡ whole (t - a)
parts a k t = sym (whole_plus _ _) ∙ ap whole (omega arith)

pub excess_split : (us : List Loss) (a k N : ℕ)
    → partial_sums us (Layer None (a + k)) N +ℚ partial_sums us (Layer (Some k) a) N ≡ partial_sums us (Layer None a) N
excess_split us a k N = sym (outcomes_plus us _ _ N) ∙ outcomes_same us _ _ N (λ ys. parts a k (sum ys))

module _ (us : List Loss) (w : AreDeclarable us) where
  abbrev pub R : Series
  R = partial_sums us One

  pub above_least : (x : ℕ) (p r v : Fraction) → IsBound R v → p +ℚ r ≡ whole 1 → AtMost (partial_sums us (Cdf x)) R p
      → AtLeast (survival us x) R r
  above_least x p r v b e a = at_least_rest (partial_sums us (Cdf x)) (survival us x) R p r v (cdf_rest us x) b e a

  -- the difference is 0 where s is above p
  pub above_most : (x : ℕ) (p r s : Fraction) → p +ℚ r ≡ whole 1 → AtLeast (partial_sums us (Cdf x)) R (p -ℚ s)
      → AtMost (survival us x) R (r +ℚ s)
  above_most x p r s e a = elim (lt_or_le p s) [
    | inr l ↦ at_most_rest _ _ R _ _ (outcomes_rise us w (score (Cdf x))) (outcomes_rise us w (above x)) (cdf_rest us x)
        (plus_swap (p -ℚ s) r s ∙ ap (λ t. t +ℚ r) (sub_plus p s l) ∙ e) a
    | inl l ↦ at_most_wider (survival us x) R (whole 1) (r +ℚ s) (part_most_one _ _ R (survival_rest us x))
        (subst₂ (λ x y. x ≤ℚ y) e (plus_comm s r) (plus_le_both _ _ _ _ (le_of_lt p s l) (le_refl r)))
  ]

  pub layer_least : (k a : ℕ) (r : Fraction) → ((x : ℕ) → a ≤ x → x < a + k → AtLeast (survival us x) R r)
      → AtLeast (partial_sums us (Layer (Some k) a)) R (whole k *ℚ r)
  layer_least k a r h = subst₂ (λ Q l. AtLeast Q R l) (sym (fun_ext (layer_survivals us k a)))
      (sum_below_constant k r) (below_least k (λ i. survival us (a + i)) R (λ i. r)
      (λ i. outcomes_rise us w (above (a + i))) (λ i c. h (a + i) (omega arith) (omega arith)))

  pub layer_most : (k a : ℕ) (r : Fraction) → ((x : ℕ) → a ≤ x → x < a + k → AtMost (survival us x) R r)
      → AtMost (partial_sums us (Layer (Some k) a)) R (whole k *ℚ r)
  layer_most k a r h = subst₂ (λ Q l. AtMost Q R l) (sym (fun_ext (layer_survivals us k a))) (sum_below_constant k r)
      (below_most k (λ i. survival us (a + i)) R (λ i. r) (λ i c. h (a + i) (omega arith) (omega arith)))

pub lt_plus : (x y : Fraction) → whole 0 <ℚ y → x <ℚ x +ℚ y
lt_plus x y h = elim (lt_or_le x (x +ℚ y)) [
  | inl l ↦ l
  | inr l ↦ absurd (lt_not_le _ _ h (plus_le_cancel y (whole 0) x (rw (zero_plus, plus_comm y) l)))
]

pub rest_is : (p r : Fraction) → p +ℚ r ≡ whole 1 → whole 1 -ℚ p ≡ r
rest_is p r e =
    plus_cancel (whole 1 -ℚ p) r p (sub_plus (whole 1) p (subst (λ t. p ≤ℚ t) e (le_plus p r)) ∙ sym e ∙ plus_comm p r)

-- ---- the tail mean at every whole number

module _ (us : List Loss) (w : AreDeclarable us) (p r v : Fraction) (bound : IsBound (partial_sums us One) v)
    (pr : p +ℚ r ≡ whole 1) (rp : whole 0 <ℚ r) where
  abbrev A : Series
  A = partial_sums us One

  abbrev E : ℕ → Series
  E q = partial_sums us (Layer None q)

  abbrev W : ℕ → ℕ → Series
  W k q = partial_sums us (Layer (Some k) q)

  abbrev c : Fraction
  c = whole 1 /ℚ r

  abbrev tail : ℕ → Series
  tail q = partial_sums us (Tail p q)

  tail_is : (q N : ℕ) → tail q N ≡ whole q *ℚ A N +ℚ c *ℚ E q N
  tail_is q N = tail_excess us p q N (subst (λ t. p <ℚ t) pr (lt_plus p r rp))
      ∙ ap (λ t. whole q *ℚ A N +ℚ whole 1 /ℚ t *ℚ E q N) (rest_is p r pr)

  tail_rises : (q : ℕ) → Rises (tail q)
  tail_rises q = outcomes_rise us w (score (Tail p q))

  abbrev layer_c : ℕ → ℕ → Series
  layer_c k q N = c *ℚ W k q N

  over_r : (k : Fraction) → c *ℚ (k *ℚ r) ≡ k
  over_r k = times_swap c k r ∙ ap (λ t. t *ℚ k) (div_times (whole 1) r rp) ∙ one_times k

  abbrev whole_part : ℕ → Series
  whole_part k N = whole k *ℚ A N

  -- from q to q + k
  steps : (q k N : ℕ) → tail q N +ℚ whole_part k N ≡ tail (q + k) N +ℚ layer_c k q N
  steps q k N = ap (λ t. t +ℚ whole k *ℚ A N)
      (tail_is q N ∙ ap (λ t. whole q *ℚ A N +ℚ c *ℚ t) (sym (excess_split us q k N))) ∙ (simp ring)
      ∙ sym (ap (λ t. t +ℚ c *ℚ W k q N) (tail_is (q + k) N ∙ ap (λ t. t *ℚ A N +ℚ c *ℚ E (q + k) N) (whole_plus q k)))

  -- below the quantile at least r lies above
  layer_low : (q k : ℕ) → ((x : ℕ) → q ≤ x → x < q + k → AtMost (partial_sums us (Cdf x)) A p)
      → AtLeast (layer_c k q) A (whole k)
  layer_low q k below = subst (AtLeast (layer_c k q) A) (over_r (whole k)) (scaled_least c (W k q) A (whole k *ℚ r)
      (layer_least us w k q r (λ x i j. above_least us w x p r v bound pr (below x i j))))

  tail_down : (q k : ℕ) (m : Fraction) → ((x : ℕ) → q ≤ x → x < q + k → AtMost (partial_sums us (Cdf x)) A p)
      → AtLeast (tail (q + k)) A m → AtLeast (tail q) A m
  tail_down q k m below a =
      at_least_minus _ _ A m _ v (outcomes_rise us w (score One)) bound
      (subst (λ Q. AtLeast Q A (m +ℚ whole k)) (sym (fun_ext (steps q k))) (at_least_plus _ _ A m _ (tail_rises (q + k))
      (scaled_rises c (W k q) (outcomes_rise us w _)) a (layer_low q k below))) (times_self (whole k) A).1

  tail_past : (q k : ℕ) (m : Fraction) → ((x : ℕ) → q ≤ x → x < q + k → AtMost (partial_sums us (Cdf x)) A p)
      → AtMost (tail q) A m → AtMost (tail (q + k)) A m
  tail_past q k m below a = at_most_minus _ _ A m _ (tail_rises (q + k))
      (scaled_rises c (W k q) (outcomes_rise us w _)) (subst (λ Q. AtMost Q A (m +ℚ whole k))
      (fun_ext (steps q k)) (at_most_plus _ _ A m _ a (times_self (whole k) A).1)) (layer_low q k below)

  -- past the quantile, where at most r + s lies above
  tail_up : (q k : ℕ) (m s : Fraction) → ((x : ℕ) → q ≤ x → x < q + k → AtLeast (partial_sums us (Cdf x)) A (p -ℚ s))
      → AtLeast (tail q) A (m +ℚ whole k *ℚ (c *ℚ s)) → AtLeast (tail (q + k)) A m
  tail_up q k m s near a =
      let lay : AtMost (layer_c k q) A (whole k *ℚ (c *ℚ s) +ℚ whole k) =
      subst (AtMost (λ N. c *ℚ W k q N) A) ((simp ring)
      ∙ ap (λ t. whole k *ℚ (c *ℚ s) +ℚ t) (over_r (whole k)))
      (scaled_most c (W k q) A (whole k *ℚ (r +ℚ s))
      (layer_most us w k q (r +ℚ s) (λ x i j. above_most us w x p r s pr (near x i j)))) in
      at_least_minus _ _ A m _ v (outcomes_rise us w (score One)) bound
      (subst₂ (λ Q t. AtLeast Q A t) (fun_ext (steps q k)) (plus_assoc _ _ _)
      (at_least_plus _ _ A _ _ (tail_rises q) (scaled_rises (whole k) A (outcomes_rise us w _)) a
      (times_self (whole k) A).0)) lay

  -- ---- where the distribution reaches p

  cdf_past : (x b : ℕ) → b ≤ x → AtLeast (partial_sums us (Cdf b)) A p
      → AtLeast (partial_sums us (Cdf x)) A (p -ℚ whole 0)
  cdf_past x b h a n u e = rw (sub_zero p) (a n u (λ m. le_trans _ _ _ (cdf_grows us b x m h) (e m)))

  none_open : (k : ℕ) (m : Fraction) → m +ℚ whole k *ℚ (c *ℚ whole 0) ≡ m
  none_open k m = simp (times_zero, plus_zero)

  from_reached : (b q : ℕ) (m : Fraction) → b ≤ q → AtLeast (partial_sums us (Cdf b)) A p → AtLeast (tail b) A m
      → AtLeast (tail q) A m
  from_reached b q m h reached a = subst (λ t. AtLeast (tail t) A m) (omega arith) (tail_up b (q - b) m (whole 0)
      (λ x i j. cdf_past x b i reached) (subst (AtLeast (tail b) A) (sym (none_open (q - b) m)) a))

  from_below : (a q : ℕ) (m : Fraction) → q ≤ a → ((x : ℕ) → x < a → AtMost (partial_sums us (Cdf x)) A p)
      → AtLeast (tail a) A m → AtLeast (tail q) A m
  from_below a q m h below e =
      let same : a ≡ q + (a - q) = omega arith in
      tail_down q (a - q) m (λ x i j. below x (omega arith)) (subst (λ t. AtLeast (tail t) A m) same e)

  below_quantile : (q₀ x : ℕ) → IsQuantile (partial_sums us) q₀ p → x < q₀ → AtMost (partial_sums us (Cdf x)) A p
  below_quantile q₀ x is h =
      let k = is.before (q₀ - 1) (omega arith) in
      at_most_wider (partial_sums us (Cdf x)) A k.0 p
      (λ n u b. le_trans _ _ _ (cdf_grows us x (q₀ - 1) n (omega arith)) (k.2 n u b)) (le_of_lt _ _ k.1)

  pub tail_at_quantile : (q₀ q : ℕ) (m : Fraction) → IsQuantile (partial_sums us) q₀ p
      → AtLeast (partial_sums us (Tail p q₀)) A m → AtLeast (partial_sums us (Tail p q)) A m
  tail_at_quantile q₀ q m is a = elim (cases_lt q q₀) [
    | inl few ↦ from_below q₀ q m (omega arith) (λ x h. below_quantile q₀ x is h) a
    | inr more ↦ from_reached q₀ q m more is.reached a
  ]

  -- at the low end of a bracket, from the excess there
  excess_least : (a : ℕ) (l : Fraction) → AtLeast (E a) A l → AtLeast (tail a) A (whole a +ℚ c *ℚ l)
  excess_least a l x = subst (λ Q. AtLeast Q A (whole a +ℚ c *ℚ l)) (sym (fun_ext (tail_is a)))
      (at_least_plus _ _ A _ _ (scaled_rises (whole a) A (outcomes_rise us w _))
      (scaled_rises c (E a) (outcomes_rise us w _)) (times_self (whole a) A).0 (scaled_least c (E a) A l x))

  excess_most : (a : ℕ) (h : Fraction) → AtMost (E a) A h → AtMost (tail a) A (whole a +ℚ c *ℚ h)
  excess_most a h x = subst (λ Q. AtMost Q A (whole a +ℚ c *ℚ h)) (sym (fun_ext (tail_is a)))
      (at_most_plus _ _ A _ _ (times_self (whole a) A).1 (scaled_most c (E a) A h x))

  tail_inside : (a b q : ℕ) (s l m : Fraction) → a ≤ q → q ≤ b
      → ((x : ℕ) → a ≤ x → x < b → AtLeast (partial_sums us (Cdf x)) A (p -ℚ s)) → AtLeast (E a) A l
      → m +ℚ whole (b - a) *ℚ (c *ℚ s) ≤ℚ whole a +ℚ c *ℚ l → AtLeast (tail q) A m
  tail_inside a b q s l m aq qb near excess room = subst (λ t. AtLeast (tail t) A m) (omega arith)
      (tail_up a (q - a) m s (λ x i j. near x i (omega arith))
      (at_least_wider (tail a) A (whole a +ℚ c *ℚ l) (m +ℚ whole (q - a) *ℚ (c *ℚ s)) (excess_least a l excess)
      (grw (order, whole_le (q - a) (b - a) (omega arith)) room)))

  -- q itself is a low end
  tail_whole : (q : ℕ) → AtLeast (tail q) A (whole q)
  tail_whole q n u b = (times_self (whole q) A).0 n u (λ m. le_trans _ _ _
      (subst (λ t. whole q *ℚ A m ≤ℚ t) (sym (tail_is q m)) (le_plus (whole q *ℚ A m) (c *ℚ E q m))) (b m))

  module _ (a : ℕ) (below : (x : ℕ) → x < a → AtMost (partial_sums us (Cdf x)) A p) where
    pub tail_start : (q : ℕ) → AtLeast (partial_sums us (Tail p q)) A (whole a)
    tail_start q = elim (cases_lt q a) [
      | inl few ↦ from_below a q (whole a) (omega arith) below (tail_whole a)
      | inr more ↦ at_least_wider (tail q) A (whole q) (whole a) (tail_whole q) (whole_le a q more)
    ]

    pub tail_bracket : (b : ℕ) (s l m : Fraction) → a ≤ b
        → ((x : ℕ) → a ≤ x → x < b → AtLeast (partial_sums us (Cdf x)) A (p -ℚ s))
        → AtLeast (partial_sums us (Cdf b)) A p → AtLeast (partial_sums us (Layer None a)) A l
        → m +ℚ whole (b - a) *ℚ (whole 1 /ℚ r *ℚ s) ≤ℚ whole a +ℚ whole 1 /ℚ r *ℚ l
        → (q : ℕ) → AtLeast (partial_sums us (Tail p q)) A m
    tail_bracket b s l m ab near reached excess room q =
        let inside : (x : ℕ) → a ≤ x → x ≤ b → AtLeast (tail x) A m =
        λ x i j. tail_inside a b x s l m i j near excess room in
        elim (cases_lt q a) [
          | inl few ↦ from_below a q m (omega arith) below (inside a (omega arith) ab)
          | inr more ↦ elim (cases_lt b q) [
            | inl past ↦ from_reached b q m (omega arith) reached (inside b ab (omega arith))
            | inr in_bracket ↦ inside q more in_bracket
          ]
        ]

-- ---- at the quantile

module _ (us : List Loss) (p r s v : Fraction) (a b q : ℕ) (proper : AreDeclarable us)
    (bound : IsBound (partial_sums us One) v)
    (pr : p +ℚ r ≡ whole 1) (rp : whole 0 <ℚ r) (isq : IsQuantile (partial_sums us) q p) (aq : a ≤ q) (qb : q ≤ b)
    (near : (x : ℕ) → a ≤ x → x < b → AtLeast (partial_sums us (Cdf x)) (partial_sums us One) (p -ℚ s))
    (l₀ h₀ : Fraction) (ex : Holds (partial_sums us (Layer None a)) (partial_sums us One) l₀ h₀) where
  pub tail_most : AtMost (partial_sums us (Tail p q)) (partial_sums us One) (whole a +ℚ whole 1 /ℚ r *ℚ h₀)
  tail_most = subst (λ t. AtMost (partial_sums us (Tail p t)) (partial_sums us One) (whole a +ℚ whole 1 /ℚ r *ℚ h₀))
      (omega arith) (tail_past us proper p r v bound pr rp a (q - a) (whole a +ℚ whole 1 /ℚ r *ℚ h₀)
      (λ x i j. below_quantile us proper p r v bound pr rp q x isq (omega arith))
      (excess_most us proper p r v bound pr rp a h₀ ex.1))

  pub tail_ends : (l : Fraction) → l +ℚ whole (b - a) *ℚ (whole 1 /ℚ r *ℚ s) ≤ℚ whole a +ℚ whole 1 /ℚ r *ℚ l₀
      → Holds (partial_sums us (Tail p q)) (partial_sums us One) l (whole a +ℚ whole 1 /ℚ r *ℚ h₀)
  tail_ends l room = (tail_inside us proper p r v bound pr rp a b q s l₀ l aq qb near ex.0 room, tail_most)
