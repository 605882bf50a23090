-- A changed probability of no claim: the values of the outcomes, what they add up to, and the weights of the count.
use Rattle.dl_model.proofs.Common.{◌≡◌, inl, inr, ℕ, suc, zero, ◌*◌, ◌≤◌, Bool, nat_eq, arith, refl, sym, ap, ap₂, subst, subst₂, ◌∙◌, Fraction, whole, ◌+ℚ◌, ◌-ℚ◌, ◌*ℚ◌, ◌/ℚ◌, ◌≤ℚ◌, ◌<ℚ◌, sum_to, ring, plus_comm, plus_zero, zero_plus, times_zero, zero_times, times_one, one_times, plus_times, le_refl, le_trans, le_of_eq, le_of_lt, lt_or_le, lt_of_lt_of_le, zero_le, le_sub, sub_plus, plus_le_both, times_le_both, div_times, sum_to_same, sum_to_plus, sum_to_times, Series, IsBound, AtLeast, Holds, Rises, at_zero, power, cell, where_true, plus_assoc, sub_nothing, sub_le_both, plus_swap, without_none, with_none, changed_end, IsWithNone, fun_ext, order, sum_below}
use Rattle.dl_model.proofs.ValueLaws.{at_least_plus, self_holds, scaled, quotient, where_rises, where_holds, holds_plus, holds_minus, not_both, on, off, pick, where_turned, where_plus, where_swap}
use Rattle.dl_model.proofs.Ends.{below_rises, below_least, to_below, below_first}
use Rattle.dl_model.proofs.TailScores.{rest_pos, div_is_times}

pub sub_zero : (x : Fraction) → x -ℚ whole 0 ≡ x
sub_zero x = sym (plus_zero _) ∙ sub_plus x (whole 0) (zero_le x)

-- ---- values

pub changed_holds : (p none l h nl nh v : Fraction) (b : Bool) (Q G R E : Series)
    → ((N : ℕ) → Q N ≡ G N +ℚ where_true b none) → ((N : ℕ) → R N ≡ E N +ℚ none) → Rises G → Rises E → IsBound R v
    → Holds Q R l h → Holds (λ N. none) R nl nh → nl ≤ℚ nh → nh <ℚ whole 1
    → Holds (λ N. (whole 1 -ℚ p) *ℚ G N +ℚ where_true b (p *ℚ E N)) E
    ((whole 1 -ℚ p) *ℚ ((l -ℚ where_true b nh) /ℚ (whole 1 -ℚ nl)) +ℚ where_true b p)
    ((whole 1 -ℚ p) *ℚ ((h -ℚ where_true b nl) /ℚ (whole 1 -ℚ nh)) +ℚ where_true b p)
changed_holds p none l h nl nh v b Q G R E cell_is all_is rG rE bound held none_held low_le below =
    let k = whole 1 -ℚ p in
    let c : Series = λ N. none in
    let rC : Rises c = λ N. le_refl none in
    let rR : Rises R = subst Rises (sym (fun_ext all_is)) (λ N. plus_le_both _ _ _ _ (rE N) (le_refl none)) in
    -- the part from at least one claim, and the whole weight of at least one claim
    let part = holds_minus G (λ N. where_true b none) R (where_true b nl) (where_true b nh) l h v rG
    (where_rises b c rC) rR bound (subst (λ S. Holds S R l h) (fun_ext cell_is) held) (where_holds b c R nl nh none_held) in
    let rest = holds_minus E c R nl nh (whole 1) (whole 1) v rE rC rR bound
    (subst (λ S. Holds S R (whole 1) (whole 1)) (fun_ext all_is) (self_holds R)) none_held in
    let high : whole 0 <ℚ whole 1 -ℚ nh = rest_pos nh (whole 1) below in
    let low : whole 0 <ℚ whole 1 -ℚ nl =
    lt_of_lt_of_le _ _ _ high (sub_le_both (whole 1) (whole 1) nh nl (le_refl _) low_le) in
    let claims = scaled k G E _ _ (quotient G E R _ _ _ _ high low part rest) in
    let weights = subst (λ t. Holds (λ N. p *ℚ E N) E t t) (times_one p)
    (scaled p E E (whole 1) (whole 1) (self_holds E)) in
    holds_plus (λ N. k *ℚ G N) (λ N. where_true b (p *ℚ E N)) E _ _ _ _ (λ N. grw (order, rG N))
    (where_rises b (λ N. p *ℚ E N) (λ N. grw (order, rE N))) claims (where_holds b (λ N. p *ℚ E N) E p p weights)

pub changed_zero_holds : (p none l h nl nh v : Fraction) (y : ℕ) (Q R G E : Series) → IsWithNone y none Q R G E
    → Rises G → Rises E → IsBound R v → Holds Q R l h → Holds (λ N. none) R nl nh → nl ≤ℚ nh → nh <ℚ whole 1
    → Holds (with_none p y G E) E (changed_end p y l nh nl) (changed_end p y h nl nh)
changed_zero_holds p none l h nl nh v y Q R G E is rG rE b a c o lt =
    changed_holds p none l h nl nh v (nat_eq y 0) Q G R E is.outcome is.whole_weight rG rE b a c o lt

-- ---- the outcomes together

pub with_none_rises : (p : Fraction) (y : ℕ) (G E : Series) → Rises G → Rises E → Rises (with_none p y G E)
with_none_rises p y G E rG rE N = plus_le_both _ _ _ _ (grw (order, rG N))
    (where_rises (nat_eq y 0) (λ N. p *ℚ E N) (λ N. grw (order, rE N)) N)

pub with_none_all : (p : Fraction) (k N : ℕ) (G : ℕ → Series) (E : Series) → p ≤ℚ whole 1
    → sum_to k (λ y. G y N) ≡ E N → sum_to k (λ y. with_none p y (G y) E N) ≡ E N
with_none_all p k N G E le full = simp (sum_to_plus, sum_to_times, full)
    (rw (pick k 0 (λ y. p *ℚ E N) (omega arith), ← plus_times, sub_plus (whole 1) p le) (one_times (E N)))

-- the mean: no claim adds 0
pub with_none_mean : (p : Fraction) (k N : ℕ) (G : ℕ → Series) (E : Series)
    → sum_to k (λ y. whole y *ℚ with_none p y (G y) E N) ≡ (whole 1 -ℚ p) *ℚ sum_to k (λ y. whole y *ℚ G y N)
with_none_mean p k N G E = ap (sum_to k) (fun_ext each) ∙ sum_to_times k (whole 1 -ℚ p) (λ y. whole y *ℚ G y N)
  where
    each : (y : ℕ) → whole y *ℚ with_none p y (G y) E N ≡ (whole 1 -ℚ p) *ℚ (whole y *ℚ G y N)
    each zero = simp (zero_times, times_zero)
    each (suc y) = rw (off (suc y) 0 (p *ℚ E N) (λ e. omega (arith, e))) (simp ring)

-- ---- the low ends together

no_value_above_one : (R : Series) (x v : Fraction) (level : ℕ) → Rises R → IsBound R v → whole 0 <ℚ R level
    → AtLeast R R x → x ≤ℚ whole 1
no_value_above_one R x v level r b pos a = elim (lt_or_le (whole 1) x) [
  | inr le ↦ le
  | inl lt ↦ absurd (not_both R r v level b pos R x a (whole 1, lt, (self_holds R).1))
]

-- the first item apart from the others
first_apart : (k : ℕ) (f : ℕ → Fraction) → sum_to k f ≡ f zero +ℚ sum_below k (λ i. f (suc i))
first_apart k f = sym (to_below k f) ∙ below_first k f

module _ (none nl nh v : Fraction) (k level : ℕ) (Q : ℕ → Series) (R : Series) (l : ℕ → Fraction)
    (rise : (y : ℕ) → Rises (Q y)) (R_rises : Rises R) (bound : IsBound R v) (pos : whole 0 <ℚ R level)
    (lows : (y : ℕ) → y ≤ k → AtLeast (Q y) R (l y)) (none_low : AtLeast (λ N. none) R nl) (low_le : nl ≤ℚ nh)
    (first : (N : ℕ) → none ≤ℚ Q zero N) (within : (N : ℕ) → sum_to k (λ y. Q y N) ≤ℚ R N)
    (add_up : sum_to k l ≤ℚ whole 1) where
  abbrev past : Fraction
  past = sum_below k (λ y. l (suc y))

  past_and_none : past +ℚ nl ≤ℚ whole 1
  past_and_none = no_value_above_one R _ v level R_rises bound pos (λ n u b.
      at_least_plus (λ N. sum_below k (λ y. Q (suc y) N)) (λ N. none) R past nl
      (below_rises k (λ y. Q (suc y)) (λ y. rise (suc y))) (λ N. le_refl none)
      (below_least k (λ y. Q (suc y)) R (λ y. l (suc y)) (λ y. rise (suc y)) (λ y c. lows (suc y) (omega arith)))
      none_low n u (λ m. grw (order, first m)
      (rw plus_comm (rw (← first_apart k (λ y. Q y m)) (le_trans _ _ _ (within m) (b m))))))

  reduced : (l zero -ℚ nh) +ℚ past ≤ℚ whole 1 -ℚ nl
  reduced = elim (lt_or_le (l zero) nh) [
    | inl under ↦ le_sub _ _ _ (rw (sub_nothing (l zero) nh (le_of_lt _ _ under), zero_plus) past_and_none)
    | inr over ↦ le_trans _ _ _ (le_sub _ _ _ (subst (λ t. t ≤ℚ whole 1)
        (first_apart k l ∙ ap (λ t. t +ℚ past) (sym (sub_plus (l zero) nh over)) ∙ simp ring) add_up))
        (sub_le_both (whole 1) (whole 1) nh nl (le_refl _) low_le)
  ]

  -- the same as one sum
  reduced_sum : sum_to k (λ y. l y -ℚ where_true (nat_eq y 0) nh) ≤ℚ whole 1 -ℚ nl
  reduced_sum = subst (λ t. t ≤ℚ whole 1 -ℚ nl) (sym (first_apart k _
      ∙ ap₂ (λ s t. s +ℚ t) (ap (λ t. l zero -ℚ t) (on 0 0 nh refl))
      (ap (sum_below k) (fun_ext (λ i. ap (λ t. l (suc i) -ℚ t) (off (suc i) 0 nh (λ e. omega (arith, e)))
      ∙ sub_zero _))))) reduced

  pub changed_lows : (p : Fraction) → p ≤ℚ whole 1 → nl <ℚ whole 1
      → sum_to k (λ y. changed_end p y (l y) nh nl) ≤ℚ whole 1
  changed_lows p le lt =
      let c = whole 1 -ℚ nl in
      let cp : whole 0 <ℚ c = rest_pos nl (whole 1) lt in
      let A : ℕ → Fraction = λ y. l y -ℚ where_true (nat_eq y 0) nh in
      let part : sum_to k (λ y. A y /ℚ c) ≤ℚ whole 1 = subst₂ (λ s t. s ≤ℚ t)
      (sym (ap (sum_to k) (fun_ext (λ y. div_is_times (A y) c cp)) ∙ sum_to_times k (whole 1 /ℚ c) A))
      (div_times (whole 1) c cp) (times_le_both _ _ _ _ (le_refl (whole 1 /ℚ c)) reduced_sum) in
      simp (sum_to_plus, sum_to_times) (rw (pick k 0 (λ y. p) (omega arith)) (grw (order, part)
      (le_of_eq _ _ (ap (λ t. t +ℚ p) (times_one _) ∙ sub_plus (whole 1) p le))))

-- ---- compound sums

pub none_apart : (w f : ℕ → Fraction) (N : ℕ) → sum_to N (λ n. w n *ℚ f n)
    ≡ sum_to N (λ n. without_none w n *ℚ f n) +ℚ w zero *ℚ f zero
unfolding sum_to without_none
none_apart w f zero = sym (ap (λ t. t +ℚ w zero *ℚ f zero) (zero_times _) ∙ zero_plus _)
none_apart w f (suc N) = ap (λ t. t +ℚ w (suc N) *ℚ f (suc N)) (none_apart w f N) ∙ plus_assoc _ _ _ ∙ plus_swap _ _ _

pub weights_apart : (w : ℕ → Fraction) (N : ℕ) → sum_to N w ≡ sum_to N (without_none w) +ℚ w zero
weights_apart w N = simp times_one at (none_apart w (λ n. whole 1) N)

pub cell_apart : (w f : ℕ → Fraction) (y N : ℕ)
    → cell w f y N ≡ cell (without_none w) f y N +ℚ where_true (nat_eq y 0) (w zero)
unfolding power at_zero
cell_apart w f y N = none_apart w (λ n. power f n y) N ∙ ap (λ t. cell (without_none w) f y N +ℚ t) (at y)
  where
    at : (y : ℕ) → w zero *ℚ at_zero y ≡ where_true (nat_eq y 0) (w zero)
    at zero = times_one _ ∙ sym (on 0 0 (w zero) refl)
    at (suc y) = times_zero _ ∙ sym (off (suc y) 0 (w zero) (λ e. omega (arith, e)))

pub compound_with_none : (w f : ℕ → Fraction) (y : ℕ) → IsWithNone y (w zero) (cell w f y) (λ N. sum_to N w)
    (cell (without_none w) f y) (λ N. sum_to N (without_none w))
compound_with_none w f y = record { outcome = cell_apart w f y; whole_weight = weights_apart w }

-- after a clause that maps 0 to 0
pub clause_with_none : (w f : ℕ → Fraction) (clause : ℕ → ℕ) (most y : ℕ) → clause 0 ≡ 0
    → IsWithNone y (w zero) (λ N. sum_to (N * most) (λ s. where_true (nat_eq (clause s) y) (cell w f s N)))
    (λ N. sum_to N w)
    (λ N. sum_to (N * most) (λ s. where_true (nat_eq (clause s) y) (cell (without_none w) f s N)))
    (λ N. sum_to N (without_none w))
clause_with_none w f clause most y none = record {
  outcome = λ N.
      let M = N * most in
      let c : ℕ → Bool = λ s. nat_eq (clause s) y in
      sum_to_same M _ _ (λ s b. ap (where_true (c s)) (cell_apart w f s N) ∙ where_plus (c s) _ _)
      ∙ sum_to_plus M (λ s. where_true (c s) (cell (without_none w) f s N)) _
      ∙ ap (λ t. sum_to M (λ s. where_true (c s) (cell (without_none w) f s N)) +ℚ t)
      (sum_to_same M _ _ (λ s b. where_swap (c s) (nat_eq s 0) (w zero))
      ∙ pick M 0 (λ s. where_true (c s) (w zero)) (omega arith)
      ∙ ap (λ t. where_true (nat_eq t y) (w zero)) none ∙ where_turned 0 y (w zero));
  whole_weight = weights_apart w;
}
