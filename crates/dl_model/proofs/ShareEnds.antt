-- Ends of a share of the tail mean, from the mean of the unit, its joint means and its outcome at both ends of a bracket of
-- the quantile, in every weighing of lists of outcomes.
use Rattle.dl_model.proofs.Common.{◌≡◌, inl, inr, ℕ, nat_eq, nat_lt, nat_le, arith, sym, ap, ap₂, subst, subst₂, ◌∙◌, List, sum, get_or, fun_ext, cases_lt, cases_eq, lt-ltb, le-ltb, eq-eqb, ne_eqb, Fraction, whole, ◌+ℚ◌, ◌-ℚ◌, ◌*ℚ◌, ◌/ℚ◌, ◌≤ℚ◌, ◌<ℚ◌, ◌<◌, ◌≤◌, length, le_refl_n, le_antisymm, le_plus, le_refl, le_trans, plus_le_both, plus_zero, times_le_cancel, times_le_times, zero_le, zero_or_pos, zero_times, div_times, times_right_comm, Quantity, sum_to, ring, times_one, one_times, times_comm, times_assoc, zero_plus, plus_times, sub_plus, sum_to_same, sum_to_times_right, Series, IsBound, Rises, AtMost, AtLeast, Holds, Loss, AreDeclarable, One, Point, Cdf, Outcome, Joint, Part, Share, score, sum_over_outcomes, partial_sums, where_true, lt-leb, le-leb, Bool, false, true, times_plus, times_zero, HoldsShare}
use Rattle.dl_model.proofs.TotalLaws.{scaled_least, scaled_most, at_least_wider, at_most_wider, at_most_plus, at_least_plus, scaled_rises, most_with_factor, least_with_factor, minus_most, minus_least, where_factor, times_where, to_rises, outcomes_rise, points_to, above_cdf, div_is_times, rest_pos}
use Rattle.dl_model.proofs.Declared.{quotient_least, quotient_most}
use Rattle.dl_model.proofs.Weighings.{IsWeighing, joint_le_point, losses_weighing, weighed_by, weighed_same, weighed_sum}

-- ---- a value over a value

most_chain : (Q R O : Series) (a b : Fraction) → AtMost Q R a → AtMost R O b → AtMost Q O (a *ℚ b)
most_chain Q R O a b x y n u c = rw (times_assoc a b u) (x n (b *ℚ u) (λ m. y m u c))

least_chain : (Q R O : Series) (a b : Fraction) → AtLeast Q R a → AtLeast R O b → AtLeast Q O (a *ℚ b)
least_chain Q R O a b x y n u c =
    subst (λ t. t ≤ℚ u) (simp ring) (least_with_factor R O b y a u (λ m. rw times_comm (x m u c)) n)

-- a factor of both series changes no value
both_most : (k : Fraction) (Q R : Series) (h : Fraction) → AtMost Q R h → AtMost (λ N. k *ℚ Q N) (λ N. k *ℚ R N) h
both_most k Q R h a n u b = rw times_comm (most_with_factor Q R h a k u (λ m. rw times_comm (b m)) n)

both_least : (k : Fraction) (Q R : Series) (l : Fraction) → AtLeast Q R l → AtLeast (λ N. k *ℚ Q N) (λ N. k *ℚ R N) l
both_least k Q R l a n u b =
    subst (λ t. t ≤ℚ u) (simp ring) (least_with_factor Q R l a k u (λ m. rw times_comm (b m)) n)

-- the division first
over_first : (j c e : Fraction) → whole 0 <ℚ c → j /ℚ c *ℚ e *ℚ c ≡ j *ℚ e
over_first j c e pos = times_right_comm (j /ℚ c) e c ∙ ap (λ t. t *ℚ e) (div_times j c pos)

-- ---- the parts of the unit's mean, and of the distribution

module _ (n : ℕ) (E : (List ℕ → Fraction) → Series) (w : IsWeighing n E) (i : ℕ) where
  -- the unit's outcome where the total is above q, and its joint means up to q
  abbrev beyond : ℕ → Series
  beyond q = E (λ ys. where_true (nat_lt q (sum ys)) (whole (get_or ys i 0)))

  abbrev up_to : ℕ → Series
  up_to q N = sum_to q (λ x. E (score (Joint i x)) N)

  mean_parts : (q N : ℕ) → beyond q N +ℚ up_to q N ≡ E (score (Outcome i)) N
  mean_parts q N =
      ap (λ t. beyond q N +ℚ t) (sym (weighed_sum n E w q (λ x. score (Joint i x)) N))
      ∙ sym (w.adds (λ ys. where_true (nat_lt q (sum ys)) (whole (get_or ys i 0)))
      (λ ys. sum_to q (λ x. score (Joint i x) ys)) N)
      ∙ weighed_same E _ _ N (λ ys.
      let y = whole (get_or ys i 0) in
      ap₂ (λ a b. a +ℚ b) (where_factor (nat_lt q (sum ys)) y)
      (sum_to_same q _ _ (λ x e. where_factor (nat_eq (sum ys) x) y)
      ∙ sum_to_times_right q y (λ x. where_true (nat_eq (sum ys) x) (whole 1))
      ∙ ap (λ t. t *ℚ y) (sym (points_to q (sum ys))))
      ∙ sym (plus_times _ _ y) ∙ ap (λ t. t *ℚ y) (above_cdf q (sum ys)) ∙ one_times y)

  -- what is at a later total, and beyond it, is beyond an earlier one
  later_beyond : (x y : ℕ) → x < y → (N : ℕ) → beyond y N +ℚ E (score (Joint i y)) N ≤ℚ beyond x N
  later_beyond x y h N =
      subst (λ t. t ≤ℚ beyond x N)
      (w.adds (λ ys. where_true (nat_lt y (sum ys)) (whole (get_or ys i 0))) (score (Joint i y)) N)
      (w.grows (λ ys. where_true (nat_lt y (sum ys)) (whole (get_or ys i 0)) +ℚ score (Joint i y) ys) _
      (λ ys. each (sum ys) (whole (get_or ys i 0))) N)
    where
      each : (s : ℕ) (z : Fraction)
          → where_true (nat_lt y s) z +ℚ where_true (nat_eq s y) z ≤ℚ where_true (nat_lt x s) z
      each s z = elim (cases_lt y s) [
        | inl far ↦ rw (lt-ltb y s far, lt-ltb x s (omega arith), ne_eqb s y (omega arith), plus_zero) (le_refl z)
        | inr near ↦ elim (cases_eq s y) [
          | inl e ↦ rw (le-ltb y s near, lt-ltb x s (omega arith), eq-eqb s y e, zero_plus) (le_refl z)
          | inr e ↦ rw (le-ltb y s near, ne_eqb s y e, zero_plus) (zero_le _)
        ]
      ]

  module _ (q : ℕ) (u : Fraction) (le : u ≤ℚ whole 1) where
    abbrev k : Fraction
    k = whole 1 -ℚ u

    k_most : k ≤ℚ whole 1
    k_most = subst (λ t. k ≤ℚ t) (sub_plus (whole 1) u le) (le_plus k u)

    -- the part of the probability at q that belongs to the tail
    abbrev in_tail : Series
    in_tail N = k *ℚ E (score (Point q)) N

    cdf_parts : (N : ℕ) → in_tail N +ℚ E (score (Part q u)) N ≡ E (score (Cdf q)) N
    cdf_parts N =
        ap (λ t. t +ℚ E (score (Part q u)) N) (sym (w.scales k (score (Point q)) N))
        ∙ sym (w.adds (λ ys. k *ℚ score (Point q) ys) (score (Part q u)) N)
        ∙ weighed_same E _ _ N (λ ys. each (sum ys))
      where
        each : (s : ℕ) → k *ℚ where_true (nat_eq s q) (whole 1) +ℚ (where_true (nat_lt s q) (whole 1) +ℚ
            where_true (nat_eq s q) u) ≡ where_true (nat_le s q) (whole 1)
        each s = elim (cases_lt q s) [
          | inl far ↦ rw (ne_eqb s q (omega arith), le-ltb s q (omega arith), lt-leb s q far) (simp ring)
          | inr near ↦ elim (cases_eq s q) [
            | inl e ↦ rw (eq-eqb s q e, le-ltb s q (omega arith), le-leb s q near)
                (simp (times_one, zero_plus) (sub_plus (whole 1) u le))
            | inr e ↦ rw (ne_eqb s q e, lt-ltb s q (omega arith), le-leb s q near) (simp ring)
          ]
        ]

    abbrev joint_in_tail : Series
    joint_in_tail N = k *ℚ E (score (Joint i q)) N

    joint_part : (N : ℕ) → joint_in_tail N ≤ℚ E (score (Joint i q)) N
    joint_part N = subst (λ t. joint_in_tail N ≤ℚ t) (one_times _) (times_le_times _ _ _ k_most)

    module _ (p : Fraction) (below : p <ℚ whole 1) where
      abbrev c : Fraction
      c = whole 1 /ℚ (whole 1 -ℚ p)

      where_over : (b : Bool) (z : Fraction) → where_true b (z /ℚ (whole 1 -ℚ p)) ≡ c *ℚ where_true b z
      where_over true z = div_is_times z (whole 1 -ℚ p) (rest_pos p (whole 1) below)
      where_over false z = sym (times_zero c)

      share_parts : (N : ℕ) → E (score (Share i p q u)) N ≡ c *ℚ (beyond q N +ℚ joint_in_tail N)
      share_parts N =
          weighed_same E _ (λ ys. c *ℚ (where_true (nat_lt q (sum ys)) (whole (get_or ys i 0)) +ℚ
          k *ℚ score (Joint i q) ys)) N (λ ys.
          let y = whole (get_or ys i 0) in
          ap₂ (λ a b. a +ℚ b) (where_over (nat_lt q (sum ys)) y)
          (where_over (nat_eq (sum ys) q) (k *ℚ y) ∙ ap (λ t. c *ℚ t) (sym (times_where (nat_eq (sum ys) q) k y)))
          ∙ sym (times_plus c _ _))
          ∙ w.scales c _ N
          ∙ ap (λ t. c *ℚ t) (w.adds (λ ys. where_true (nat_lt q (sum ys)) (whole (get_or ys i 0)))
          (λ ys. k *ℚ score (Joint i q) ys) N
          ∙ ap (λ t. beyond q N +ℚ t) (w.scales k (score (Joint i q)) N))

-- ---- the part of the unit's outcome at a total that lies in the tail

-- a is a high end of it, at each part u with which p is reached
abbrev pub AtomMost : (Quantity → Series) → (i : ℕ) (p : Fraction) (x : ℕ) (a : Fraction) → Type 0
AtomMost D i p x a = (u : Fraction) → u ≤ℚ whole 1 → AtLeast (D (Part x u)) (D One) p
    → AtMost (λ N. (whole 1 -ℚ u) *ℚ D (Joint i x) N) (D One) a

-- a is a low end of it, at each part u with which p is not passed
abbrev pub AtomLeast : (Quantity → Series) → (i : ℕ) (p : Fraction) (x : ℕ) (a : Fraction) → Type 0
AtomLeast D i p x a = (u : Fraction) → u ≤ℚ whole 1 → AtMost (D (Part x u)) (D One) p
    → AtLeast (λ N. (whole 1 -ℚ u) *ℚ D (Joint i x) N) (D One) a

module _ (n : ℕ) (E : (List ℕ → Fraction) → Series) (w : IsWeighing n E) (rise : (f : List ℕ → Fraction) → Rises (E f))
    (v : Fraction) (bound : IsBound (E (score One)) v) (i : ℕ) (p : Fraction) where
  abbrev D : Quantity → Series
  D = weighed_by E

  pub atom_whole : (x : ℕ) (a : Fraction) → AtMost (D (Joint i x)) (D One) a → AtomMost D i p x a
  atom_whole x a most u le part N v b = le_trans _ _ _ (joint_part n E w i x u le N) (most N v b)

  -- by the outcome's value where the total is x, and what the distribution there has above p
  given_most : (x : ℕ) (g f : Fraction) → AtMost (D (Joint i x)) (D (Point x)) g → AtMost (D (Cdf x)) (D One) f
      → AtomMost D i p x (g *ℚ (f -ℚ p))
  given_most x g f given cdf u le part =
      let d = minus_most _ _ (D One) f p (scaled_rises (whole 1 -ℚ u) _ (rise (score (Point x)))) (rise (score (Part x u)))
      (subst (λ S. AtMost S (D One) f) (sym (fun_ext (cdf_parts n E w i x u le))) cdf) part in
      most_chain _ _ (D One) g (f -ℚ p) (both_most (whole 1 -ℚ u) _ _ g given) d

  given_least : (x : ℕ) (g f : Fraction) → AtLeast (D (Joint i x)) (D (Point x)) g → AtLeast (D (Cdf x)) (D One) f
      → AtomLeast D i p x (g *ℚ (f -ℚ p))
  given_least x g f given cdf u le part =
      let d = minus_least _ _ (D One) f p v (rise (score One)) bound
      (subst (λ S. AtLeast S (D One) f) (sym (fun_ext (cdf_parts n E w i x u le))) cdf) part in
      least_chain _ _ (D One) g (f -ℚ p) (both_least (whole 1 -ℚ u) _ _ g given) d

  pub atom_most : (x : ℕ) (j c f a : Fraction) → whole 0 <ℚ c → AtMost (D (Joint i x)) (D One) j
      → AtLeast (D (Point x)) (D One) c → AtMost (D (Cdf x)) (D One) f → j *ℚ (f -ℚ p) ≤ℚ a *ℚ c → AtomMost D i p x a
  atom_most x j c f a pos joint point cdf room u le part =
      at_most_wider _ (D One) (j /ℚ c *ℚ (f -ℚ p)) a
      (given_most x (j /ℚ c) f (quotient_most (D (Joint i x)) (D (Point x)) (D One) j c pos joint point) cdf u le part)
      (times_le_cancel _ _ c pos (subst (λ t. t ≤ℚ a *ℚ c) (sym (over_first j c (f -ℚ p) pos)) room))

  -- no outcome of a unit is above a total that has no probability
  no_joint : (x : ℕ) → AtMost (D (Point x)) (D One) (whole 0) → (N : ℕ) → D (Joint i x) N ≡ whole 0
  no_joint x point N =
      le_antisymm _ _ (subst (λ t. D (Joint i x) N ≤ℚ t) none (joint_le_point n E w i x N)) (zero_le _)
    where
      none : whole x *ℚ D (Point x) N ≡ whole 0
      none = ap (λ t. whole x *ℚ t) (le_antisymm _ _ (rw zero_times at (point N v bound)) (zero_le _)) ∙ times_zero _

  pub atom_least : (x : ℕ) (j c f a : Fraction) → AtLeast (D (Joint i x)) (D One) j
      → AtMost (D (Point x)) (D One) c → AtLeast (D (Cdf x)) (D One) f → a ≤ℚ j → a *ℚ c ≤ℚ j *ℚ (f -ℚ p)
      → AtomLeast D i p x a
  atom_least x j c f a joint point cdf most room u le part = elim (zero_or_pos c) [
    | inl none ↦
        let nothing = no_joint x (subst (AtMost (D (Point x)) (D One)) none point) in
        subst (λ Q. AtLeast Q (D One) a)
        (fun_ext (λ N. nothing N ∙ sym (ap (λ t. (whole 1 -ℚ u) *ℚ t) (nothing N) ∙ times_zero _)))
        (at_least_wider (D (Joint i x)) (D One) j a joint most)
    | inr pos ↦ at_least_wider _ (D One) (j /ℚ c *ℚ (f -ℚ p)) a
        (given_least x (j /ℚ c) f (quotient_least (D (Joint i x)) (D (Point x)) (D One) j c pos joint point) cdf u le part)
        (times_le_cancel _ _ c pos (subst (λ t. a *ℚ c ≤ℚ t) (sym (over_first j c (f -ℚ p) pos)) room))
  ]

  -- ---- the ends, at the bracket from lo to hi

  module _ (below : p <ℚ whole 1) where
    over_rest : (x : Fraction) → whole 1 /ℚ (whole 1 -ℚ p) *ℚ x ≡ x /ℚ (whole 1 -ℚ p)
    over_rest x = sym (div_is_times x (whole 1 -ℚ p) (rest_pos p (whole 1) below))

    up_to_rises : (q : ℕ) → Rises (up_to n E w i q)
    up_to_rises q = to_rises q (λ x. D (Joint i x)) (λ x. rise (score (Joint i x)))

    pub share_most : (lo q : ℕ) → lo ≤ q → (m b a : Fraction) → AtMost (D (Outcome i)) (D One) m
        → AtLeast (λ N. sum_to lo (λ x. D (Joint i x) N)) (D One) b → AtomMost D i p lo a
        → (u : Fraction) → u ≤ℚ whole 1 → AtLeast (D (Part q u)) (D One) p
        → AtMost (D (Share i p q u)) (D One) ((m -ℚ b +ℚ a) /ℚ (whole 1 -ℚ p))
    share_most lo q order m b a mean joints atom u le part =
        subst₂ (λ Q t. AtMost Q (D One) t) (sym (fun_ext (share_parts n E w i q u le p below))) (over_rest (m -ℚ b +ℚ a))
        (scaled_most (whole 1 /ℚ (whole 1 -ℚ p)) _ (D One) _ in_tail)
      where
        above : AtMost (beyond n E w i lo) (D One) (m -ℚ b)
        above = minus_most _ _ (D One) m b (rise _) (up_to_rises lo)
            (subst (λ S. AtMost S (D One) m) (sym (fun_ext (mean_parts n E w i lo))) mean) joints

        in_tail : AtMost (λ N. beyond n E w i q N +ℚ (whole 1 -ℚ u) *ℚ D (Joint i q) N) (D One) (m -ℚ b +ℚ a)
        in_tail = elim (cases_lt lo q) [
          | inl far ↦ λ N v c. le_trans _ _ _ (plus_le_both _ _ _ _ (le_refl _) (joint_part n E w i q u le N))
              (le_trans _ _ _ (later_beyond n E w i lo q far N)
              (at_most_wider _ (D One) (m -ℚ b) (m -ℚ b +ℚ a) above (le_plus _ _) N v c))
          | inr near ↦
              let same : lo ≡ q = omega arith in
              subst (λ x. AtMost (λ N. beyond n E w i x N +ℚ (whole 1 -ℚ u) *ℚ D (Joint i x) N) (D One) (m -ℚ b +ℚ a)) same
              (at_most_plus _ _ (D One) _ _ above
              (atom u le (subst (λ x. AtLeast (D (Part x u)) (D One) p) (sym same) part)))
        ]

    pub share_least : (q hi : ℕ) → q ≤ hi → (m b a : Fraction) → AtLeast (D (Outcome i)) (D One) m
        → AtMost (λ N. sum_to hi (λ x. D (Joint i x) N)) (D One) b → AtomLeast D i p hi a
        → (q < hi → AtLeast (D (Joint i hi)) (D One) a)
        → (u : Fraction) → u ≤ℚ whole 1 → AtMost (D (Part q u)) (D One) p
        → AtLeast (D (Share i p q u)) (D One) ((m -ℚ b +ℚ a) /ℚ (whole 1 -ℚ p))
    share_least q hi order m b a mean joints atom joint u le part =
        subst₂ (λ Q t. AtLeast Q (D One) t) (sym (fun_ext (share_parts n E w i q u le p below))) (over_rest (m -ℚ b +ℚ a))
        (scaled_least (whole 1 /ℚ (whole 1 -ℚ p)) _ (D One) _ in_tail)
      where
        above : AtLeast (beyond n E w i hi) (D One) (m -ℚ b)
        above = minus_least _ _ (D One) m b v (rise (score One)) bound
            (subst (λ S. AtLeast S (D One) m) (sym (fun_ext (mean_parts n E w i hi))) mean) joints

        in_tail : AtLeast (λ N. beyond n E w i q N +ℚ (whole 1 -ℚ u) *ℚ D (Joint i q) N) (D One) (m -ℚ b +ℚ a)
        in_tail = elim (cases_lt q hi) [
          | inl far ↦ λ N z c. at_least_plus _ _ (D One) _ _ (rise _) (rise (score (Joint i hi))) above (joint far) N z
              (λ k. le_trans _ _ _ (later_beyond n E w i q hi far k) (le_trans _ _ _ (le_plus _ _) (c k)))
          | inr near ↦
              let same : hi ≡ q = omega arith in
              subst (λ x. AtLeast (λ N. beyond n E w i x N +ℚ (whole 1 -ℚ u) *ℚ D (Joint i x) N) (D One) (m -ℚ b +ℚ a)) same
              (at_least_plus _ _ (D One) _ _ (rise _) (scaled_rises (whole 1 -ℚ u) _ (rise (score (Joint i hi)))) above
              (atom u le (subst (λ x. AtMost (D (Part x u)) (D One) p) (sym same) part)))
        ]

-- ---- independent units, at the quantile

pub share_ends : (us : List Loss) → AreDeclarable us → (i q : ℕ) (p v : Fraction) → p <ℚ whole 1
    → IsBound (partial_sums us One) v → (ml mh bl bh fl fh kl kh : Fraction)
    → Holds (partial_sums us (Outcome i)) (partial_sums us One) ml mh
    → Holds (λ N. sum_to q (λ x. partial_sums us (Joint i x) N)) (partial_sums us One) bl bh
    → Holds (partial_sums us (Cdf q)) (partial_sums us One) fl fh
    → Holds (partial_sums us (Joint i q)) (partial_sums us (Point q)) kl kh
    → HoldsShare (partial_sums us) i p q ((ml -ℚ bh +ℚ kl *ℚ (fl -ℚ p)) /ℚ (whole 1 -ℚ p))
    ((mh -ℚ bl +ℚ kh *ℚ (fh -ℚ p)) /ℚ (whole 1 -ℚ p))
share_ends us are i q p v below bound ml mh bl bh fl fh kl kh mean joints cdf share =
    let n = length us in
    let E = sum_over_outcomes us in
    let w = losses_weighing us in
    let rise = outcomes_rise us are in
    record {
      at_most = share_most n E w rise v bound i p below q q (le_refl_n q) mh bl (kh *ℚ (fh -ℚ p)) mean.1 joints.0
          (given_most n E w rise v bound i p q kh fh share.1 cdf.1);
      at_least = share_least n E w rise v bound i p below q q (le_refl_n q) ml bh (kl *ℚ (fl -ℚ p)) mean.0 joints.1
          (given_least n E w rise v bound i p q kl fl share.0 cdf.0) (λ far. absurd (omega arith));
    }
