-- Series with the same bounds.
use Rattle.dl_model.proofs.Common.{SameBounds, ◌/ℚ◌, div_times, le_div, zero_or_pos, zero_times, zero_le, times_le_times, inl, inr, ℕ, ◌+◌, max, sym, ap, subst, ◌∙◌, le-max_left, le-max_right, Fraction, ◌over◌, ◌*ℚ◌, ◌≤ℚ◌, ◌<ℚ◌, whole, sum_to, Series, IsBound, AtMost, AtLeast, Below, Rises, times, SameValue, convolve, Family, SameCells, Encloses, lt_not_le, ring, times_comm, le_refl, le_trans, lt_or_le, times_left_comm, one_times, lt_gap, times_pos, times_le_both, ◌≡◌, le_of_eq, order, zero_plus, times_assoc}
use Rattle.dl_model.proofs.Declared.{self_holds, rises_to, at_most_times, at_least_times}
use Rattle.dl_model.proofs.Minus.{close}
use Rattle.dl_model.proofs.Cauchy.{cauchy_low, cauchy_high}

-- each term of Q is at most some term of R
abbrev pub IsUnder : Series → Series → Type 0
IsUnder Q R = (n : ℕ) → (m : ℕ) × (Q n ≤ℚ R m)

pub bound_from : (Q R : Series) → IsUnder Q R → (u : Fraction) → IsBound R u → IsBound Q u
bound_from Q R a u b n = le_trans _ _ _ (a n).1 (b (a n).0)

-- each term of either is at most some term of the other
abbrev pub AreLevel : Series → Series → Type 0
AreLevel Q R = IsUnder Q R × IsUnder R Q

pub level_same : (Q R : Series) → ((n : ℕ) → Q n ≡ R n) → AreLevel Q R
level_same Q R e = (λ n. (n, le_of_eq _ _ (e n)), λ n. (n, le_of_eq _ _ (sym (e n))))

pub level_trans : (Q R T : Series) → AreLevel Q R → AreLevel R T → AreLevel Q T
level_trans Q R T a b = (under Q R T a.0 b.0, under T R Q b.1 a.1)
  where
    under : (Q R T : Series) → IsUnder Q R → IsUnder R T → IsUnder Q T
    under Q R T a b n = ((b (a n).0).0, le_trans _ _ _ (a n).1 (b (a n).0).1)

-- sums and products of rising series, by how each rises
pub level_both : (op : Fraction → Fraction → Fraction)
    → ((a b c d : Fraction) → a ≤ℚ b → c ≤ℚ d → op a c ≤ℚ op b d) → (Q Q' R R' : Series) → Rises Q → Rises Q'
    → Rises R → Rises R' → AreLevel Q Q' → AreLevel R R' → AreLevel (λ N. op (Q N) (R N)) (λ N. op (Q' N) (R' N))
level_both op grows Q Q' R R' q q' r r' a b = (under Q Q' R R' q' r' a.0 b.0, under Q' Q R' R q r a.1 b.1)
  where
    under : (Q Q' R R' : Series) → Rises Q' → Rises R' → IsUnder Q Q' → IsUnder R R'
        → IsUnder (λ N. op (Q N) (R N)) (λ N. op (Q' N) (R' N))
    under Q Q' R R' q r a b n =
        let i = (a n).0 in
        let j = (b n).0 in (
          max i j,
          grows _ _ _ _ (le_trans _ _ _ (a n).1 (rises_to Q' q i (max i j) (le-max_left i j)))
              (le_trans _ _ _ (b n).1 (rises_to R' r j (max i j) (le-max_right i j))),
        )

pub cauchy_level : (a b : ℕ → Fraction)
    → AreLevel (λ N. sum_to N (convolve a b)) (times (λ N. sum_to N a) (λ N. sum_to N b))
cauchy_level a b = (λ n. (n, cauchy_low n a b), λ n. (n + n, cauchy_high n a b))

-- ---- the same declared value

pub most_from : (Q R Q' R' : Series) (h : Fraction) → IsUnder Q' Q → IsUnder R R' → AtMost Q R h → AtMost Q' R' h
most_from Q R Q' R' h q r a n u b = le_trans _ _ _ (q n).1 (a (q n).0 u (bound_from R R' r u b))

pub least_from : (Q R Q' R' : Series) (l : Fraction) → IsUnder Q Q' → IsUnder R' R → AtLeast Q R l → AtLeast Q' R' l
least_from Q R Q' R' l q r a n u b =
    le_trans _ _ _ (times_le_both l l _ _ (le_refl l) (r n).1) (a (r n).0 u (bound_from Q Q' q u b))

pub same_value : (Q R Q' R' : Series) → AreLevel Q Q' → AreLevel R R' → SameValue Q R Q' R'
same_value Q R Q' R' q r = (
  (λ l. (least_from Q R Q' R' l q.0 r.1, least_from Q' R' Q R l q.1 r.0)),
  (λ h. (most_from Q R Q' R' h q.1 r.0, most_from Q' R' Q R h q.0 r.1)),
)

pub value_trans : (A B C D E F : Series) → SameValue A B C D → SameValue C D E F → SameValue A B E F
value_trans A B C D E F s t = (
  (λ l. (λ a. (t.0 l).0 ((s.0 l).0 a), λ a. (s.0 l).1 ((t.0 l).1 a))),
  (λ h. (λ a. (t.1 h).0 ((s.1 h).0 a), λ a. (s.1 h).1 ((t.1 h).1 a))),
)

pub value_sym : (A B C D : Series) → SameValue A B C D → SameValue C D A B
value_sym A B C D s = ((λ l. ((s.0 l).1, (s.0 l).0)), (λ h. ((s.1 h).1, (s.1 h).0)))

-- series with the same bounds, in the place of both
pub bounds_value : (Q R Q' R' : Series) → SameBounds Q Q' → SameBounds R R' → SameValue Q R Q' R'
bounds_value Q R Q' R' q r = (
  (λ l. (least Q R Q' R' q r l, least Q' R' Q R (λ u. ((q u).1, (q u).0)) (λ u. ((r u).1, (r u).0)) l)),
  (λ h. (most Q R Q' R' q r h, most Q' R' Q R (λ u. ((q u).1, (q u).0)) (λ u. ((r u).1, (r u).0)) h)),
)
  where
    most : (Q R Q' R' : Series) → SameBounds Q Q' → SameBounds R R' → (h : Fraction) → AtMost Q R h → AtMost Q' R' h
    most Q R Q' R' q r h a n u b = (q (h *ℚ u)).0 (λ m. a m u ((r u).1 b)) n

    least : (Q R Q' R' : Series) → SameBounds Q Q' → SameBounds R R' → (l : Fraction) → AtLeast Q R l → AtLeast Q' R' l
    least Q R Q' R' q r l a n u b = elim (zero_or_pos l) [
      | inl z ↦ rw (z, zero_times) (zero_le u)
      | inr lp ↦ subst (λ t. t ≤ℚ u) (times_comm _ _) (rw div_times at (times_le_times _ _ l
          ((r (u /ℚ l)).0 (λ m. le_div (R m) l u lp (rw times_comm (a m u ((q u).1 b)))) n)))
    ]

-- ---- a common factor

module _ (E : Series) (rise : Rises E) (e k₀ : _) (bounded : IsBound E e) (pos : whole 0 <ℚ E k₀) where
  pub cancel : (q s : Fraction) → ((e : Fraction) → IsBound E e → (k : ℕ) → E k *ℚ q ≤ℚ s *ℚ e) → q ≤ℚ s
  cancel q s h = elim (lt_or_le s q) [
    | inr l ↦ l
    | inl l ↦ absurd (
        let g = lt_gap s q l in
        lt_not_le (whole 0) (g.0 *ℚ E k₀) (times_pos g.0 (E k₀) g.1 pos)
        (close E e (g.0 *ℚ E k₀) (whole 0) s bounded (λ v b _ m.
        let k = max k₀ m in
        grw (order, rises_to E rise k₀ k (le-max_left k₀ m), rises_to E rise m k (le-max_right k₀ m))
        (rw zero_plus (subst (λ t. t ≤ℚ s *ℚ v) (ap (λ t. E k *ℚ t) (sym g.2) ∙ simp ring) (h v b k))))))
  ]

  cancel_most : (Q R : Series) (h : Fraction) → Rises Q → AtMost (times E Q) (times E R) h → AtMost Q R h
  cancel_most Q R h q a n u b = cancel (Q n) (h *ℚ u) (λ e be k.
      let m = max k n in
      grw (order, rises_to E rise k m (le-max_left k n), rises_to Q q n m (le-max_right k n))
      (rw (times_assoc h, times_comm u) (a m (e *ℚ u) (λ i. times_le_both _ _ _ _ (be i) (b i)))))

  cancel_least : (Q R : Series) (l : Fraction) → Rises R → AtLeast (times E Q) (times E R) l → AtLeast Q R l
  cancel_least Q R l r a n u b = cancel (l *ℚ R n) u (λ e be k.
      let m = max k n in
      grw (order, rises_to E rise k m (le-max_left k n), rises_to R r n m (le-max_right k n))
      (rw (times_left_comm (E m), times_comm u) (a m (e *ℚ u) (λ i. times_le_both _ _ _ _ (be i) (b i)))))

  -- a common factor that is bounded and positive changes no declared value
  pub cancel_value : (Q R : Series) → Rises Q → Rises R → SameValue (times E Q) (times E R) Q R
  cancel_value Q R q r = (
    (λ l. (cancel_least Q R l r, λ a. rw one_times at (at_least_times E E Q R (whole 1) l rise q (self_holds E).0 a))),
    (λ h. (cancel_most Q R h q, λ a. rw one_times at (at_most_times E E Q R (whole 1) h rise r (self_holds E).1 a))),
  )

  -- a low end of a declared value over a bounded and positive series is at most a high end
  pub ends_in_order : (Q : Series) (l h : Fraction) → AtLeast Q E l → AtMost Q E h → l ≤ℚ h
  ends_in_order Q l h a b = cancel l h (λ e be k. rw times_comm (a k (h *ℚ e) (λ m. b m e be)))

  pub not_both : (Q : Series) (p : Fraction) → AtLeast Q E p → Below Q E p → ⊥
  not_both Q p a b = lt_not_le b.0 p b.1 (ends_in_order Q p b.0 a b.2)

-- ---- families

pub same_cells_enclosed : (S K : ℕ) (lo hi : ℕ → ℕ) (F G : Family) → SameCells F G → Encloses S K lo hi F
    → Encloses S K lo hi G
same_cells_enclosed S K lo hi F G s e y b = (((s y).0 (lo y over S)).0 (e y b).0, ((s y).1 (hi y over S)).0 (e y b).1)
