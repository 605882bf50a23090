-- The laws of declared values.
use Rattle.dl_model.proofs.Common.{◌≡◌, inl, inr, ℕ, zero, ◌≤◌, max, ap, subst, subst₂, ◌∙◌, le-max_left, le-max_right, le_ind, Fraction, ◌+ℚ◌, ◌-ℚ◌, ◌*ℚ◌, ◌/ℚ◌, ◌≤ℚ◌, ◌<ℚ◌, whole, Series, IsBound, AtMost, AtLeast, Holds, Rises, plus, times, ring, plus_comm, times_comm, times_assoc, times_zero, zero_times, le_refl, le_trans, zero_le, plus_le_both, le_plus, times_le_times, plus_times, div_times, zero_or_pos, le_div, le_sub, one_times, times_le_cancel, times_le_both, plus_le_from_sub, times_right_comm, Bool, true, false, where_true, refl, order}

-- ---- a rising series

pub rises_to : (Q : Series) → Rises Q → (n m : ℕ) → n ≤ m → Q n ≤ℚ Q m
rises_to Q r n m h = le_ind (λ k. Q n ≤ℚ Q k) (le_refl _) (λ k _ p. le_trans _ _ _ p (r k)) m h

-- ---- widening

pub at_most_wider : (Q R : Series) (h k : Fraction) → AtMost Q R h → h ≤ℚ k → AtMost Q R k
at_most_wider Q R h k a p = λ n u b. le_trans _ _ _ (a n u b) (times_le_times h k u p)

pub at_least_wider : (Q R : Series) (l k : Fraction) → AtLeast Q R l → k ≤ℚ l → AtLeast Q R k
at_least_wider Q R l k a p = λ n u b. le_trans _ _ _ (times_le_times k l (R n) p) (a n u b)

-- ---- products

-- the hypothesis is what AtMost says of one level, and what AtLeast says of it for b = 1
under_scaled : (b x : Fraction) (F : Series) → ((u : Fraction) → IsBound F u → x ≤ℚ b *ℚ u) → (v w : Fraction)
    → ((m : ℕ) → F m *ℚ v ≤ℚ w) → x *ℚ v ≤ℚ b *ℚ w
under_scaled b x F under v w h = elim (zero_or_pos v) [
  | inl e ↦ rw (e, times_zero) (zero_le _)
  | inr p ↦ subst (λ t. x *ℚ v ≤ℚ t) (times_assoc b (w /ℚ v) v ∙ ap (λ t. b *ℚ t) (div_times w v p))
      (times_le_times _ _ v (under (w /ℚ v) (λ m. le_div (F m) v w p (h m))))
]

pub most_with_factor : (Q R : Series) (h : Fraction) → AtMost Q R h → (v w : Fraction) → ((m : ℕ) → R m *ℚ v ≤ℚ w) → (n : ℕ)
    → Q n *ℚ v ≤ℚ h *ℚ w
most_with_factor Q R h a v w b n = under_scaled h (Q n) R (a n) v w b

pub least_with_factor : (Q R : Series) (l : Fraction) → AtLeast Q R l → (v w : Fraction) → ((m : ℕ) → Q m *ℚ v ≤ℚ w)
    → (n : ℕ) → l *ℚ R n *ℚ v ≤ℚ w
least_with_factor Q R l a v w b n = rw one_times at
    (under_scaled (whole 1) (l *ℚ R n) Q (λ u c. rw one_times (a n u c)) v w b)

-- items at two levels, by an operation that keeps the order
pub crossed : (op : Fraction → Fraction → Fraction)
    → ((x y z w : Fraction) → x ≤ℚ y → z ≤ℚ w → op x z ≤ℚ op y w) → (F G : Series) → Rises F → Rises G → (u : Fraction)
    → ((n : ℕ) → op (F n) (G n) ≤ℚ u) → (m k : ℕ) → op (F m) (G k) ≤ℚ u
crossed op keeps F G rF rG u h m k = le_trans _ _ _ (keeps _ _ _ _ (rises_to F rF m (max m k) (le-max_left m k))
    (rises_to G rG k (max m k) (le-max_right m k))) (h (max m k))

pub at_most_times : (Q R Q' R' : Series) (h h' : Fraction) → Rises R → Rises R' → AtMost Q R h → AtMost Q' R' h'
    → AtMost (times Q Q') (times R R') (h *ℚ h')
at_most_times Q R Q' R' h h' r r' a a' n u b = subst₂ (λ s t. s ≤ℚ t) (times_comm _ _) (simp ring)
    (most_with_factor Q' R' h' a' (Q n) (h *ℚ u) (λ k. rw (times_comm (R' k)) (most_with_factor Q R h a (R' k) u
    (λ m. crossed (λ x y. x *ℚ y) times_le_both R R' r r' u b m k) n)) n)

pub at_least_times : (Q R Q' R' : Series) (l l' : Fraction) → Rises Q → Rises Q' → AtLeast Q R l → AtLeast Q' R' l'
    → AtLeast (times Q Q') (times R R') (l *ℚ l')
at_least_times Q R Q' R' l l' r r' a a' n u b = subst (λ t. t ≤ℚ u) (simp ring)
    (least_with_factor Q' R' l' a' (l *ℚ R n) u (λ k. rw (times_comm (Q' k)) (least_with_factor Q R l a (Q' k) u
    (λ m. crossed (λ x y. x *ℚ y) times_le_both Q Q' r r' u b m k) n)) n)

-- ---- sums over one R

pub at_most_plus : (Q Q' R : Series) (h h' : Fraction) → AtMost Q R h → AtMost Q' R h' → AtMost (plus Q Q') R (h +ℚ h')
at_most_plus Q Q' R h h' a a' n u b = rw (plus_times h h' u) (plus_le_both _ _ _ _ (a n u b) (a' n u b))

pub at_least_shifted : (Q R : Series) (l : Fraction) → AtLeast Q R l → (v w : Fraction) → ((m : ℕ) → Q m +ℚ v ≤ℚ w)
    → (n : ℕ) → l *ℚ R n +ℚ v ≤ℚ w
at_least_shifted Q R l a v w h n = plus_le_from_sub _ _ _ (le_trans _ _ _ (le_plus v (Q zero))
    (rw (plus_comm v) (h zero))) (a n (w -ℚ v) (λ m. le_sub _ _ _ (h m)))

pub at_least_plus : (Q Q' R : Series) (l l' : Fraction) → Rises Q → Rises Q' → AtLeast Q R l → AtLeast Q' R l'
    → AtLeast (plus Q Q') R (l +ℚ l')
at_least_plus Q Q' R l l' r r' a a' n u b = rw (plus_times, plus_comm (l *ℚ R n))
    (at_least_shifted Q' R l' a' (l *ℚ R n) u (λ k. rw (plus_comm (Q' k)) (at_least_shifted Q R l a (Q' k) u
    (λ m. crossed (λ x y. x +ℚ y) plus_le_both Q Q' r r' u b m k) n)) n)

-- ---- both ends

pub holds_wider : (Q R : Series) (l l' h h' : Fraction) → l' ≤ℚ l → h ≤ℚ h' → Holds Q R l h → Holds Q R l' h'
holds_wider Q R l l' h h' p q w = (at_least_wider Q R l l' w.0 p, at_most_wider Q R h h' w.1 q)

pub holds_plus : (Q Q' R : Series) (l l' h h' : Fraction) → Rises Q → Rises Q' → Holds Q R l h → Holds Q' R l' h'
    → Holds (plus Q Q') R (l +ℚ l') (h +ℚ h')
holds_plus Q Q' R l l' h h' r r' a b = (at_least_plus Q Q' R l l' r r' a.0 b.0, at_most_plus Q Q' R h h' a.1 b.1)

pub holds_times : (Q R Q' R' : Series) (l l' h h' : Fraction) → Rises Q → Rises R
    → Rises Q' → Rises R' → Holds Q R l h → Holds Q' R' l' h' → Holds (times Q Q') (times R R') (l *ℚ l') (h *ℚ h')
holds_times Q R Q' R' l l' h h' q r q' r' a b =
    (at_least_times Q R Q' R' l l' q q' a.0 b.0, at_most_times Q R Q' R' h h' r r' a.1 b.1)

-- ---- nothing, and what a test picks

pub none_holds : (Q R : Series) → ((N : ℕ) → Q N ≡ whole 0) → Holds Q R (whole 0) (whole 0)
none_holds Q R e = (λ n u b. rw zero_times (zero_le u), λ n u b. rw (e n) (zero_le _))

pub where_rises : (b : Bool) (Q : Series) → Rises Q → Rises (λ N. where_true b (Q N))
where_rises true Q r = r
where_rises false Q r = λ N. le_refl _

pub where_holds : (b : Bool) (Q R : Series) (l h : Fraction) → Holds Q R l h
    → Holds (λ N. where_true b (Q N)) R (where_true b l) (where_true b h)
where_holds true Q R l h a = a
where_holds false Q R l h a = none_holds _ R (λ N. refl)

-- ---- a series over itself, a factor, and a quotient over a third series

pub self_holds : (R : Series) → Holds R R (whole 1) (whole 1)
self_holds R = (λ n u b. rw one_times (b n), λ n u b. rw one_times (b n))

pub times_self : (k : Fraction) (R : Series) → Holds (λ N. k *ℚ R N) R k k
times_self k R = (λ n u b. b n, λ n u b. grw (order, b n))

pub scaled_rises : (k : Fraction) (Q : Series) → Rises Q → Rises (λ N. k *ℚ Q N)
scaled_rises k Q r N = grw (order, r N)

pub scaled_most : (k : Fraction) (Q R : Series) (h : Fraction) → AtMost Q R h → AtMost (λ N. k *ℚ Q N) R (k *ℚ h)
scaled_most k Q R h a n u b = rw (times_assoc k h u) (grw (order, a n u b))

pub scaled_least : (k : Fraction) (Q R : Series) (l : Fraction) → AtLeast Q R l → AtLeast (λ N. k *ℚ Q N) R (k *ℚ l)
scaled_least k Q R l a n u b =
    subst (λ t. t ≤ℚ u) (simp ring) (least_with_factor Q R l a k u (λ m. rw times_comm (b m)) n)

pub scaled : (k : Fraction) (Q R : Series) (l h : Fraction) → Holds Q R l h → Holds (λ N. k *ℚ Q N) R (k *ℚ l) (k *ℚ h)
scaled k Q R l h w = (scaled_least k Q R l w.0, scaled_most k Q R h w.1)

pub quotient_least : (Q R O : Series) (l h : Fraction) → whole 0 <ℚ h → AtLeast Q O l → AtMost R O h
    → AtLeast Q R (l /ℚ h)
quotient_least Q R O l h pos a b n u bound = times_le_cancel _ _ h pos
    (rw (times_right_comm (l /ℚ h), div_times l h pos, times_comm l, times_comm u)
    (most_with_factor R O h b l u (λ m. rw times_comm (a m u bound)) n))

pub quotient_most : (Q R O : Series) (h l : Fraction) → whole 0 <ℚ l → AtMost Q O h → AtLeast R O l
    → AtMost Q R (h /ℚ l)
quotient_most Q R O h l pos a b n u bound = times_le_cancel _ _ l pos
    (rw (times_right_comm (h /ℚ l) u l, div_times h l pos)
    (most_with_factor Q O h a l u (λ m. rw times_comm (b m u bound)) n))

pub quotient : (Q R O : Series) (l h l' h' : Fraction) → whole 0 <ℚ l' → whole 0 <ℚ h' → Holds Q O l h
    → Holds R O l' h' → Holds Q R (l /ℚ h') (h /ℚ l')
quotient Q R O l h l' h' lp hp a b = (quotient_least Q R O l h' hp a.0 b.1, quotient_most Q R O h l' lp a.1 b.0)
