-- The declared value of one of two parts, from those of the whole and of the other part.
use Rattle.dl_model.proofs.Common.{◌≡◌, inl, inr, ℕ, max, sym, subst, subst₂, ◌∙◌, le-max_left, le-max_right, fun_ext, Fraction, ◌+ℚ◌, ◌-ℚ◌, ◌*ℚ◌, ◌≤ℚ◌, whole, Series, IsBound, AtMost, AtLeast, Holds, Rises, plus, le_of_lt, zero_le, plus_comm, zero_times, le_refl, lt_or_le, plus_le_both, le_plus, plus_times, sub_plus, sub_nothing, order, suc, zero, ap, ◌<ℚ◌, ring, le_trans, lt_not_le, one_times, whole_suc, archimedes, lt_gap, le_of_eq, zero_or_pos, div_pos, div_times, times_le_cancel, plus_le_cancel, le_sub, plus_zero, ◌/ℚ◌}
use Rattle.dl_model.proofs.Declared.{self_holds, at_least_shifted, at_most_wider, crossed, rises_to}

-- what can be lowered by d again and again is not there
descend : (P : Fraction → Type 0) (d : Fraction) → ((v : Fraction) → P v → (w : Fraction) × (w +ℚ d ≤ℚ v) × P w)
    → (k : ℕ) (v : Fraction) → P v → v <ℚ whole k *ℚ d → ⊥
descend P d step zero v p h = lt_not_le v _ h (rw zero_times (zero_le v))
descend P d step (suc k) v p h =
    let s = step v p in
    elim (lt_or_le s.0 (whole k *ℚ d)) [
      | inl l ↦ descend P d step k s.0 s.2 l
      | inr l ↦ lt_not_le v _ h (rw (whole_suc k, plus_times, one_times) (grw (order, l) s.1))
    ]

pub no_descent : (P : Fraction → Type 0) (d : Fraction)
    → whole 0 <ℚ d → ((v : Fraction) → P v → (w : Fraction) × (w +ℚ d ≤ℚ v) × P w) → (v : Fraction) → P v → ⊥
no_descent P d h step v p = let a = archimedes v d h in descend P d step a.0 v p a.1

-- R comes as near to its bounds as one likes
pub close : (R : Series) (e x y h : Fraction) → IsBound R e
    → ((v : Fraction) → IsBound R v → v ≤ℚ e → (m : ℕ) → x +ℚ h *ℚ R m ≤ℚ y +ℚ h *ℚ v) → x ≤ℚ y
close R e x y h bounded c = elim (lt_or_le y x) [
  | inr l ↦ l
  | inl l ↦ absurd (
      let g = lt_gap y x l in
      elim (zero_or_pos h) [
        | inl z ↦ lt_not_le y x l (simp (z, zero_times, plus_zero) at (c e bounded (le_refl e) zero))
        | inr hp ↦
            let d = g.0 /ℚ h in
            no_descent (λ v. IsBound R v × (v ≤ℚ e)) d (div_pos g.0 h g.1 hp) (λ v w.
            let lower : (m : ℕ) → R m +ℚ d ≤ℚ v = λ m. times_le_cancel _ _ h hp (rw (plus_times, div_times g.0 h hp)
            (plus_le_cancel _ _ y (subst₂ (λ s t. s ≤ℚ t) (ap (λ t. t +ℚ h *ℚ R m) (sym g.2) ∙ simp ring) (simp ring)
            (c v w.0 w.1 m)))) in
            let back : v -ℚ d +ℚ d ≡ v =
            sub_plus v d (le_trans _ _ _ (le_plus d (R zero)) (rw (plus_comm d) (lower zero))) in (
              v -ℚ d,
              le_of_eq _ _ back,
              (λ m. le_sub _ _ _ (lower m), le_trans _ _ _ (rw back at (le_plus (v -ℚ d) d)) w.1),
            ))
            e (bounded, le_refl e)
      ])
]

pub at_least_rest : (Q Q' R : Series) (h k v : Fraction) → ((n : ℕ) → Q n +ℚ Q' n ≡ R n) → IsBound R v
    → h +ℚ k ≡ whole 1 → AtMost Q R h → AtLeast Q' R k
at_least_rest Q Q' R h k v e bv one a n u b = close R v (k *ℚ R n) u h bv (λ v bv _ m.
    let all : (m : ℕ) → R m ≤ℚ u +ℚ h *ℚ v =
    λ m. rw (← e m, plus_comm (Q m)) (plus_le_both _ _ _ _ (b m) (a m v bv)) in
    grw (order, all n, all m) (le_of_eq _ _ (rw (← plus_times, plus_comm k, one) (one_times _))))

pub at_least_minus : (Q Q' R : Series) (l h v : Fraction) → Rises R → IsBound R v → AtLeast (plus Q Q') R (l +ℚ h)
    → AtMost Q' R h → AtLeast Q R l
at_least_minus Q Q' R l h v r bv a a' n u b = close R v (l *ℚ R n) u h bv (λ v bv _ m.
    let k = max m n in
    grw (order, rises_to R r n k (le-max_right m n), rises_to R r m k (le-max_left m n))
    (rw (← plus_times) (a k (u +ℚ h *ℚ v) (λ j. plus_le_both _ _ _ _ (b j) (a' j v bv)))))

pub at_most_minus : (Q Q' R : Series) (h l : Fraction) → Rises Q → Rises Q' → AtMost (plus Q Q') R (h +ℚ l)
    → AtLeast Q' R l → AtMost Q R h
at_most_minus Q Q' R h l r r' a a' n u b = close R u (Q n) (h *ℚ u) l b (λ v bv le m.
    grw (order, ← le) (rw (plus_comm (Q n), ← plus_times) (at_least_shifted Q' R l a' (Q n) ((h +ℚ l) *ℚ v)
    (λ j. rw (plus_comm (Q' j)) (crossed (λ x y. x +ℚ y) plus_le_both Q Q' r r' _ (λ i. a i v bv) n j)) m)))

pub at_most_rest : (Q Q' R : Series) (l k : Fraction) → Rises Q → Rises Q' → ((n : ℕ) → Q n +ℚ Q' n ≡ R n)
    → l +ℚ k ≡ whole 1 → AtLeast Q R l → AtMost Q' R k
at_most_rest Q Q' R l k r r' e one a = at_most_minus Q' Q R k l r' r (subst₂ (λ S t. AtMost S R t)
    (fun_ext (λ n. sym (e n) ∙ plus_comm _ _)) (sym one ∙ plus_comm l k) (self_holds R).1) a

pub le_sub_plus : (x y : Fraction) → x ≤ℚ x -ℚ y +ℚ y
le_sub_plus x y = elim (lt_or_le x y) [
  | inl less ↦ grw (order, le_of_lt x y less) (rw (plus_comm (x -ℚ y)) (le_plus y (x -ℚ y)))
  | inr more ↦ rw (sub_plus x y more) (le_refl x)
]

-- ---- the difference of two ends, 0 where it would be below

pub minus_least : (Q Q' R : Series) (m h v : Fraction) → Rises R → IsBound R v → AtLeast (plus Q Q') R m → AtMost Q' R h
    → AtLeast Q R (m -ℚ h)
minus_least Q Q' R m h v r b a a' = elim (lt_or_le m h) [
  | inl less ↦ λ N x c. rw (sub_nothing m h (le_of_lt m h less), zero_times) (zero_le x)
  | inr more ↦ at_least_minus Q Q' R (m -ℚ h) h v r b (subst (AtLeast (plus Q Q') R) (sym (sub_plus m h more)) a) a'
]

pub minus_most : (Q Q' R : Series) (n l : Fraction) → Rises Q → Rises Q' → AtMost (plus Q Q') R n → AtLeast Q' R l
    → AtMost Q R (n -ℚ l)
minus_most Q Q' R n l q q' a a' =
    at_most_minus Q Q' R (n -ℚ l) l q q' (at_most_wider (plus Q Q') R n _ a (le_sub_plus n l)) a'

pub holds_minus : (Q Q' R : Series) (l h m n v : Fraction) → Rises Q → Rises Q' → Rises R → IsBound R v
    → Holds (plus Q Q') R m n → Holds Q' R l h → Holds Q R (m -ℚ h) (n -ℚ l)
holds_minus Q Q' R l h m n v q q' r b w part =
    (minus_least Q Q' R m h v r b w.0 part.1, minus_most Q Q' R n l q q' w.1 part.0)
