-- Series whose least upper bound is a fraction.
use Rattle.dl_model.proofs.Common.{ℕ, suc, zero, ◌≡◌, max, le-max_left, le-max_right, ring, times_assoc, subst, fun_ext, Fraction, ◌+ℚ◌, ◌*ℚ◌, ◌≤ℚ◌, ◌<ℚ◌, whole, sum_to, Series, AtMost, AtLeast, Holds, Rises, plus, times, SameValue, IsLeastBound, times_comm, le_refl, le_trans, plus_le_both, times_one, times_le_cancel, times_le_both, ◌↔◌, times_left_comm}
use Rattle.dl_model.proofs.Declared.{holds_times, holds_plus, rises_to}
use Rattle.dl_model.proofs.Alike.{AreLevel, bound_from}

abbrev pub one : Series
one N = whole 1

-- a least bound is a declared value over 1, and the other way round
pub to_holds : (Q : Series) (L : Fraction) → IsLeastBound Q L → Holds Q one L L
to_holds Q L b = (
  (λ n u h. rw times_one (b.1 u h)),
  (λ n u h. le_trans _ _ _ (b.0 n) (rw times_one at (times_le_both L L (whole 1) u (le_refl L) (h zero)))),
)

pub from_holds : (Q : Series) (L : Fraction) → Holds Q one L L → IsLeastBound Q L
from_holds Q L h = (
  (λ n. subst (λ t. Q n ≤ℚ t) (times_one L) (h.1 n (whole 1) (λ m. le_refl _))),
  (λ u b. subst (λ t. t ≤ℚ u) (times_one L) (h.0 zero u b)),
)

one_rises : Rises one
one_rises n = le_refl _

pub least_times : (Q R : Series) (A B : Fraction) → Rises Q → Rises R → IsLeastBound Q A → IsLeastBound R B
    → IsLeastBound (times Q R) (A *ℚ B)
least_times Q R A B q r a b =
    from_holds (times Q R) (A *ℚ B) (subst (λ o. Holds (times Q R) o (A *ℚ B) (A *ℚ B)) (fun_ext (λ n. times_one _))
    (holds_times Q one R one A B A B q one_rises r one_rises (to_holds Q A a) (to_holds R B b)))

pub least_plus : (Q R : Series) (A B : Fraction) → Rises Q → Rises R → IsLeastBound Q A → IsLeastBound R B
    → IsLeastBound (plus Q R) (A +ℚ B)
least_plus Q R A B q r a b =
    from_holds (plus Q R) (A +ℚ B) (holds_plus Q R one A B A B q r (to_holds Q A a) (to_holds R B b))

pub least_const : (k : Fraction) → IsLeastBound (λ N. k) k
least_const k = ((λ n. le_refl k), (λ u b. b zero))

pub least_scaled : (k : Fraction) (Q : Series) (A : Fraction) → Rises Q → IsLeastBound Q A
    → IsLeastBound (λ N. k *ℚ Q N) (k *ℚ A)
least_scaled k Q A q a = least_times (λ N. k) Q k A (λ n. le_refl k) q (least_const k) a

pub least_from : (R Q : Series) (A : Fraction) → AreLevel R Q → IsLeastBound Q A → IsLeastBound R A
least_from R Q A r a = (bound_from R Q r.0 A a.0, λ u b. a.1 u (bound_from Q R r.1 u b))

pub least_sum : (n : ℕ) (P : ℕ → Series) (A : ℕ → Fraction) → ((j : ℕ) → Rises (P j))
    → ((j : ℕ) → IsLeastBound (P j) (A j)) → IsLeastBound (λ N. sum_to n (λ j. P j N)) (sum_to n A)
unfolding sum_to
least_sum zero P A r a = a zero
least_sum (suc n) P A r a = least_plus _ _ _ _ (rises n) (r (suc n)) (least_sum n P A r a) (a (suc n))
  where
    rises : (n : ℕ) → Rises (λ N. sum_to n (λ j. P j N))
    rises zero = λ N. r zero N
    rises (suc n) = λ N. plus_le_both _ _ _ _ (rises n N) (r (suc n) N)

-- a value over a series with a factor G more, whose least bound is A, is A times as much without that factor
pub over_factor : (Q R G R' : Series) (A l h : Fraction) → Rises R → Rises G → IsLeastBound G A
    → AreLevel R' (times R G) → Holds Q R' l h → Holds Q R (A *ℚ l) (A *ℚ h)
over_factor Q R G R' A l h r g a level v = (
  λ n u b.
      let each : (k : ℕ) → l *ℚ (R n *ℚ G k) ≤ℚ u = λ k.
      let m = max n k in
      let far = level.1 m in
      le_trans _ _ _ (times_le_both l l _ _ (le_refl l) (le_trans _ _ _
      (times_le_both _ _ _ _ (rises_to R r n m (le-max_left n k)) (rises_to G g k m (le-max_right n k))) far.1))
      (v.0 far.0 u b) in
      rw (turned A l (R n)) ((least_scaled (l *ℚ R n) G A g a).1 u (λ k. rw (times_assoc l (R n) (G k)) (each k))),
  λ n u b.
      rw (turned' A h u) (v.1 n (u *ℚ A) (bound_from R' (times R G) level.0 (u *ℚ A)
      (λ k. times_le_both _ _ _ _ (b k) (a.0 k)))),
)
  where
    turned : (a l x : Fraction) → a *ℚ l *ℚ x ≡ l *ℚ x *ℚ a
    turned a l x = simp ring

    turned' : (a h u : Fraction) → a *ℚ h *ℚ u ≡ h *ℚ (u *ℚ a)
    turned' a h u = simp ring

-- ---- the declared value is the quotient of the two least bounds
