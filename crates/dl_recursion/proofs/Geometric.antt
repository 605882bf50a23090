-- Each shape's cells are those of the shape before, raised once.
use Rattle.dl_recursion.proofs.Common.{◌≡◌, ℕ, suc, zero, ◌+◌, ◌*◌, ◌<◌, ◌≤◌, List, arith, refl, sym, ap, ap₂, ◌∙◌, mul-pos, zero-lt-suc, Fraction, ◌over◌, ◌+ℚ◌, ◌*ℚ◌, whole, sum_pairs, ring, times_left_comm, times_one, one_times, times_comm, times_assoc, times_plus, zero_times, whole_pos, whole_plus, whole_times, over_times_whole, sum_pairs_same, sum_pairs_times, convolve, Part, part_at, FollowsInWhole}
use Rattle.dl_exact.proofs.Laws.{plus_comm, plus_zero, zero_plus, times_zero, times_cancel, whole_suc}
use Rattle.dl_exact.proofs.Sums.{sum_pairs_first, sum_pairs_plus}
use Rattle.dl_model.proofs.Powers.{convolve_first, convolve_times}
use Rattle.dl_recursion.specs.Geometric.{IsRaisedBy}
unfoldable use Rattle.dl_recursion.specs.Geometric.{only_first}

-- ---- there is a series that follows

module _ (parts : List Part) (a b q : ℕ) (q_pos : 0 < q) where
  abbrev factor : ℕ → ℕ → Fraction
  factor i k = whole ((a * k + b * suc i) * part_at parts (suc i))

  -- cell s, where s is at most m
  from : ℕ → ℕ → Fraction
  from m zero = whole 1
  from zero (suc s) = whole 0
  from (suc m) (suc s) = sum_pairs s (λ i k. factor i k *ℚ from m k) *ℚ 1 over (q * suc s)

  enough : (m n s : ℕ) → s ≤ m → s ≤ n → from m s ≡ from n s
  unfolding from
  enough m n zero l h = refl
  enough zero n (suc s) l h = absurd (omega arith)
  enough (suc m) zero (suc s) l h = absurd (omega arith)
  enough (suc m) (suc n) (suc s) l h =
      ap (λ t. t *ℚ 1 over (q * suc s)) (sum_pairs_same s _ _ (λ i k e.
      ap (λ t. factor i k *ℚ t) (enough m n k (omega arith) (omega arith))))

  pub follows_some : (r : ℕ → Fraction) × FollowsInWhole parts a b q r
  unfolding from
  follows_some = (
    λ s. from s s,
    record {
      start = refl;
      next = λ n.
          times_comm _ _ ∙ times_assoc _ _ _
          ∙ ap (λ t. sum_pairs n (λ i k. factor i k *ℚ from n k) *ℚ t)
          (over_times_whole 1 (q * suc n) (mul-pos q_pos (zero-lt-suc n)))
          ∙ times_one _
          ∙ sum_pairs_same n _ _ (λ i k e. ap (λ t. factor i k *ℚ t) (enough n k k (omega arith) (omega arith)));
    },
  )

-- ---- s * f s, which goes over a convolution as a derivative does

abbrev tilt : (ℕ → Fraction) → ℕ → Fraction
tilt f s = whole s *ℚ f s

tilt_convolve : (f g : ℕ → Fraction) (s : ℕ) → tilt (convolve f g) s ≡ convolve (tilt f) g s +ℚ convolve f (tilt g) s
tilt_convolve f g s = sym (sum_pairs_times s (whole s) (λ i j. f i *ℚ g j))
    ∙ sum_pairs_same s _ _ (λ i j e. ap (λ t. whole t *ℚ (f i *ℚ g j)) (sym e) ∙ ap (λ t. t *ℚ (f i *ℚ g j))
    (whole_plus i j) ∙ simp ring) ∙ sum_pairs_plus s (λ i j. tilt f i *ℚ g j) (λ i j. f i *ℚ tilt g j)

-- ---- convolutions with a series that is 0 at 0

module _ (g : ℕ → Fraction) (none : g zero ≡ whole 0) where
  without_first : (f : ℕ → Fraction) (n : ℕ) → convolve g f (suc n) ≡ sum_pairs n (λ i k. g (suc i) *ℚ f k)
  without_first f n = sum_pairs_first n (λ i k. g i *ℚ f k) ∙ simp (none, zero_times, zero_plus)

  -- cell n depends on the cells before it alone
  convolve_below : (f h : ℕ → Fraction) (n : ℕ) → ((k : ℕ) → k < n → f k ≡ h k) → convolve g f n ≡ convolve g h n
  convolve_below f h n same = sum_pairs_same n _ _ each
    where
      each : (i k : ℕ) → i + k ≡ n → g i *ℚ f k ≡ g i *ℚ h k
      each zero k e = simp (none, zero_times)
      each (suc i) k e = ap (λ t. g (suc i) *ℚ t) (same k (omega arith))

-- ---- the recursion by convolutions

module _ (parts : List Part) where
  -- the weight of each amount from 1 on
  weight_of : ℕ → Fraction
  weight_of zero = whole 0
  weight_of (suc i) = whole (part_at parts (suc i))

  none_at_zero : weight_of zero ≡ whole 0
  unfolding weight_of
  none_at_zero = refl

  tilted : (b q : ℕ) (r : ℕ → Fraction) → FollowsInWhole parts 1 b q r → (n : ℕ)
      → whole q *ℚ tilt r n ≡ convolve weight_of (tilt r) n +ℚ whole b *ℚ convolve (tilt weight_of) r n
  unfolding sum_pairs weight_of
  tilted b q r F zero = simp (zero_times, times_zero, plus_zero)
  tilted b q r F (suc n) =
      sym (times_assoc _ _ _) ∙ ap (λ t. t *ℚ r (suc n)) (sym (whole_times q (suc n)))
      ∙ F.next n
      ∙ sum_pairs_same n _ _ (λ i k e. split i k (part_at parts (suc i)) (r k))
      ∙ sum_pairs_plus n (λ i k. weight_of (suc i) *ℚ tilt r k) (λ i k. whole b *ℚ (tilt weight_of (suc i) *ℚ r k))
      ∙ ap₂ (λ s t. s +ℚ t) (sym (without_first weight_of none_at_zero (tilt r) n))
      (sum_pairs_times n (whole b) (λ i k. tilt weight_of (suc i) *ℚ r k)
      ∙ ap (λ t. whole b *ℚ t) (sym (without_first (tilt weight_of) (zero_times _) r n)))
    where
      split : (i k p : ℕ) (x : Fraction) → whole ((1 * k + b * suc i) * p) *ℚ x
          ≡ whole p *ℚ (whole k *ℚ x) +ℚ whole b *ℚ (whole (suc i) *ℚ whole p *ℚ x)
      split i k p x = rw (
        whole_times (1 * k + b * suc i) p,
        whole_plus (1 * k) (b * suc i),
        whole_times 1 k,
        whole_times b (suc i),
        one_times (whole k),
      ) (simp ring)

  -- r at n is u with the convolution of the weights and r
  abbrev IsRaisedAt : ℕ → (ℕ → Fraction) → (ℕ → Fraction) → ℕ → Type 0
  IsRaisedAt q u r n = whole q *ℚ r n ≡ whole q *ℚ u n +ℚ convolve weight_of r n

  raised : (q : ℕ) (u r : ℕ → Fraction) → r zero ≡ u zero → ((n : ℕ) → IsRaisedAt q u r (suc n)) → IsRaisedBy parts q u r
  unfolding weight_of
  raised q u r start next = record {
    start = start;
    next = λ n. next n ∙ ap (λ t. whole q *ℚ u (suc n) +ℚ t) (without_first weight_of none_at_zero r n);
  }

-- ---- the first shape

pub raised_first : (parts : List Part) (q : ℕ) (r : ℕ → Fraction) → 0 < q → FollowsInWhole parts 1 1 q r
    → IsRaisedBy parts q only_first r
unfolding only_first
raised_first parts q r q_pos F =
    let weights = weight_of parts in
    raised parts q only_first r F.start (λ n. times_cancel _ _ (whole (suc n)) (whole_pos (suc n) (zero-lt-suc n))
    (times_comm _ _ ∙ times_left_comm _ _ _ ∙ tilted parts 1 q r F (suc n)
    ∙ ap (λ t. convolve weights (tilt r) (suc n) +ℚ t) (one_times _) ∙ plus_comm _ _
    ∙ sym (tilt_convolve weights r (suc n)) ∙ times_comm _ _
    ∙ ap (λ t. t *ℚ whole (suc n)) (sym (ap (λ t. t +ℚ convolve weights r (suc n)) (times_zero _) ∙ zero_plus _))))

-- ---- from one shape to the next

module _ (parts : List Part) (b q : ℕ) (u r : ℕ → Fraction) (q_pos : 0 < q) (U : FollowsInWhole parts 1 b q u)
    (R : FollowsInWhole parts 1 (suc b) q r) where
  abbrev weights : ℕ → Fraction
  weights = weight_of parts

  abbrev IsRaised : ℕ → Type 0
  IsRaised = IsRaisedAt parts q u r

  abbrev IsTilted : ℕ → Type 0
  IsTilted n = whole q *ℚ tilt u n ≡ whole b *ℚ convolve (tilt weights) r n

  -- both sides times q
  tilted_next : (n : ℕ) → ((k : ℕ) → k < n → IsRaised k) → ((k : ℕ) → k < n → IsTilted k) → IsTilted n
  tilted_next n raised_below tilted_below =
      let c = whole b in
      let scaled : ℕ → Fraction = λ k. whole q *ℚ u k in
      let before : whole q *ℚ convolve weights (tilt u) n ≡ c *ℚ convolve (tilt weights) (convolve weights r) n =
      sym (convolve_times (whole q) weights (tilt u) n)
      ∙ convolve_below weights (none_at_zero parts) (λ k. whole q *ℚ tilt u k)
      (λ k. c *ℚ convolve (tilt weights) r k) n tilted_below
      ∙ convolve_times c weights (convolve (tilt weights) r) n
      ∙ ap (λ t. c *ℚ t) (convolve_first (tilt weights) weights r n) in
      let here : whole q *ℚ (c *ℚ convolve (tilt weights) u n) ≡ c *ℚ convolve (tilt weights) scaled n =
      times_left_comm _ _ _ ∙ ap (λ t. c *ℚ t) (sym (convolve_times (whole q) (tilt weights) u n)) in
      let joined : convolve (tilt weights) scaled n +ℚ convolve (tilt weights) (convolve weights r) n
      ≡ whole q *ℚ convolve (tilt weights) r n =
      sym (sum_pairs_plus n (λ i k. tilt weights i *ℚ scaled k) (λ i k. tilt weights i *ℚ convolve weights r k))
      ∙ sum_pairs_same n _ (λ i k. tilt weights i *ℚ (scaled k +ℚ convolve weights r k))
      (λ i k e. sym (times_plus _ _ _))
      ∙ sym (convolve_below (tilt weights) (zero_times _) (λ k. whole q *ℚ r k)
      (λ k. scaled k +ℚ convolve weights r k) n raised_below)
      ∙ convolve_times (whole q) (tilt weights) r n in
      times_cancel _ _ (whole q) (whole_pos q q_pos) (times_comm _ _
      ∙ ap (λ t. whole q *ℚ t) (tilted parts b q u U n) ∙ times_plus _ _ _
      ∙ ap₂ (λ s t. s +ℚ t) before here ∙ plus_comm _ _ ∙ sym (times_plus _ _ _)
      ∙ ap (λ t. c *ℚ t) joined ∙ times_left_comm _ _ _ ∙ times_comm _ _)

  -- both sides times n
  raised_here : (n : ℕ) → IsTilted n → IsRaised n
  unfolding sum_pairs weight_of
  raised_here zero t = ap (λ t. whole q *ℚ t) (R.start ∙ sym U.start)
      ∙ sym (ap (λ t. whole q *ℚ u zero +ℚ t) (zero_times _) ∙ plus_zero _)
  raised_here (suc n) t =
      let c = whole b in
      let s = suc n in
      times_cancel _ _ (whole s) (whole_pos s (zero-lt-suc n))
      (times_comm _ _ ∙ times_left_comm _ _ _ ∙ tilted parts (suc b) q r R s
      ∙ ap (λ t. convolve weights (tilt r) s +ℚ t *ℚ convolve (tilt weights) r s) (whole_suc b)
      ∙ turn c (convolve (tilt weights) r s) (convolve weights (tilt r) s)
      ∙ ap₂ (λ x y. x +ℚ y) (sym t) (sym (tilt_convolve weights r s))
      ∙ split (whole q) (whole s) (u s) (convolve weights r s))
    where
      turn : (c x y : Fraction) → y +ℚ (c +ℚ whole 1) *ℚ x ≡ c *ℚ x +ℚ (x +ℚ y)
      turn c x y = simp ring

      split : (q s u y : Fraction) → q *ℚ (s *ℚ u) +ℚ s *ℚ y ≡ (q *ℚ u +ℚ y) *ℚ s
      split q s u y = simp ring

  both : (m n : ℕ) → n < m → IsRaised n × IsTilted n
  both zero n l = absurd (omega arith)
  both (suc m) n l =
      let t : IsTilted n = tilted_next n (λ k d. (both m k (omega arith)).0) (λ k d. (both m k (omega arith)).1) in
      (raised_here n t, t)

  pub raised_next : IsRaisedBy parts q u r
  raised_next = raised parts q u r (R.start ∙ sym U.start) (λ n. (both (suc (suc n)) (suc n) (omega arith)).0)
