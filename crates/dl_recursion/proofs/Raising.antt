-- Passes: the window sums of a run, and one cell of a pass.
use Rattle.dl_recursion.proofs.Common.{◌≡◌, inl, inr, ℕ, suc, zero, ◌+◌, ◌-◌, ◌*◌, ◌/◌, ◌^◌, ◌<◌, ◌≤◌, List, length, get_or, arith, refl, sym, ap, ap₂, ◌∙◌, add-zero, mul-le-mul_left, mul-le-mul_right, div-mul-le_self, pow-add, zero-lt-suc, set, cases_lt, count_pairs, Fraction, ◌+ℚ◌, ◌*ℚ◌, ◌≤ℚ◌, whole, sum_pairs, plus_le_both, whole_plus, whole_times, whole_pos, whole_le, le_refl, le_trans, times_le_cancel, times_le_both, times_left_comm, sum_pairs_same, sum_pairs_times, sum_pairs_le, Run, run_parts, part_at, cell_before, EncloseScaled, le_of_mul-le-mul_right, eq_of_mul-eq-mul_left, get_or-set_other, get_or-set_same, lt-div-mul-add, times_le_times, ring, zero-mul, le_of_eq, times_one, get_or-replicate, length-replicate, take, ◌++◌, replicate}
use Rattle.dl_exact.proofs.Counts.{below_bound, below_none, below_pairs, below_same, below_times, pairs_same}
use Rattle.std.proofs.Math.Nat.{mul_assoc, mul_comm}
use Rattle.dl_start.proofs.Rounding.{ceil_reaches}
use Rattle.dl_recursion.proofs.Pairs.{contribution_pairs}
use Rattle.dl_recursion.proofs.Runs.{run_is, row_positive}
use Rattle.dl_start.proofs.Products.{two_pos}
use Rattle.dl_recursion.proofs.Steps.{scaled_sum}
use Rattle.dl_recursion.proofs.Windows.{before_at, before_none, before_equal, before_small, sum_slides}
use Rattle.dl_recursion.specs.Geometric.{IsRaisedBy}
unfoldable use Rattle.dl_recursion.specs.Geometric.{only_first}
use Rattle.std.proofs.lemmas.Grind.{common_steps}
use Rattle.std.proofs.Common.{drop}
use Rattle.std.proofs.lemmas.Nat.{shl-shr}
use Rattle.dl_exact.proofs.Laws.{times_zero}
use Rattle.dl_recursion.specs.Passes.{window_sum, IsFactor}

-- ---- window sums

-- that of the next cell
pub window_slides : (cells : List ℕ) (s : ℕ) (run : Run) → 0 < s
    → window_sum cells s run + cell_before cells s (run.amount + run.count) ≡ window_sum cells (s - 1) run + cell_before cells s run.amount
window_slides cells s run some = omega (
  arith,
  sum_slides (λ k. cell_before cells s (run.amount + k)) (λ k. cell_before cells (s - 1) (run.amount + k)) on run.count,
  ap (cell_before cells s) (add-zero run.amount),
)
  where
    on : (k : ℕ) → cell_before cells s (run.amount + suc k) ≡ cell_before cells (s - 1) (run.amount + k)
    on k = before_equal cells s (run.amount + suc k) (s - 1) (run.amount + k) (omega (arith, some))

pub window_le : (cells : List ℕ) (s most : ℕ) (run : Run) → ((k : ℕ) → get_or cells k 0 ≤ most)
    → window_sum cells s run ≤ run.count * most
window_le cells s most run small =
    below_bound run.count most (λ k. cell_before cells s (run.amount + k))
    (λ k l. before_small cells s (run.amount + k) most small)

-- no cell before cell 0
pub window_begins : (cells : List ℕ) (run : Run) → 0 < run.amount → window_sum cells 0 run ≡ 0
window_begins cells run p =
    below_none run.count (λ k. cell_before cells 0 (run.amount + k))
    (λ k l. before_none cells 0 (run.amount + k) (omega (arith, p)))

before_set : (cells : List ℕ) (s m x : ℕ) → 0 < m → cell_before (set cells s x) s m ≡ cell_before cells s m
before_set cells s m x p = elim (cases_lt s m) [
  | inl l ↦ grind (arith, before_none (set cells s x) s m l, before_none cells s m l)
  | inr l ↦ grind (
    arith,
    before_at (set cells s x) s m (s - m) (omega (arith, l)),
    before_at cells s m (s - m) (omega (arith, l)),
    get_or-set_other cells s (s - m) x 0 (λ e. omega (arith, e, p, l)),
  )
]

-- a change of a cell leaves its own window
pub window_set : (cells : List ℕ) (s x : ℕ) (run : Run) → 0 < run.amount
    → window_sum (set cells s x) (s + 1 - 1) run ≡ window_sum cells s run
window_set cells s x run p =
    let e : s + 1 - 1 ≡ s = omega arith in
    ap (λ t. window_sum (set cells s x) t run) e
    ∙ below_same run.count _ _ (λ k l. before_set cells s (run.amount + k) x (omega (arith, p)))

-- ---- what a run gives to a cell

-- a factor that the two numbers of a pair make by their sum
pairs_times : (n : ℕ) (f : ℕ → ℕ → ℕ) → count_pairs n (λ i k. (1 * k + 1 * suc i) * f i k) ≡ suc n * count_pairs n f
pairs_times n f =
    sym (below_pairs n (λ i k. (1 * k + 1 * suc i) * f i k))
    ∙ below_same (suc n) _ (λ i. f i (n - i) * suc n) (λ i l. each i (n - i) (f i (n - i)) (omega (arith, l)))
    ∙ below_times (suc n) (suc n) (λ i. f i (n - i)) ∙ ap (λ t. t * suc n) (below_pairs n f) ∙ mul_comm _ (suc n)
  where
    each : (i k x : ℕ) → i + k ≡ n → (1 * k + 1 * suc i) * x ≡ x * suc n
    each i k x e = omega (arith, ap (λ t. t * x) e)

pub window_pairs : (cells : List ℕ) (n : ℕ) (run : Run) → 0 < run.amount
    → count_pairs n (λ i k. part_at (run_parts run) (suc i) * get_or cells k 0) ≡ run.weight * window_sum cells (suc n) run
window_pairs cells n run p =
    let parts = run_parts run in
    let f : ℕ → ℕ → ℕ = λ i k. part_at parts (suc i) * get_or cells k 0 in
    let pairs = contribution_pairs 1 1 n cells parts (row_positive run.amount run.count run.weight p) in
    let window = run_is 1 1 (suc n) cells run.amount run.count run.weight in
    let factor : count_pairs n (λ i k. (1 * k + 1 * suc i) * part_at parts (suc i) * get_or cells k 0) ≡ suc n * count_pairs n f =
    pairs_same n _ _ (λ i k. mul_assoc (1 * k + 1 * suc i) (part_at parts (suc i)) (get_or cells k 0)) ∙ pairs_times n f in
    eq_of_mul-eq-mul_left (suc n) (zero-lt-suc n) (count_pairs n f) (run.weight * window_sum cells (suc n) run)
    (sym factor ∙ sym pairs ∙ whole_window _ _ window)
  where
    -- the factor of each amount is the number of the cell
    whole_window : (A S : ℕ) → A + 1 * run.weight * S
        ≡ (1 * (suc n - run.amount) + 1 * run.amount) * run.weight * window_sum cells (suc n) run + 1 * run.weight * S
        → A ≡ suc n * (run.weight * window_sum cells (suc n) run)
    whole_window A S e = elim (cases_lt (suc n) run.amount) [
      | inl l ↦
          let none : window_sum cells (suc n) run ≡ 0 = below_none run.count (λ k. cell_before cells (suc n) (run.amount + k))
          (λ k q. before_none cells (suc n) (run.amount + k) (omega (arith, l))) in
          rw none (omega (arith, rw none at e))
      | inr l ↦
          let s_is : suc n - run.amount + run.amount ≡ suc n = omega (arith, l) in
          omega (arith, e, ap (λ t. t * run.weight * window_sum cells (suc n) run) s_is)
    ]

-- ---- one cell of a pass

module _ (n q P : ℕ) (C : Fraction) (f : ℕ → ℕ) (u r : ℕ → Fraction) (q_pos : 0 < q)
    (next : whole q *ℚ r (suc n) ≡ whole q *ℚ u (suc n) +ℚ sum_pairs n (λ i k. whole (f i) *ℚ r k)) where
  turned : C *ℚ u (suc n) *ℚ whole q +ℚ sum_pairs n (λ i k. whole (f i) *ℚ (C *ℚ r k)) ≡ C *ℚ r (suc n) *ℚ whole q
  turned =
      ap (λ t. C *ℚ u (suc n) *ℚ whole q +ℚ t)
      (sum_pairs_same n _ _ (λ i k e. times_left_comm _ _ _) ∙ sum_pairs_times n C (λ i k. whole (f i) *ℚ r k))
      ∙ together C (u (suc n)) (whole q) _ ∙ ap (λ t. C *ℚ t) (sym next) ∙ back C (whole q) (r (suc n))
    where
      together : (C u q S : Fraction) → C *ℚ u *ℚ q +ℚ C *ℚ S ≡ C *ℚ (q *ℚ u +ℚ S)
      together C u q S = simp ring

      back : (C q r : Fraction) → C *ℚ (q *ℚ r) ≡ C *ℚ r *ℚ q
      back C q r = simp ring

  split : (g : ℕ → ℕ) (y : ℕ) → whole ((count_pairs n (λ i k. f i * g k) + y * q) * P)
      ≡ whole (y * P) *ℚ whole q +ℚ sum_pairs n (λ i k. whole (f i) *ℚ whole (g k * P))
  split g y =
      ap whole (apart (count_pairs n (λ i k. f i * g k))) ∙ whole_plus (y * P * q) _
      ∙ ap₂ (λ s t. s +ℚ t) (whole_times (y * P) q) (whole_times _ P ∙ scaled_sum n P (λ i k. f i) g)
    where
      apart : (A : ℕ) → (A + y * q) * P ≡ y * P * q + A * P
      apart A = omega arith

  pub raised_low : (g : ℕ → ℕ) (x y : ℕ) → x * q ≤ count_pairs n (λ i k. f i * g k) + y * q
      → ((k : ℕ) → k ≤ n → whole (g k * P) ≤ℚ C *ℚ r k) → whole (y * P) ≤ℚ C *ℚ u (suc n)
      → whole (x * P) ≤ℚ C *ℚ r (suc n)
  raised_low g x y p h d =
      times_le_cancel _ _ (whole q) (whole_pos q q_pos)
      (rw (← whole_times (x * P) q, ← turned)
      (le_trans _ (whole ((count_pairs n (λ i k. f i * g k) + y * q) * P)) _
      (whole_le _ _ (omega (arith, mul-le-mul_right P p)))
      (rw (split g y) (plus_le_both _ _ _ _ (times_le_times _ _ (whole q) d)
      (sum_pairs_le n _ _ (λ i k e. times_le_both _ _ _ _ (le_refl _) (h k (omega arith))))))))

  pub raised_high : (g : ℕ → ℕ) (x y : ℕ) → count_pairs n (λ i k. f i * g k) + y * q ≤ x * q
      → ((k : ℕ) → k ≤ n → C *ℚ r k ≤ℚ whole (g k * P)) → C *ℚ u (suc n) ≤ℚ whole (y * P)
      → C *ℚ r (suc n) ≤ℚ whole (x * P)
  raised_high g x y p h d =
      times_le_cancel _ _ (whole q) (whole_pos q q_pos)
      (rw (← whole_times (x * P) q, ← turned)
      (le_trans _ (whole ((count_pairs n (λ i k. f i * g k) + y * q) * P)) _
      (rw (split g y) (plus_le_both _ _ _ _ (times_le_times _ _ (whole q) d)
      (sum_pairs_le n _ _ (λ i k e. times_le_both _ _ _ _ (le_refl _) (h k (omega arith))))))
      (whole_le _ _ (omega (arith, mul-le-mul_right P p)))))

-- ---- the factor

pub share_low : (sum w q factor : ℕ) → factor * q ≤ w * 2 ^ 64 → sum * factor / 2 ^ 64 * q ≤ w * sum
share_low sum w q factor h =
    le_of_mul-le-mul_right {k = 2 ^ 64}
    (omega (arith, mul-le-mul_right q (div-mul-le_self (sum * factor) (2 ^ 64)), mul-le-mul_left sum h)) (two_pos 64)

pub share_high : (sum w q factor : ℕ) → w * 2 ^ 64 ≤ (factor + 1) * q → w * sum ≤ (sum * (factor + 1) / 2 ^ 64 + 1) * q
share_high sum w q factor h =
    let above : sum * (factor + 1) ≤ (sum * (factor + 1) / 2 ^ 64 + 1) * 2 ^ 64 =
    omega (arith, lt-div-mul-add {a = sum * (factor + 1)} {b = 2 ^ 64} (two_pos 64)) in
    le_of_mul-le-mul_right {k = 2 ^ 64} (omega (arith, mul-le-mul_right q above, mul-le-mul_left sum h)) (two_pos 64)

-- it is at most the sum
pub share_le : (sum factor : ℕ) → factor < 2 ^ 64 → sum * factor / 2 ^ 64 ≤ sum
share_le sum factor h =
    le_of_mul-le-mul_right {k = 2 ^ 64}
    (omega (arith, div-mul-le_self (sum * factor) (2 ^ 64), mul-le-mul_left sum h)) (two_pos 64)

-- ---- the shift

pub lowered : (x e d : ℕ) → x / 2 ^ d * 2 ^ (e + d) ≤ x * 2 ^ e
lowered x e d = rw (pow-add 2 e d) (omega (arith, mul-le-mul_right (2 ^ e) (div-mul-le_self x (2 ^ d))))

pub lifted : (x e d : ℕ) → x * 2 ^ e ≤ (x + (2 ^ d - 1)) / 2 ^ d * 2 ^ (e + d)
lifted x e d = rw (pow-add 2 e d) (omega (arith, mul-le-mul_right (2 ^ e) (ceil_reaches x (2 ^ d) (two_pos d))))

-- ---- lists with one cell changed

pub placed_at : (P : ℕ → ℕ → Type 0) (xs : List ℕ) (s x : ℕ) → s < length xs
    → ((k : ℕ) → k < s → P k (get_or xs k 0)) → P s x → (k : ℕ) → k < s + 1 → P k (get_or (set xs s x) k 0)
placed_at P xs s x b before here k l = elim (cases_lt k s) [
  | inl less ↦ rw (get_or-set_other xs s k x 0 (λ e. omega (arith, less, e))) (before k less)
  | inr more ↦
      let e : k ≡ s = omega (arith, l, more) in
      rw (e, get_or-set_same xs s x 0 b) here
]

pub small_set : (xs : List ℕ) (s x most : ℕ) → s < length xs → ((k : ℕ) → get_or xs k 0 ≤ most) → x ≤ most
    → (k : ℕ) → get_or (set xs s x) k 0 ≤ most
small_set xs s x most b h p k = elim (cases_lt k s) [
  | inl less ↦ rw (get_or-set_other xs s k x 0 (λ e. omega (arith, less, e))) (h k)
  | inr more ↦ elim (cases_lt s k) [
    | inl past ↦ rw (get_or-set_other xs s k x 0 (λ e. omega (arith, past, e))) (h k)
    | inr here ↦
        let e : k ≡ s = omega (arith, more, here) in
        rw (e, get_or-set_same xs s x 0 b) p
  ]
]

-- those past it stay
pub left_set : (xs ys : List ℕ) (s x : ℕ) → ((k : ℕ) → s ≤ k → get_or xs k 0 ≡ get_or ys k 0)
    → (k : ℕ) → s + 1 ≤ k → get_or (set xs s x) k 0 ≡ get_or ys k 0
left_set xs ys s x h k l = get_or-set_other xs s k x 0 (λ e. omega (arith, l, e)) ∙ h k (omega (arith, l))

-- ---- a pass

module _ (run : Run) (amount : 0 < run.amount) (factor q e d : ℕ) (u r : ℕ → Fraction) (q_pos : 0 < q)
    (is : IsFactor run.weight q factor) (raised : IsRaisedBy (run_parts run) q u r) where
  low_cell : (cells : List ℕ) (s y : ℕ) → 0 < s
      → ((k : ℕ) → k < s → whole (get_or cells k 0 * 2 ^ (e + d)) ≤ℚ whole (2 ^ 61) *ℚ r k)
      → whole (y * 2 ^ e) ≤ℚ whole (2 ^ 61) *ℚ u s
      → whole ((window_sum cells s run * factor / 2 ^ 64 + y / 2 ^ d) * 2 ^ (e + d)) ≤ℚ whole (2 ^ 61) *ℚ r s
  low_cell cells zero y some before here = absurd (omega (arith, some))
  low_cell cells (suc n) y some before here =
      raised_low n q (2 ^ (e + d)) (whole (2 ^ 61)) (λ i. part_at (run_parts run) (suc i)) u r q_pos (raised.next n)
      (λ k. get_or cells k 0) _ (y / 2 ^ d)
      (rw (window_pairs cells n run amount)
      (omega (arith, share_low (window_sum cells (suc n) run) run.weight q factor is.low)))
      (λ k l. before k (omega (arith, l))) (le_trans _ _ _ (whole_le _ _ (lowered y e d)) here)

  high_cell : (cells : List ℕ) (s y : ℕ) → 0 < s
      → ((k : ℕ) → k < s → whole (2 ^ 61) *ℚ r k ≤ℚ whole (get_or cells k 0 * 2 ^ (e + d)))
      → whole (2 ^ 61) *ℚ u s ≤ℚ whole (y * 2 ^ e)
      → whole (2 ^ 61) *ℚ r s ≤ℚ whole
      ((window_sum cells s run * (factor + 1) / 2 ^ 64 + 1 + (y + (2 ^ d - 1)) / 2 ^ d) * 2 ^ (e + d))
  high_cell cells zero y some before here = absurd (omega (arith, some))
  high_cell cells (suc n) y some before here =
      raised_high n q (2 ^ (e + d)) (whole (2 ^ 61)) (λ i. part_at (run_parts run) (suc i)) u r q_pos (raised.next n)
      (λ k. get_or cells k 0) _ ((y + (2 ^ d - 1)) / 2 ^ d)
      (rw (window_pairs cells n run amount)
      (omega (arith, share_high (window_sum cells (suc n) run) run.weight q factor is.high)))
      (λ k l. before k (omega (arith, l))) (le_trans _ _ _ here (whole_le _ _ (lifted y e d)))

  module _ (n : ℕ) (old_low old_high : List ℕ) (was : EncloseScaled u e n old_low old_high) where
    pub pass_begins : 0 < n → n ≤ length old_low → length old_high ≡ length old_low
        → EncloseScaled r (e + d) 1 (set old_low 0 (get_or old_low 0 0 / 2 ^ d))
        (set old_high 0 ((get_or old_high 0 0 + (2 ^ d - 1)) / 2 ^ d))
    pass_begins some within alike = record {
      low_end = placed_at (λ k t. whole (t * 2 ^ (e + d)) ≤ℚ whole (2 ^ 61) *ℚ r k) old_low 0 _ (omega (arith, some, within))
          (λ k l. absurd (omega (arith, l)))
          (rw raised.start (le_trans _ _ _ (whole_le _ _ (lowered (get_or old_low 0 0) e d)) (was.low_end 0 some)));
      high_end = placed_at (λ k t. whole (2 ^ 61) *ℚ r k ≤ℚ whole (t * 2 ^ (e + d))) old_high 0 _
          (omega (arith, some, within, alike)) (λ k l. absurd (omega (arith, l)))
          (rw raised.start (le_trans _ _ _ (was.high_end 0 some) (whole_le _ _ (lifted (get_or old_high 0 0) e d))));
    }

    -- low and high are those done below s, and those of before from there on
    pub pass_goes_on : (low high : List ℕ) (s : ℕ) → 0 < s → s < n → s < length low → length high ≡ length low
        → get_or low s 0 ≡ get_or old_low s 0 → get_or high s 0 ≡ get_or old_high s 0
        → EncloseScaled r (e + d) s low high
        → EncloseScaled r (e + d) (s + 1)
        (set low s (window_sum low s run * factor / 2 ^ 64 + get_or low s 0 / 2 ^ d))
        (set high s (window_sum high s run * (factor + 1) / 2 ^ 64 + 1 + (get_or high s 0 + (2 ^ d - 1)) / 2 ^ d))
    pass_goes_on low high s some below within alike same_low same_high done = record {
      low_end = placed_at (λ k t. whole (t * 2 ^ (e + d)) ≤ℚ whole (2 ^ 61) *ℚ r k) low s _ within done.low_end
          (low_cell low s (get_or low s 0) some done.low_end (rw same_low (was.low_end s below)));
      high_end = placed_at (λ k t. whole (2 ^ 61) *ℚ r k ≤ℚ whole (t * 2 ^ (e + d))) high s _ (omega (arith, within, alike))
          done.high_end (high_cell high s (get_or high s 0) some done.high_end (rw same_high (was.high_end s below)));
    }

-- a list written over another of the same length
pub written : (xs ys : List ℕ) (n : ℕ) → length xs ≡ length ys → length ys ≡ n → take n (xs ++ drop (length xs) ys) ≡ xs
written xs ys n e m = grind (arith, common_steps)

over_power : (d s : ℕ) → 2 ^ (d + s) / 2 ^ s * 2 ^ s ≡ 2 ^ (d + s)
over_power d s = rw (pow-add 2 d s, shl-shr (2 ^ d) s) refl

-- 2^61, shifted down, and zeros after it are 2^61 times 1 and then 0
pub only_first_begins : (n s : ℕ) → 0 < n → s ≤ 61
    → EncloseScaled only_first s n (set (replicate n 0) 0 (2 ^ 61 / 2 ^ s)) (set (replicate n 0) 0 (2 ^ 61 / 2 ^ s))
unfolding only_first
only_first_begins n s some few = record {
  low_end = λ k l. le_of_eq _ _ (same k l);
  high_end = λ k l. le_of_eq _ _ (sym (same k l));
}
  where
    first : 2 ^ 61 / 2 ^ s * 2 ^ s ≡ 2 ^ 61
    first =
        let e : 61 - s + s ≡ 61 = omega (arith, few) in
        rw e at (over_power (61 - s) s)

    same : (k : ℕ) → k < n → whole (get_or (set (replicate n 0) 0 (2 ^ 61 / 2 ^ s)) k 0 * 2 ^ s) ≡ whole (2 ^ 61) *ℚ only_first k
    same zero l =
        rw (get_or-set_same (replicate n 0) 0 (2 ^ 61 / 2 ^ s) 0 (rw length-replicate l), first)
        (sym (times_one (whole (2 ^ 61))))
    same (suc k) l =
        rw (
          get_or-set_other (replicate n 0) 0 (suc k) (2 ^ 61 / 2 ^ s) 0 (λ e. omega (arith, e)),
          get_or-replicate {A = ℕ} n (suc k) 0 0 l,
          zero-mul,
        )
        (sym (times_zero (whole (2 ^ 61))))

-- ---- room in a word

-- the sum, one cell more, and the cell before that it is added to
pub room_for : (cells : List ℕ) (s most y : ℕ) (run : Run) → ((k : ℕ) → get_or cells k 0 ≤ most) → y ≤ most
    → window_sum cells s run + y ≤ (run.count + 1) * most
room_for cells s most y run small p = omega (arith, window_le cells s most run small, p)

-- and so the sum before a cell and the cell that comes in
pub room_before : (cells : List ℕ) (s most : ℕ) (run : Run) → ((k : ℕ) → get_or cells k 0 ≤ most)
    → window_sum cells (s - 1) run + cell_before cells s run.amount ≤ (run.count + 1) * most
room_before cells s most run small = room_for cells (s - 1) most _ run small (before_small cells s run.amount most small)
