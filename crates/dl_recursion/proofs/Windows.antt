-- The windows of runs: bounds, the next one, and which stay when cells are added.
use Rattle.dl_recursion.proofs.Common.{◌≡◌, inl, inr, ℕ, suc, zero, ◌+◌, ◌-◌, ◌*◌, ◌^◌, ◌<◌, ◌≤◌, List, [], ◌∷◌, ◌++◌, length, get_or, arith, ap, ◌∙◌, All, add-zero, mul-le-mul, cases_lt, count_below, cell_before, Run, Window, Windows, IsRun, IsWindow, AreWindow, AreWindows, get_or-append, get_or_push, get_or_default, length-append, get_or-set_other, get_or-set_same, set, leb_tells}
use Rattle.dl_exact.proofs.Counts.{below_bound, below_same}

-- ---- the cell that lies an amount before

pub before_none : (cells : List ℕ) (s m : ℕ) → s < m → cell_before cells s m ≡ 0
before_none cells s m l = grind (arith, leb_tells m s)

pub before_at : (cells : List ℕ) (s m k : ℕ) → k + m ≡ s → cell_before cells s m ≡ get_or cells k 0
before_at cells s m k e = grind (arith, leb_tells m s)

-- it is the same at the same distance
pub before_equal : (cells : List ℕ) (s m s' m' : ℕ) → s + m' ≡ s' + m → cell_before cells s m ≡ cell_before cells s' m'
before_equal cells s m s' m' e = elim (cases_lt s m) [
  | inl l ↦ grind (arith, before_none cells s m l, before_none cells s' m' (omega (arith, e, l)))
  | inr l ↦ grind (
    arith,
    before_at cells s m (s - m) (omega (arith, l)),
    before_at cells s' m' (s - m) (omega (arith, e, l)),
  )
]

pub before_small : (cells : List ℕ) (s m M : ℕ) → ((k : ℕ) → get_or cells k 0 ≤ M) → cell_before cells s m ≤ M
before_small cells s m M small = elim (cases_lt s m) [
  | inl l ↦ omega (arith, before_none cells s m l)
  | inr l ↦ omega (arith, before_at cells s m (s - m) (omega (arith, l)), small (s - m))
]

-- ---- bounds

pub step_le : (k end : ℕ) → k ≤ 2 ^ 32 → end ≤ 2 ^ 62 → k * end ≤ 2 ^ 94
step_le k end p q = omega (arith, mul-le-mul p q)

module _ (cells : List ℕ) (s : ℕ) (run : Run) (window : Window) (small : (k : ℕ) → get_or cells k 0 ≤ 2 ^ 62)
    (few : run.count ≤ 2 ^ 32) (is : IsWindow cells s run window) where
  pub window_cells_le : window.cells ≤ 2 ^ 94
  window_cells_le = omega (
    arith,
    is.cells,
    below_bound run.count (2 ^ 62) (λ k. cell_before cells s (run.amount + k))
        (λ k l. before_small cells s (run.amount + k) (2 ^ 62) small),
  )

  pub window_steps_le : window.steps ≤ 2 ^ 126
  window_steps_le = omega (
    arith,
    is.steps,
    below_bound run.count (2 ^ 94) (λ k. k * cell_before cells s (run.amount + k))
        (λ k l. step_le k (cell_before cells s (run.amount + k)) (omega (arith, l, few))
        (before_small cells s (run.amount + k) (2 ^ 62) small)),
  )

-- ---- one cell on

-- sums over terms, and over the terms one place on
module _ (g h : ℕ → ℕ) (on : (k : ℕ) → g (suc k) ≡ h k) where
  pub sum_slides : (n : ℕ) → count_below n g + g n ≡ g 0 + count_below n h
  unfolding count_below
  sum_slides zero = omega arith
  sum_slides (suc n) = omega (arith, sum_slides n, on n)

  steps_slide : (n : ℕ) → count_below n (λ k. k * g k) + n * g n ≡ count_below n (λ k. k * h k) + count_below n h
  unfolding count_below
  steps_slide zero = omega arith
  steps_slide (suc n) = omega (arith, steps_slide n, ap (λ t. suc n * t) (on n))

module _ (cells : List ℕ) (n : ℕ) (run : Run) (last : Window) (some : 0 < n) (is : IsWindow cells (n - 1) run last) where
  on : (k : ℕ) → cell_before cells n (run.amount + suc k) ≡ cell_before cells (n - 1) (run.amount + k)
  on k = before_equal cells n (run.amount + suc k) (n - 1) (run.amount + k) (omega (arith, some))

  pub next_cells : count_below run.count (λ k. cell_before cells n (run.amount + k)) + cell_before cells n
      (run.amount + run.count) ≡ last.cells + cell_before cells n run.amount
  next_cells = omega (
    arith,
    is.cells,
    sum_slides (λ k. cell_before cells n (run.amount + k)) (λ k. cell_before cells (n - 1) (run.amount + k)) on run.count,
    ap (cell_before cells n) (add-zero run.amount),
  )

  pub next_steps : count_below run.count (λ k. k * cell_before cells n (run.amount + k)) + run.count * cell_before cells n
      (run.amount + run.count) ≡ last.steps + last.cells
  next_steps = omega (
    arith,
    is.cells,
    is.steps,
    steps_slide (λ k. cell_before cells n (run.amount + k)) (λ k. cell_before cells (n - 1) (run.amount + k)) on run.count,
  )

-- what holds at each place before i, and of one more at place i
pub placed : (P : ℕ → Windows → Type 0) (xs : List Windows) (i : ℕ) (x : Windows) → i < length xs
    → ((k : ℕ) (d : Windows) → k < i → P k (get_or xs k d)) → P i x → (k : ℕ) (d : Windows) → k < i + 1
    → P k (get_or (set xs i x) k d)
placed P xs i x b before here k d l = elim (cases_lt k i) [
  | inl less ↦ rw (get_or-set_other xs i k x d (λ e. omega (arith, less, e))) (before k d less)
  | inr more ↦
      let e : k ≡ i = omega (arith, l, more) in
      rw (e, get_or-set_same xs i x d b) here
]

-- ---- more cells

pub before_grown : (cells more : List ℕ) (s m : ℕ) → s ≤ length cells → 0 < m
    → cell_before (cells ++ more) s m ≡ cell_before cells s m
before_grown cells more s m w p = elim (cases_lt s m) [
  | inl l ↦ grind (arith, before_none (cells ++ more) s m l, before_none cells s m l)
  | inr l ↦ grind (
    arith,
    before_at (cells ++ more) s m (s - m) (omega (arith, l)),
    before_at cells s m (s - m) (omega (arith, l)),
    get_or-append cells more 0 (s - m) (omega (arith, w, p, l)),
  )
]

window_grown : (cells more : List ℕ) (s : ℕ) (run : Run) (window : Window) → s ≤ length cells → 0 < run.amount
    → IsWindow cells s run window → IsWindow (cells ++ more) s run window
window_grown cells more s run window w p is = record {
  cells = is.cells ∙ below_same run.count _ _ (λ k l. same k);
  steps = is.steps ∙ below_same run.count _ _ (λ k l. ap (λ t. k * t) (same k));
}
  where
    same : (k : ℕ) → cell_before cells s (run.amount + k) ≡ cell_before (cells ++ more) s (run.amount + k)
    same k = grind (arith, before_grown cells more s (run.amount + k) w (omega (arith, p)))

pub windows_grown : (runs : List Run) (low high : List ℕ) (x y : ℕ) (windows : List Windows) → length high ≡ length low
    → All IsRun runs → length windows ≤ length runs → AreWindows runs low high (length low) windows
    → AreWindows runs (low ++ x ∷ []) (high ++ y ∷ []) (length low) windows
windows_grown runs low high x y windows alike sound fit are k run d l =
    let is = are k run d l in
    let p : 0 < (get_or runs k run).amount = (sound k run (omega (arith, l, fit))).amount in
    record {
      low_window = window_grown low (x ∷ []) (length low) (get_or runs k run) (get_or windows k d).low (omega arith) p
          is.low_window;
      high_window = window_grown high (y ∷ []) (length low) (get_or runs k run) (get_or windows k d).high (omega (arith, alike)) p
          is.high_window;
    }

-- one run more
pub windows_pushed : (runs : List Run) (low high : List ℕ) (s n : ℕ) (windows : List Windows) (w : Windows) (run : Run)
    → length windows ≡ n → n < length runs → AreWindows runs low high s windows
    → AreWindow low high s (get_or runs n run) w → AreWindows runs low high s (windows ++ w ∷ [])
windows_pushed runs low high s n windows w run e b are is k r d l = elim (cases_lt k n) [
  | inl less ↦ rw (get_or-append windows (w ∷ []) d k (omega (arith, e, less))) (are k r d (omega (arith, e, less)))
  | inr more ↦
      let here : k ≡ n = omega (arith, e, more, rw length-append at l) in
      rw (here, get_or_push windows w d n e, get_or_default runs n r run b) is
]

pub no_windows : (runs : List Run) (low high : List ℕ) (s : ℕ) → AreWindows runs low high s []
no_windows runs low high s k run d l = absurd (omega (arith, l))
