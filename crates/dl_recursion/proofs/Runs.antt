-- Runs: their amounts one by one, and what they give to the next cell by their windows.
use Rattle.std.proofs.lemmas.Bool.Decides.{nat_tests}
use Rattle.std.proofs.lemmas.Grind.{common_steps}
use Rattle.dl_recursion.proofs.Common.{◌≡◌, inl, inr, ℕ, suc, zero, ◌+◌, ◌-◌, ◌*◌, ◌^◌, ◌<◌, ◌≤◌, List, [], ◌∷◌, ◌++◌, length, take, get_or, arith, ap, refl, max, mul-le-mul, mul-le-mul_left, mul-le-mul_right, zero-lt-suc, sum_by, All, flat_map, sum_by-cons, sum_by-append, sum_by_push, sum_by_more, sum_by_more_le, cases_lt, count_below, Part, Run, in_a_row, run_parts, all_parts, part_sum, IsRun, ArePositiveAmounts, contribution, cell_before, add-zero, add-suc, suc-add, IsWindow, Window, All-append, append-nil, take_more, get_or-append, length-append}
use Rattle.std.proofs.lemmas.Grind.{flat_map-append}
use Rattle.dl_exact.proofs.Counts.{below_bound, below_none, times_nothing}
use Rattle.dl_recursion.proofs.Windows.{before_none, before_small}
use Rattle.dl_recursion.specs.declared.parts.Amounts.{Amounts}
use Rattle.dl_recursion.proofs.Contributions.{contribution_yes, contribution_no, factor_le}

-- ---- the amounts of a run

-- one amount more
pub row_more : (f : Part → ℕ) (m n w : ℕ)
    → sum_by f (in_a_row m (suc n) w) ≡ sum_by f (in_a_row m n w) + f (record { amount = m + n; weight = w })
unfolding in_a_row
row_more f m zero w = rw add-zero (omega arith)
row_more f m (suc n) w =
    grind (arith, nat_tests, common_steps, add-suc m n, suc-add m n, row_more f (suc m) n w, sum_by-cons)

pub row_none : (f : Part → ℕ) (m w : ℕ) → sum_by f (in_a_row m 0 w) ≡ 0
unfolding in_a_row
row_none f m w = refl

pub row_positive : (m n w : ℕ) → 0 < m → All (λ p. 0 < p.amount) (in_a_row m n w)
unfolding in_a_row
row_positive m zero w h k d q = absurd (omega (arith, q))
row_positive m (suc n) w h zero d q = h
row_positive m (suc n) w h (suc k) d q = row_positive (suc m) n w (omega (arith, h)) k d (omega (arith, q))

pub row_within : (top m n w : ℕ) → m + n ≤ suc top → All (λ p. p.amount ≤ top) (in_a_row m n w)
unfolding in_a_row
row_within top m zero w h k d q = absurd (omega (arith, q))
row_within top m (suc n) w h zero d q = omega (arith, h)
row_within top m (suc n) w h (suc k) d q = row_within top (suc m) n w (omega (arith, h)) k d (omega (arith, q))

-- a sum over the amounts of runs
pub runs_sum : (f : Part → ℕ) (runs : List Run)
    → sum_by f (flat_map run_parts runs) ≡ sum_by (λ run. sum_by f (run_parts run)) runs
runs_sum f [] = refl
runs_sum f (run ∷ runs) = rw (sum_by-append, runs_sum f runs, sum_by-cons)

runs_positive : (runs : List Run) → All IsRun runs → All (λ p. 0 < p.amount) (flat_map run_parts runs)
runs_positive [] h = λ k d q. absurd (omega (arith, q))
runs_positive (run ∷ runs) h =
    All-append (λ (p : Part). 0 < p.amount) (run_parts run) (flat_map run_parts runs)
    (row_positive run.amount run.count run.weight (h zero run (zero-lt-suc _)).amount)
    (runs_positive runs (λ k d q. h (suc k) d (omega (arith, q))))

pub all_positive : (amounts : Amounts) → ArePositiveAmounts amounts → All (λ p. 0 < p.amount) (all_parts amounts)
all_positive amounts h = grind (arith, nat_tests, common_steps, runs_positive amounts.runs.items h.runs)

runs_more_le : (f : Part → ℕ) (runs : List Run) (i : ℕ) (d : Run) → i < length runs
    → sum_by f (flat_map run_parts (take i runs)) + sum_by f (run_parts (get_or runs i d)) ≤ sum_by f
    (flat_map run_parts runs)
runs_more_le f runs i d h = grind (arith, sum_by_more_le (λ (run : Run). sum_by f (run_parts run)) runs i d h, runs_sum)

-- with one run more
pub runs_more : (f : Part → ℕ) (runs : List Run) (i : ℕ) (d : Run) → i < length runs
    → sum_by f (flat_map run_parts (take (i + 1) runs)) ≡ sum_by f (flat_map run_parts (take i runs)) + sum_by f
    (run_parts (get_or runs i d))
runs_more f runs i d h = omega (
  arith,
  runs_sum f (take (i + 1) runs),
  runs_sum f (take i runs),
  sum_by_more (λ (run : Run). sum_by f (run_parts run)) runs i d h,
)

pub runs_within : (top : ℕ) (runs : List Run) (i : ℕ) (d : Run) → i < length runs
    → All (λ p. p.amount ≤ top) (flat_map run_parts (take i runs)) → (get_or runs i d).amount + (get_or runs i d).count ≤ suc top
    → All (λ p. p.amount ≤ top) (flat_map run_parts (take (i + 1) runs))
runs_within top runs i d h before last =
    let run = get_or runs i d in
    rw (take_more runs i d h, flat_map-append run_parts (take i runs) (run ∷ []), append-nil)
    (All-append (λ (p : Part). p.amount ≤ top) (flat_map run_parts (take i runs)) (run_parts run) before
    (row_within top run.amount run.count run.weight last))

-- what holds of two lists one after the other holds of the first
pub all_left : (P : Part → Type 0) (xs ys : List Part) → All P (xs ++ ys) → All P xs
all_left P xs ys h k d l =
    rw (← get_or-append xs ys d k l) (h k d (simp length-append (omega (arith, l))))

-- the weights of the amounts taken one by one are among all
pub alone_le : (amounts : Amounts) → part_sum amounts.parts.items ≤ part_sum (all_parts amounts)
alone_le amounts =
    omega (arith, sum_by-append (λ (p : Part). p.weight) amounts.parts.items (flat_map run_parts amounts.runs.items))

pub run_le : (runs : List Run) (i : ℕ) (d : Run) → i < length runs
    → part_sum (run_parts (get_or runs i d)) ≤ part_sum (flat_map run_parts runs)
run_le runs i d h = omega (arith, runs_more_le (λ (p : Part). p.weight) runs i d h)

-- ---- bounds

module _ (a b s : ℕ) (cells : List ℕ) (small : (k : ℕ) → get_or cells k 0 ≤ 2 ^ 62) where
  contribution_le : (p : Part) → contribution a b cells s p ≤ max a b * s * p.weight * 2 ^ 62
  contribution_le p = elim (cases_lt s p.amount) [
    | inl l ↦ omega (arith, contribution_no a b cells s p l)
    | inr l ↦ omega (
      arith,
      contribution_yes a b cells s p l,
      mul-le-mul (factor_le a b s p.amount p.weight l) (small (s - p.amount)),
    )
  ]

  contributions_le : (parts : List Part) → sum_by (contribution a b cells s) parts ≤
      max a b * s * part_sum parts * 2 ^ 62
  contributions_le [] = omega arith
  contributions_le (p ∷ ps) =
      rw (sum_by-cons (contribution a b cells s) p ps, sum_by-cons (λ (p : Part). p.weight) p ps)
      (omega (arith, contribution_le p, contributions_le ps))

  pub contributions_top : (parts : List Part) → max a b * s * part_sum parts < 2 ^ 64
      → sum_by (contribution a b cells s) parts ≤ 2 ^ 126
  contributions_top parts h = omega (arith, contributions_le parts, h)

  pub next_fits : (parts : List Part) (i : ℕ) (d : Part) → i < length parts → max a b * s * part_sum parts < 2 ^ 64
      → (sum x : ℕ) → sum ≡ sum_by (contribution a b cells s) (take i parts)
      → x ≡ contribution a b cells s (get_or parts i d) → sum + x < 2 ^ 128
  next_fits parts i d h room sum x p q =
      omega (arith, p, q, sum_by_more_le (contribution a b cells s) parts i d h, contributions_top parts room)

-- the amounts of one more run of those stay within the whole
pub run_room : (a b s : ℕ) (cells : List ℕ) → ((k : ℕ) → get_or cells k 0 ≤ 2 ^ 62)
    → (runs : List Run) (i : ℕ) (d : Run) → i < length runs → max a b * s * part_sum (flat_map run_parts runs) < 2 ^ 64
    → (sum x : ℕ) → sum ≡ sum_by (contribution a b cells s) (flat_map run_parts (take i runs))
    → x ≡ sum_by (contribution a b cells s) (run_parts (get_or runs i d)) → sum + x ≤ 2 ^ 126
run_room a b s cells small runs i d h room sum x p q =
    omega (
      arith,
      p,
      q,
      runs_more_le (contribution a b cells s) runs i d h,
      contributions_top a b s cells small
          (flat_map run_parts runs) room,
    )

-- ---- a run by its window

-- an amount k above the first, by the factor of the first
moved : (a b s m k w B : ℕ) → (s < m + k → B ≡ 0)
    → (a * (s - (m + k)) + b * (m + k)) * w * B + a * w * (k * B) ≡ (a * (s - m) + b * m) * w * B + b * w * (k * B)
moved a b s m k w B none = elim (cases_lt s (m + k)) [
  | inl l ↦ rw (none l) (omega arith)
  | inr l ↦
      let d = s - (m + k) in
      let e : s - m ≡ d + k = omega (arith, l) in
      rw e (omega arith)
]

module _ (a b s : ℕ) (cells : List ℕ) where
  pub run_is : (m n w : ℕ) → sum_by (contribution a b cells s) (in_a_row m n w) + a * w * count_below n
      (λ k. k * cell_before cells s (m + k))
      ≡ (a * (s - m) + b * m) * w * count_below n (λ k. cell_before cells s (m + k)) + b * w * count_below n
      (λ k. k * cell_before cells s (m + k))
  unfolding count_below
  run_is m zero w = omega (arith, row_none (contribution a b cells s) m w)
  run_is m (suc n) w =
      rw (row_more (contribution a b cells s) m n w)
      (omega (
        arith,
        run_is m n w,
        moved a b s m n w (cell_before cells s (m + n)) (λ l. before_none cells s (m + n) l),
      ))

  module _ (run : Run) (window : Window) (is : IsWindow cells s run window) where
    abbrev first : ℕ
    first = (a * (s - run.amount) + b * run.amount) * run.weight * window.cells

    by_window : sum_by (contribution a b cells s) (run_parts run) + a * run.weight * window.steps
        ≡ (a * (s - run.amount) + b * run.amount) * run.weight * window.cells + b * run.weight * window.steps
    by_window = rw (is.cells, is.steps) (run_is run.amount run.count run.weight)

    -- where the factor rises with the amount, and where it falls
    pub run_rises : a ≤ b → first + (b - a) * run.weight * window.steps ≡ sum_by (contribution a b cells s) (run_parts run)
    run_rises h =
        let e : b - a + a ≡ b = omega (arith, h) in
        omega (arith, by_window, ap (λ t. t * run.weight * window.steps) e)

    pub run_falls : b ≤ a → sum_by (contribution a b cells s) (run_parts run) + (a - b) * run.weight * window.steps ≡ first
    run_falls h =
        let e : a - b + b ≡ a = omega (arith, h) in
        omega (arith, by_window, ap (λ t. t * run.weight * window.steps) e)

  pub run_above : (run : Run) → s < run.amount → 0 ≡ sum_by (contribution a b cells s) (run_parts run)
  run_above run l =
      let none : (k : ℕ) → cell_before cells s (run.amount + k) ≡ 0 = λ k. before_none cells s (run.amount + k) (omega (arith, l)) in
      let cells_none = below_none run.count (λ k. cell_before cells s (run.amount + k)) (λ k q. none k) in
      let steps_none = below_none run.count (λ k. k * cell_before cells s (run.amount + k))
      (λ k q. times_nothing k _ (none k)) in
      omega (arith, rw (cells_none, steps_none) at (run_is run.amount run.count run.weight))

-- ---- weights

row_weight : (m n w : ℕ) → part_sum (in_a_row m n w) ≡ n * w
row_weight m zero w = omega (arith, row_none (λ (p : Part). p.weight) m w)
row_weight m (suc n) w = omega (arith, row_more (λ (p : Part). p.weight) m n w, row_weight m n w)

-- those before a run and its own, together
pub weights_more : (runs : List Run) (i : ℕ) (d : Run) → i < length runs
    → part_sum (flat_map run_parts (take (i + 1) runs))
    ≡ part_sum (flat_map run_parts (take i runs)) + (get_or runs i d).count * (get_or runs i d).weight
weights_more runs i d h =
    let run = get_or runs i d in
    omega (arith, row_weight run.amount run.count run.weight, runs_more (λ p. p.weight) runs i d h)

-- they are at most all
pub weights_more_le : (runs : List Run) (i : ℕ) (d : Run) → i < length runs
    → part_sum (flat_map run_parts (take i runs)) + (get_or runs i d).count * (get_or runs i d).weight
    ≤ part_sum (flat_map run_parts runs)
weights_more_le runs i d h =
    let run = get_or runs i d in
    omega (arith, row_weight run.amount run.count run.weight, runs_more_le (λ p. p.weight) runs i d h)

-- an amount of a run has its share of the room
pub weight_room : (x : ℕ) (run : Run) → 0 < run.count → x * part_sum (run_parts run) < 2 ^ 64 → x * run.weight < 2 ^ 64
weight_room x run some room =
    let each : run.weight ≤ run.count * run.weight = omega (arith, mul-le-mul_right run.weight some) in
    omega (arith, rw (row_weight run.amount run.count run.weight) at room, mul-le-mul_left x each)

-- the cells of a window, each by the factor of the run's first amount
pub first_le : (a b s : ℕ) (cells : List ℕ) (run : Run) (window : Window) → ((k : ℕ) → get_or cells k 0 ≤ 2 ^ 62)
    → run.amount ≤ s → max a b * s * part_sum (run_parts run) < 2 ^ 64 → IsWindow cells s run window
    → (a * (s - run.amount) + b * run.amount) * run.weight * window.cells ≤ 2 ^ 126
first_le a b s cells run window small within room is =
    let most : window.cells ≤ run.count * 2 ^ 62 = rw is.cells (below_bound run.count (2 ^ 62) _
    (λ k l. before_small cells s (run.amount + k) (2 ^ 62) small)) in
    let all : max a b * s * (run.count * run.weight) < 2 ^ 64 = rw (row_weight run.amount run.count run.weight) at room in
    omega (arith, mul-le-mul (factor_le a b s run.amount run.weight within) most, all)

-- ---- amounts that are added

pub part_pushed : (f : Part → ℕ) (parts rest : List Part) (p : Part)
    → sum_by f ((parts ++ p ∷ []) ++ rest) ≡ sum_by f (parts ++ rest) + f p
part_pushed f parts rest p = rw (sum_by-append, sum_by_push, sum_by-append) (omega arith)
