use Rattle.dl_recursion.proofs.Common.{◌≡◌, ℕ, ◌+◌, ◌-◌, ◌*◌, ◌^◌, ◌≤◌, ◌<◌, length, arith, refl, sym, ap₂, ◌∙◌, count_below, cell_before, Run}
use Rattle.dl_exact.proofs.Counts.{below_more, below_rest, times_nothing}
use Rattle.dl_recursion.proofs.Windows.{before_none, before_small, step_le, window_cells_le, window_steps_le}
use Rattle.dl_recursion.proofs.sums.window_of.Goals as goal

pub loop-k-init : goal.loop-k-init
unfolding count_below
loop-k-init c = record { cells = refl; steps = refl }

-- the part of a run with its first k amounts
abbrev first_of : Run → ℕ → Run
first_of run k = record { amount = run.amount; count = k; weight = 0 }

pub overflow_add-sum : goal.overflow_add-sum
overflow_add-sum c =
    let s = length c.args.cells.now - 1 in
    let few : c.loop-k.k ≤ 2 ^ 32 = omega (arith, c.loop-k-test.true, c.min-reached.ensures, c.requires.run.end) in
    let most = window_cells_le c.args.cells.now s (first_of c.args.run c.loop-k.k) (record { cells = c.loop-k.sum; steps = c.loop-k.steps })
    c.requires.small few (record { cells = c.loop-k.invariant.cells; steps = c.loop-k.invariant.steps }) in
    omega (arith, most, before_small c.args.cells.now s (c.args.run.amount + c.loop-k.k) (2 ^ 62) c.requires.small)

pub overflow_add-steps : goal.overflow_add-steps
overflow_add-steps c =
    let more = ap₂ (λ x y. x * y) c.from.ensures (c.from-end.ensures ∙ c.cell_before.ensures) in
    let few : c.loop-k.k ≤ 2 ^ 32 = omega (arith, c.loop-k-test.true, c.min-reached.ensures, c.requires.run.end) in
    let most = window_steps_le c.args.cells.now (length c.args.cells.now - 1) (first_of c.args.run c.loop-k.k) (record { cells = c.loop-k.sum; steps = c.loop-k.steps })
    c.requires.small few (record { cells = c.loop-k.invariant.cells; steps = c.loop-k.invariant.steps }) in
    omega (
      arith,
      more,
      most,
      step_le c.loop-k.k (cell_before c.args.cells.now (length c.args.cells.now - 1) (c.args.run.amount + c.loop-k.k)) few (before_small c.args.cells.now (length c.args.cells.now - 1) (c.args.run.amount + c.loop-k.k) (2 ^ 62) c.requires.small),
    )

pub loop-k-preserved : goal.loop-k-preserved
loop-k-preserved c =
    let end = c.from-end.ensures ∙ c.cell_before.ensures in
    record {
      cells = ap₂ (λ x y. x + y) c.loop-k.invariant.cells end ∙ sym (below_more c.loop-k.k _);
      steps = ap₂ (λ x y. x + y) c.loop-k.invariant.steps (ap₂ (λ x y. x * y) c.from.ensures end)
          ∙ sym (below_more c.loop-k.k _);
    }

pub returns : goal.returns
returns c =
    let cells = c.args.cells.now in
    let run = c.args.run in
    let k = c.loop-k.k in
    let some : 0 < length cells = c.requires.some in
    let all : k ≤ run.count = omega (arith, c.loop-k.auto.k-end, c.min-reached.ensures) in
    let none : (j : ℕ) → k ≤ j → j < run.count → cell_before cells (length cells - 1) (run.amount + j) ≡ 0 =
    λ j l m.
    before_none cells (length cells - 1) (run.amount + j)
    (omega (arith, l, m, some, c.loop-k-test.false, c.min-reached.ensures, c.saturating_sub.ensures)) in
    record {
      cells = c.loop-k.invariant.cells
          ∙ sym (below_rest k run.count (λ i. cell_before cells (length cells - 1) (run.amount + i)) all none);
      steps = c.loop-k.invariant.steps
          ∙ sym (below_rest k run.count (λ i. i * cell_before cells (length cells - 1) (run.amount + i)) all
          (λ j l m. times_nothing j _ (none j l m)));
    }
