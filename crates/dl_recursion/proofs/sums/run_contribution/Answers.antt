use Rattle.dl_recursion.proofs.Common.{◌≡◌, ◌∙◌, ℕ, ◌+◌, ◌-◌, ◌*◌, ◌^◌, ◌≤◌, ◌<◌, List, length, get_or, arith, ap, ap₂, sym, max, mul-le-mul_left, mul-le-mul_right, sum_by, contribution, part_sum, run_parts, IsWindow, Run, Window}
use Rattle.dl_recursion.proofs.Contributions.{factor_le}
use Rattle.dl_recursion.proofs.Runs.{run_rises, run_falls, run_above, weight_room, first_le, contributions_top}
use Rattle.dl_recursion.proofs.sums.run_contribution.Goals as goal

-- a step of the factor, up or down, times the weight
step_fits : (a b s d : ℕ) (run : Run) → 0 < run.count → 0 < s → d ≤ max a b
    → max a b * s * part_sum (run_parts run) < 2 ^ 64 → d * run.weight < 2 ^ 64
step_fits a b s d run count some small room =
    let each : d ≤ max a b * s = omega (arith, small, mul-le-mul_left (max a b) some) in
    omega (arith, mul-le-mul_right run.weight each, weight_room (max a b * s) run count room)

-- both products, where the factor rises with the amount, and where it falls
module _ (a b : ℕ) (cells : List ℕ) (run : Run) (window : Window) (x y : ℕ)
    (small : (k : ℕ) → get_or cells k 0 ≤ 2 ^ 62) (within : run.amount ≤ length cells)
    (room : max a b * length cells * part_sum (run_parts run) < 2 ^ 64)
    (is : IsWindow cells (length cells) run window)
    (x_is : x ≡ (a * (length cells - run.amount) + b * run.amount) * run.weight) where
  abbrev all : ℕ
  all = sum_by (contribution a b cells (length cells)) (run_parts run)

  first : x * window.cells ≡ (a * (length cells - run.amount) + b * run.amount) * run.weight * window.cells
  first = ap (λ t. t * window.cells) x_is

  up : y ≡ (b - a) * run.weight → a ≤ b
      → (x * window.cells + y * window.steps ≡ all) × (x * window.cells + y * window.steps ≤ 2 ^ 126)
  up y_is h =
      let e = ap₂ (λ t u. t + u) first (ap (λ u. u * window.steps) y_is)
      ∙ run_rises a b (length cells) cells run window is h in
      (e, omega (arith, e, contributions_top a b (length cells) cells small (run_parts run) room))

  down : y ≡ (a - b) * run.weight → b ≤ a → (all + y * window.steps ≡ x * window.cells) × (x * window.cells ≤ 2 ^ 126)
  down y_is h = (
    ap (λ u. all + u * window.steps) y_is ∙ run_falls a b (length cells) cells run window is h ∙ sym first,
    omega (arith, first, first_le a b (length cells) cells run window small within room is),
  )

pub returns-then-run-s : goal.returns-then-run-s
returns-then-run-s c =
    run_above c.args.before c.args.after (length c.args.cells.now) c.args.cells.now c.args.run c.if-run-s.true

pub overflow_mul-factor : goal.overflow_mul-factor
overflow_mul-factor c =
    let run = c.args.run in
    let a = c.args.before in
    let b = c.args.after in
    let s = length c.args.cells.now in
    record {
      fits = omega (
        arith,
        ap (λ t. t * run.weight) c.amount_factor.ensures,
        factor_le a b s run.amount run.weight c.if-run-s.false,
        weight_room (max a b * s) run c.requires.run.count c.requires.room.weights,
      );
    }

pub overflow_mul-before : goal.overflow_mul-before
overflow_mul-before c = record {
  fits = step_fits c.args.before c.args.after (length c.args.cells.now) _ c.args.run c.requires.run.count
      (omega (arith, c.requires.run.amount, c.if-run-s.false)) (omega arith) c.requires.room.weights;
}

pub overflow_mul-after : goal.overflow_mul-after
overflow_mul-after c = record {
  fits = step_fits c.args.before c.args.after (length c.args.cells.now) _ c.args.run c.requires.run.count
      (omega (arith, c.requires.run.amount, c.if-run-s.false)) (omega arith) c.requires.room.weights;
}

pub overflow_mul-first : goal.overflow_mul-first
overflow_mul-first c =
    let factor = c.from.ensures ∙ ap (λ t. t * c.args.run.weight) c.amount_factor.ensures in
    let most = first_le c.args.before c.args.after (length c.args.cells.now) c.args.cells.now c.args.run c.args.window
    c.requires.small c.if-run-s.false c.requires.room.weights c.requires.window in
    record { fits = omega (arith, ap (λ t. t * c.args.window.cells) factor, most) }

pub overflow_mul-result : goal.overflow_mul-result
overflow_mul-result c =
    let factor = c.from.ensures ∙ ap (λ t. t * c.args.run.weight) c.amount_factor.ensures in
    let f = down c.args.before c.args.after c.args.cells.now c.args.run c.args.window _ _ c.requires.small
    c.if-run-s.false c.requires.room.weights c.requires.window factor c.from-then-after-before.ensures
    (omega (arith, c.if-after-before.true)) in
    record { fits = omega (arith, f.0, f.1) }

pub overflow_sub-result : goal.overflow_sub-result
overflow_sub-result c =
    let factor = c.from.ensures ∙ ap (λ t. t * c.args.run.weight) c.amount_factor.ensures in
    let f = down c.args.before c.args.after c.args.cells.now c.args.run c.args.window _ _ c.requires.small
    c.if-run-s.false c.requires.room.weights c.requires.window factor c.from-then-after-before.ensures
    (omega (arith, c.if-after-before.true)) in
    omega (arith, f.0)

pub returns-then-after-before : goal.returns-then-after-before
returns-then-after-before c =
    let factor = c.from.ensures ∙ ap (λ t. t * c.args.run.weight) c.amount_factor.ensures in
    let f = down c.args.before c.args.after c.args.cells.now c.args.run c.args.window _ _ c.requires.small
    c.if-run-s.false c.requires.room.weights c.requires.window factor c.from-then-after-before.ensures
    (omega (arith, c.if-after-before.true)) in
    omega (arith, f.0)

pub overflow_mul-result-2 : goal.overflow_mul-result-2
overflow_mul-result-2 c =
    let factor = c.from.ensures ∙ ap (λ t. t * c.args.run.weight) c.amount_factor.ensures in
    let f = up c.args.before c.args.after c.args.cells.now c.args.run c.args.window _ _ c.requires.small
    c.if-run-s.false c.requires.room.weights c.requires.window factor c.from-2.ensures c.if-after-before.false in
    record { fits = omega (arith, f.0, f.1) }

pub overflow_add-result : goal.overflow_add-result
overflow_add-result c =
    let factor = c.from.ensures ∙ ap (λ t. t * c.args.run.weight) c.amount_factor.ensures in
    let f = up c.args.before c.args.after c.args.cells.now c.args.run c.args.window _ _ c.requires.small
    c.if-run-s.false c.requires.room.weights c.requires.window factor c.from-2.ensures c.if-after-before.false in
    record { fits = omega (arith, f.0, f.1) }

pub returns : goal.returns
returns c =
    let factor = c.from.ensures ∙ ap (λ t. t * c.args.run.weight) c.amount_factor.ensures in
    let f = up c.args.before c.args.after c.args.cells.now c.args.run c.args.window _ _ c.requires.small
    c.if-run-s.false c.requires.room.weights c.requires.window factor c.from-2.ensures c.if-after-before.false in
    f.0
