use Rattle.dl_recursion.proofs.Common.{◌≡◌, ℕ, zero, suc, List, length, ◌+◌, ◌-◌, ◌*◌, ◌/◌, ◌^◌, ◌<◌, ◌≤◌, arith, refl, sym, mul-pos, div-mul-le_self, lt-div-mul-add, Fraction, whole, ◌over◌, cell, all_parts, part_at, EncloseScaled, HasGridEnds, IsScaled, pos_of_dvd_of_pos, max, weight_at, common_amount, Item}
use Prim.Native.Nat.{◌∣◌}
use Rattle.std.proofs.Common.{All, div-le_self, mul-zero}
use Rattle.dl_grid.specs.Cells.{low_at, high_at}
use Rattle.dl_grid.proofs.Room.{size_few}
use Rattle.dl_plan.specs.declared.severity.Sev.{Sev}
use Rattle.dl_plan.specs.Severity.{probability_of}
use Rattle.dl_plan.proofs.Positive.{amounts_positive}
use Rattle.dl_model.proofs.WithinOne.{within_one}
use Rattle.dl_model.proofs.Stretched.{common_divides, multiples_within, multiples_enclose}
use Rattle.dl_start.proofs.Products.{two_pos}
use Rattle.dl_recursion.proofs.Contributions.{few_steps}
use Rattle.dl_recursion.proofs.Units.{chance_scaled}
use Rattle.dl_recursion.proofs.Top.{follows, ends_enclose}
use Rattle.dl_recursion.proofs.direct.compound_direct.Goals as goal
use Rattle.dl_plan.proofs.Means.{severity_total}

one_factor : (s n : ℕ) → 0 < s → s * n < 2 ^ 64 → n < 2 ^ 64
one_factor zero n p h = absurd (omega (arith, p))
one_factor (suc s) n p h = omega (arith, h)

-- the multiples of the step that are below the number of cells
rows_few : (step cells : ℕ) → 0 < cells → (cells - 1) / step + 1 ≤ cells
rows_few step cells p = omega (arith, p, div-le_self (cells - 1) step)

rows_within : (step cells : ℕ) → 0 < cells → step * ((cells - 1) / step + 1) < cells + step
rows_within step cells p = omega (arith, p, div-mul-le_self (cells - 1) step)

rows_inside : (step cells : ℕ) → 0 < step → 0 < cells → cells ≤ step * ((cells - 1) / step + 1)
rows_inside step cells p q = omega (arith, q, lt-div-mul-add {a = cells - 1} {b = step} p)

-- the step divides each amount, and an amount is above 0
module _ (sev : Sev) {items : List Item} {step : ℕ} (is : step ≡ common_amount items) (same : items ≡ sev.items) where
  step_divides : All (λ (item : Item). step ∣ item.amount) sev.items
  step_divides = rw (is, same) (common_divides 0 sev.items)

  step_above : probability_of sev 0 ≡ whole 0 → 0 < step
  step_above no_zero =
      let item : Item = record { amount = 0; weight = 0 } in
      pos_of_dvd_of_pos (step_divides 0 item sev.weighted.some) (amounts_positive sev no_zero 0 item sev.weighted.some)

pub make-requires : goal.make-requires
make-requires g c = grind (arith, mul-pos c.args.ratio.positive (severity_total c.args.sev.now))

pub nonzero_div-rows : goal.nonzero_div-rows
nonzero_div-rows g c =
    omega (arith, step_above c.args.sev.now c.common_amount-step.ensures c.as_slice.ensures c.requires.no_zero)

pub is_within_words-requires-clause-cells_small : goal.is_within_words-requires-clause-cells_small
is_within_words-requires-clause-cells_small g c =
    omega (arith, rows_few c.common_amount-step.result c.args.cells c.requires.size.some, size_few c.requires.size)

pub amounts_of-requires-clause-apart : goal.amounts_of-requires-clause-apart
amounts_of-requires-clause-apart g c =
    step_above c.args.sev.now c.common_amount-step.ensures c.as_slice.ensures c.requires.no_zero

pub amounts_of-requires-clause-whole : goal.amounts_of-requires-clause-whole
amounts_of-requires-clause-whole g c =
    rw c.as_slice-2.ensures (step_divides c.args.sev.now c.common_amount-step.ensures c.as_slice.ensures)

pub amounts_of-requires-clause-room : goal.amounts_of-requires-clause-room
amounts_of-requires-clause-room g c =
    let sev = c.args.sev.now in
    let s = c.args.steps in
    let rows = (c.args.cells - 1) / c.common_amount-step.result + 1 in
    let most : 0 < max s.before s.after = omega (arith, s.some) in
    rw (c.num-2.ensures.part, c.as_slice-2.ensures, sev.weighted.sum)
    (one_factor (max s.before s.after * rows) (c.in-Ok.each.num * sev.total) (mul-pos most (omega arith))
    (c.if-not-is_within_words.ensures.factors refl))

pub amounts_of-requires-clause-no_zero : goal.amounts_of-requires-clause-no_zero
amounts_of-requires-clause-no_zero g c = rw c.as_slice-2.ensures (amounts_positive c.args.sev.now c.requires.no_zero)

pub first_cells-requires-clause-few : goal.first_cells-requires-clause-few
first_cells-requires-clause-few g c =
    omega (arith, rows_few c.common_amount-step.result c.args.cells c.requires.size.some, size_few c.requires.size)

pub first_cells-requires-clause-room : goal.first_cells-requires-clause-room
first_cells-requires-clause-room g c = record {
  room = record {
    steps = few_steps (max c.args.steps.before c.args.steps.after) _
        (omega (arith, c.args.steps.before_small, c.args.steps.after_small))
        (omega (arith, rows_few c.common_amount-step.result c.args.cells c.requires.size.some, size_few c.requires.size));
    weights = rw (c.in_ok-amounts.ensures.sum, c.num-2.ensures.part, c.as_slice-2.ensures, c.args.sev.now.weighted.sum)
        (c.if-not-is_within_words.ensures.factors refl);
  };
  divisor = rw c.den-2.ensures.part c.in-Ok.each.positive;
  divisors = rw c.den-2.ensures.part (c.if-not-is_within_words.ensures.divisors refl);
}

pub to_grid-requires : goal.to_grid-requires
to_grid-requires g c =
    let above = step_above c.args.sev.now c.common_amount-step.ensures c.as_slice.ensures c.requires.no_zero in
    let within : c.common_amount-step.result * length c.in_ok-x.x.low.items < c.args.cells + c.common_amount-step.result =
    rw c.in_ok-x.ensures.cells (rows_within c.common_amount-step.result c.args.cells c.requires.size.some) in
    (omega arith, (c.requires.size, (above, (within, (c.in_ok-x.ensures.sound, omega arith)))))

pub returns-clause-encloses : goal.returns-clause-encloses
returns-clause-encloses g c w P H =
    let B = g.row.B in
    let sev = c.args.sev.now in
    let f : ℕ → Fraction = probability_of sev in
    let s = c.args.steps in
    let x = c.args.ratio in
    let each = c.in-Ok.each in
    let step = c.common_amount-step.result in
    let rows = (c.args.cells - 1) / step + 1 in
    let parts = all_parts c.in_ok-amounts.amounts in
    let in_scale = c.in_ok-x.x in
    let grid = c.in_ok-grid.grid in
    let is : step ≡ common_amount sev.items = rw (← c.as_slice.ensures) c.common_amount-step.ensures in
    let apart : 0 < step = step_above sev is refl c.requires.no_zero in
    let lowest : each ≡ x.num over (x.den * sev.total) =
    rw (c.from.ensures, c.from-2.ensures, c.from-3.ensures, c.num.ensures.part, c.den.ensures.part) at c.in-Ok.ensures.0 in
    let smaller : ℕ → Fraction = λ j. f (step * j) in
    let no_zero : smaller 0 ≡ whole 0 = rw mul-zero c.requires.no_zero in
    let scaled : IsScaled parts c.den-2.result x smaller = λ j.
    rw c.den-2.ensures.part (chance_scaled x sev.total (weight_at sev.items (step * j)) (part_at parts j) each
    (severity_total sev) lowest (rw (← c.num-2.ensures.part, ← c.as_slice-2.ensures) (c.in_ok-amounts.ensures.each j))) in
    let round : EncloseScaled (λ k. cell w smaller k k) in_scale.shift rows in_scale.low.items in_scale.high.items =
    c.in_ok-x.ensures.round (λ k. cell w smaller k k)
    (follows smaller w x s.before s.after c.den-2.result parts no_zero P scaled) in
    let ends : HasGridEnds B c.args.start in_scale.shift step rows in_scale.low.items in_scale.high.items (low_at grid)
    (high_at grid) = rw (← c.in_ok-x.ensures.cells) c.in_ok-grid.ensures.ends in
    rw c.in_ok-grid.ensures.cells (multiples_enclose sev w step (2 ^ B) c.args.cells rows (low_at grid) (high_at grid)
    (sym is) apart (two_pos B) (rows_inside step c.args.cells apart c.requires.size.some) ends.between
    (ends_enclose smaller w no_zero (multiples_within f step apart (within_one sev)) c.args.start H B in_scale.shift step
    rows in_scale.low.items in_scale.high.items (low_at grid) (high_at grid) round ends))
