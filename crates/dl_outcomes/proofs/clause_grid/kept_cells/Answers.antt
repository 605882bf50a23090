use Rattle.dl_outcomes.proofs.Common.{◌≡◌, ◌<◌, ◌-◌, ◌^◌, length, arith, sym, ap, ◌∙◌, whole, kept, length-set}
use Rattle.dl_outcomes.proofs.Ceded.{same_whole}
use Rattle.dl_outcomes.proofs.Rest.{all_spread, rest_mass, rest_spread, rest_left, others_taken}
use Rattle.dl_outcomes.proofs.clause_grid.kept_cells.Goals.{in-Some, in_default}
use Rattle.dl_outcomes.proofs.clause_grid.kept_cells.Goals as goal

pub set-requires : goal.set-requires
set-requires g c =
    let at = c.in-Some.ensures.0 in
    let inside : c.in-Some.y < length c.in_ok-grid.grid = omega (arith, at, c.in_ok-grid.ensures.cells) in
    let fits = rest_mass inside (c.in_ok-grid.ensures.ends c.in-Some.y at) c.complement.result.lo
    c.in_ok-grid.ensures.mass (omega arith) (omega arith) in
    (omega arith, (omega arith, (inside, (omega arith, fits))))

pub returns : goal.returns
returns g c = elim c.match-kept_past.branch [
  | in-Some w ↦
      let here : kept c.args.cede.now (length c.args.sums.now) ≡ whole w.in-Some.y =
      ap (kept c.args.cede.now) (sym c.cells.ensures.count) ∙ w.in-Some.ensures.1 in
      let at : w.in-Some.y < length c.in_ok-grid.grid =
      omega (arith, w.in-Some.ensures.0, c.in_ok-grid.ensures.cells) in
      let taken = c.in_ok-grid.ensures.ends w.in-Some.y w.in-Some.ensures.0 in
      let low = w.complement.ensures.low ∙ ap (λ n. 2 ^ g.row.B - n) w.elsewhere.ensures.high in
      let high = w.complement.ensures.high ∙ ap (λ n. 2 ^ g.row.B - n) w.elsewhere.ensures.low in
      rw (w.grid-is, w.set.ensures) (record {
        cells = rw length-set c.in_ok-grid.ensures.cells;
        inside = λ y within other. others_taken at taken w.complement.result y (λ same. other (here ∙ ap whole same))
            (c.in_ok-grid.ensures.ends y within);
        past = λ y within there. rest_left at taken w.complement.result low high (omega arith) y
            (same_whole w.in-Some.y y (sym here ∙ there));
        spread = rest_spread at taken w.complement.result low high c.in_ok-grid.ensures.spread;
      })
  | in_default w ↦ rw w.grid-is (record {
    cells = c.in_ok-grid.ensures.cells;
    inside = λ y within other. c.in_ok-grid.ensures.ends y within;
    past = λ y within here. absurd (w.in_default.ensures y within (ap (kept c.args.cede.now) c.cells.ensures.count
        ∙ here));
    spread = all_spread c.args.cede.now c.args.sums.now c.in_ok-grid.grid c.in_ok-grid.ensures.spread;
  })
]
