use Rattle.dl_outcomes.proofs.Common.{◌≡◌, length, arith, sym, ap, subst, ◌∙◌, whole, kept, IsWhole, high_end, count_below_none}
use Rattle.dl_outcomes.proofs.Walk.{HasTaken, kept_fits, taken_more, taken_not, from_none}
use Rattle.dl_outcomes.proofs.clause_grid.taken_in.Goals.{in-Some, in_default}
use Rattle.dl_outcomes.proofs.clause_grid.taken_in.Goals as goal

pub loop-s-init : goal.loop-s-init
loop-s-init g c = record {
  cells = c.in_ok-grid.ensures.cells;
  low = λ y inside. c.in_ok-grid.ensures.low y ∙ sym (count_below_none _);
  high = λ y inside. c.in_ok-grid.ensures.high y ∙ from_none _ _;
  mass = omega (arith, c.in_ok-grid.ensures.mass);
  spread = omega (arith, c.in_ok-grid.ensures.spread);
}

pub add_at-requires : goal.add_at-requires
add_at-requires g c =
    let small = high_end c.args.sums.now c.loop-s.s c.cells-s-end.ensures.grid in
    let fits = kept_fits c.args.cede.now c.args.sums.now c.loop-s.s _ _ c.cells-s-end.ensures.grid
    c.loop-s.invariant.mass c.at-in-Some.ensures.low in
    (omega arith, (omega arith, (omega arith, fits)))

pub loop-s-preserved : goal.loop-s-preserved
loop-s-preserved g c =
    elim c.match-at.branch [
      | in-Some w ↦
          let here : kept c.args.cede.now c.loop-s.s ≡ whole w.in-Some.y =
          ap (kept c.args.cede.now) (sym c.from.ensures) ∙ w.in-Some.ensures.value in
          let more = w.add_at.ensures in
          rw w.grid-is (taken_more w.in-Some.y c.loop-s.invariant here w.at-in-Some.ensures.low
          w.at-in-Some.ensures.high more.cells more.low more.high more.mass more.spread)
      | in_default w ↦ rw w.grid-is (taken_not c.loop-s.invariant
          (subst (λ t. ¬ IsWhole (kept c.args.cede.now t)) c.from.ensures w.in_default.ensures.value))
    ]

pub returns-clause-ends : goal.returns-clause-ends
returns-clause-ends g c y inside =
    let all : c.loop-s.s ≡ length c.args.sums.now = omega arith in
    let taken : HasTaken c.args.cede.now c.args.sums.now (length c.args.sums.now) c.args.cells c.loop-s.grid =
    rw (← all) c.loop-s.invariant in record { low = taken.low y inside; high = taken.high y inside }
