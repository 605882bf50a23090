use Rattle.dl_outcomes.proofs.Common.{◌≡◌, ◌≢◌, length, arith, sym, ap, subst, ◌∙◌, whole, kept, IsWhole, count_below_none}
use Rattle.dl_outcomes.proofs.Walk.{AreElsewhere, other_more, same_skipped, none_skipped, elsewhere_fits, elsewhere_mass}
use Rattle.dl_outcomes.proofs.clause_grid.elsewhere.Goals.{in-Some+then-x-from, in-Some+else-x-from, in_default}
use Rattle.dl_outcomes.proofs.clause_grid.elsewhere.Goals as goal

pub loop-s-init : goal.loop-s-init
loop-s-init g c = record {
  low = c.point-total.ensures.low ∙ sym (count_below_none _);
  high = c.point-total.ensures.high ∙ sym (count_below_none _);
}

pub add-total-requires : goal.add-total-requires
add-total-requires g c =
    let fits = elsewhere_fits c.loop-s.invariant c.at-then-x-from.result.hi c.cells-s-end.ensures.grid (omega arith)
    c.at-then-x-from.ensures.high in (omega arith, omega arith)

pub loop-s-preserved : goal.loop-s-preserved
loop-s-preserved g c =
    elim c.match-at.branch [
      | in-Some+then-x-from w ↦
          let here : kept c.args.cede.now c.loop-s.s ≡ whole w.in-Some.x =
          ap (kept c.args.cede.now) (sym c.from.ensures) ∙ w.in-Some.ensures.value in
          let other : w.in-Some.x ≢ c.args.y = λ e. w.if-x-from.true (e ∙ sym w.from-in-Some.ensures) in
          rw (w.total-is, w.add-total.ensures.low, w.add-total.ensures.high) (other_more c.loop-s.invariant w.in-Some.x
          here other w.at-then-x-from.ensures.low w.at-then-x-from.ensures.high)
      | in-Some+else-x-from w ↦
          let here : kept c.args.cede.now c.loop-s.s ≡ whole w.in-Some.x =
          ap (kept c.args.cede.now) (sym c.from.ensures) ∙ w.in-Some.ensures.value in
          rw w.total-is (same_skipped c.loop-s.invariant w.in-Some.x here (w.if-x-from.false ∙ w.from-in-Some.ensures))
      | in_default w ↦ rw w.total-is (none_skipped c.loop-s.invariant
          (subst (λ t. ¬ IsWhole (kept c.args.cede.now t)) c.from.ensures w.in_default.ensures.value))
    ]

pub returns : goal.returns
returns g c =
    let cells = c.args.sums.now in
    let all : c.loop-s.s ≡ length cells = omega arith in
    let ends : AreElsewhere c.args.cede.now cells (length cells) c.args.y c.loop-s.total.lo c.loop-s.total.hi =
    rw (← all) c.loop-s.invariant in
    let mass = elsewhere_mass c.args.cede.now cells (length cells) c.args.y c.cells-s-end.ensures.grid in
    record { low = ends.low; high = ends.high; within = omega (arith, ends.low) }
