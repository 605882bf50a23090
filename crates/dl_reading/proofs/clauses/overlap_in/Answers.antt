-- The first layer that overlaps one before it.
use Rattle.dl_reading.proofs.Common.{◌∙◌, sym, ap, at_if, overlap_in}
use Rattle.dl_reading.proofs.Turns.{overlap_at, turn_found, turn_passed, turn_ended}
use Rattle.dl_reading.proofs.clauses.overlap_in.Goals as goal

pub returns-then-overlaps_any : goal.returns-then-overlaps_any
unfolding overlap_in
returns-then-overlaps_any c =
    let span = c.index-layers-at.result.layer.span in
    rw (← c.as_slice-layers.ensures) (turn_found overlap_at _ _ _ span c.layers.invariant c.layers-test.true
    c.index-layers-at.is (ap (λ b. at_if b span) (sym c.if-overlaps_any.true ∙ c.overlaps_any.ensures)))

pub layers-preserved : goal.layers-preserved
layers-preserved c =
    turn_passed overlap_at _ _ _ c.layers.invariant c.layers-test.true c.index-layers-at.is
    (ap (λ b. at_if b c.index-layers-at.result.layer.span) (sym c.if-overlaps_any.false ∙ c.overlaps_any.ensures))

pub returns : goal.returns
unfolding overlap_in
returns c = rw (← c.as_slice-layers.ensures) (turn_ended overlap_at _ _ c.layers.invariant c.layers-test.false)
