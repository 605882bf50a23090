use Rattle.dl_measures.proofs.Common.{◌+◌, ◌*◌, ◌≤◌, length, arith, ap, refl, length-append}
use Rattle.std.specs.Prelude.{[], ◌∷◌}
use Rattle.dl_measures.proofs.MarkLaws.{no_ends, no_marks, marks_more}
use Rattle.dl_measures.proofs.marks.marks_of.Goals as goal

pub loop-block-init : goal.loop-block-init
loop-block-init c = record {
  mark = no_ends _ _;
  count = rw c.in_ok-marks.ensures.items refl;
  marks = rw c.in_ok-marks.ensures.items (no_marks _ _);
}

pub loop-block-preserved : goal.loop-block-preserved
loop-block-preserved c =
    let block = c.loop-block.block in
    let old = c.loop-block.marks.items in
    let within : (block + 1) * 64 ≤ length c.args.ends.now = omega (arith, c.loop-block-test.true) in
    record {
      mark = c.walk-mark.ensures;
      count = omega (
        arith,
        ap length c.in_ok-push.ensures.items,
        length-append old (c.walk-mark.result ∷ []),
        c.loop-block.invariant.count,
      );
      marks = rw c.in_ok-push.ensures.items (marks_more c.walk-mark.result c.loop-block.invariant.marks
          (rw c.loop-block.invariant.count within) (rw c.loop-block.invariant.count c.walk-mark.ensures));
    }
