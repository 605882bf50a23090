use Rattle.dl_recursion.proofs.Common.{◌+◌, ◌-◌, ◌*◌, ◌^◌, ◌≤◌, arith, ◌∙◌, mul-le-mul_right, le_trans, whole_le, inr, refl}
use Rattle.dl_recursion.proofs.Windows.{no_windows}
use Rattle.dl_start.proofs.Products.{two_le}
use Rattle.dl_recursion.proofs.Steps.{shifted, shift_low, shift_high, shift_down_top}
use Rattle.dl_recursion.proofs.recursion.shift_down.Goals as goal
use Rattle.dl_recursion.proofs.recursion.shift_down.Goals.{then-high-gt-MOST_END, else-high-gt-MOST_END}

pub overflow_add-high : goal.overflow_add-high
overflow_add-high c = omega (arith, c.loop-k.invariant.top, two_le (126 - 8 * c.loop-k.k) 126 (omega arith))

pub loop-k-preserved : goal.loop-k-preserved
loop-k-preserved c =
    let i = c.loop-k.invariant in
    let k = c.loop-k.k in
    let x = c.loop-k.x in
    elim c.if-high-gt-MOST_END.branch [
      | then-high-gt-MOST_END w ↦
          let told = w.shrink.ensures in
          let e = told.shifted in
          rw (w.low-is, w.high-is, w.x-is, e.shift) (record {
            sound = e.sound;
            windows = λ runs s h. rw told.windows (no_windows runs _ _ s);
            all_or_none = rw told.windows (inr refl);
            cells = e.cells ∙ i.cells;
            rises = omega (arith, i.rises);
            kept = λ same. absurd (omega (arith, same, i.rises));
            shift = omega (arith, i.shift);
            top = shift_down_top c.loop-k.high k c.loop-k-test.true i.top;
            round = λ r n h. shifted r x.shift n x.low.items x.high.items _ _ e.low e.high (i.round r n h);
            low_end = λ y h. le_trans _ _ _ (whole_le _ _ (shift_low c.loop-k.low x.shift)) (i.low_end y h);
            high_end = λ y h. le_trans _ _ _ (i.high_end y h) (whole_le _ _ (shift_high c.loop-k.high x.shift));
          })
      | else-high-gt-MOST_END w ↦
          rw (w.low-is, w.high-is, w.x-is) (record {
            sound = i.sound;
            windows = i.windows;
            all_or_none = i.all_or_none;
            cells = i.cells;
            rises = i.rises;
            kept = i.kept;
            shift = omega (arith, i.shift);
            top = omega (arith, two_le 62 (126 - 8 * (k + 1)) (omega (arith, c.loop-k-test.true)));
            round = i.round;
            low_end = i.low_end;
            high_end = i.high_end;
          })
    ]

pub returns-then-low-high-clause-low : goal.returns-then-low-high-clause-low
returns-then-low-high-clause-low c y h =
    let less : c.loop-k.high ≤ c.loop-k.low = omega (arith, c.if-low-high.true) in
    le_trans _ _ _ (whole_le _ _ (mul-le-mul_right (2 ^ c.loop-k.x.shift) less)) (c.loop-k.invariant.low_end y h)

pub returns-then-next-le-MOST_END-clause-low : goal.returns-then-next-le-MOST_END-clause-low
returns-then-next-le-MOST_END-clause-low c y h =
    let least : c.min.result ≤ c.args.next.low = omega (arith, c.min.ensures) in
    le_trans _ _ _ (whole_le _ _ (mul-le-mul_right (2 ^ c.args.x.now.shift) least)) h

pub returns-then-low-high-clause-kept : goal.returns-then-low-high-clause-kept
returns-then-low-high-clause-kept c = c.loop-k.invariant.kept

pub returns-else-low-high-clause-kept : goal.returns-else-low-high-clause-kept
returns-else-low-high-clause-kept c = c.loop-k.invariant.kept
