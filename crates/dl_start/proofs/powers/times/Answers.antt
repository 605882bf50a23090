use Rattle.dl_start.proofs.Common.{◌≡◌, ◌+◌, ◌*◌, ◌^◌, suc, ◌-◌, arith, ap, ◌∙◌, pow-suc}
use Rattle.dl_start.proofs.Products.{two_le, half_low, half_high, half_top, start_times}
use Rattle.dl_start.proofs.powers.times.Goals as goal
use Rattle.dl_start.proofs.powers.times.Goals.{then-high-gt-MOST_START, else-high-gt-MOST_START}

pub overflow_add-high : goal.overflow_add-high
overflow_add-high c = omega (arith, c.loop-k.invariant.top, two_le (126 - c.loop-k.k) 126 (omega arith))

pub loop-k-preserved : goal.loop-k-preserved
loop-k-preserved c =
    let i = c.loop-k.invariant in
    let k = c.loop-k.k in
    let T = 2 ^ (c.args.a.exponent + c.args.b.exponent) in
    let d = c.loop-k.exponent - 1 in
    let e : c.loop-k.exponent ≡ suc d = omega (arith, i.least, c.loop-k-test.true) in
    let s : 2 ^ c.loop-k.exponent ≡ 2 ^ d * 2 = ap (λ t. 2 ^ t) e ∙ pow-suc 2 d in
    elim c.if-high-gt-MOST_START.branch [
      | then-high-gt-MOST_START w ↦
          rw (w.low-is, w.high-is, w.exponent-is) (record {
            low = half_low c.loop-k.low T (c.args.a.low * c.args.b.low) (2 ^ d) (rw s at i.low);
            high = half_high c.loop-k.high T (c.args.a.high * c.args.b.high) (2 ^ d) (rw s at i.high);
            top = half_top c.loop-k.high (126 - k) (126 - (k + 1)) (omega arith) i.top;
            least = omega arith;
            order = omega (arith, i.order);
            room = omega (arith, i.room);
          })
      | else-high-gt-MOST_START w ↦
          rw (w.low-is, w.high-is, w.exponent-is) (record {
            low = i.low;
            high = i.high;
            top = omega (arith, two_le 63 (126 - (k + 1)) (omega arith));
            least = omega (arith, i.least);
            order = i.order;
            room = i.room;
          })
    ]

pub returns-clause-holds : goal.returns-clause-holds
returns-clause-holds c v w H K =
    start_times v w _ _ _ _ _ _ c.loop-k.low c.loop-k.high c.loop-k.exponent H K c.loop-k.invariant.low
    c.loop-k.invariant.high
