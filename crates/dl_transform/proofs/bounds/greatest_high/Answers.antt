use Rattle.dl_transform.proofs.Common.{ℕ, ◌+◌, ◌-◌, ◌≡◌, ◌≤◌, ◌∙◌, ap, arith, below_more, cases_lt, get_or, get_or-drop, get_or_past, inl, inr, length, take_rest, high_at}
use Rattle.dl_transform.proofs.bounds.greatest_high.Goals as goal
use Rattle.dl_transform.proofs.bounds.greatest_high.Goals.{then-high-greatest, else-high-greatest}

pub loop-k-init : goal.loop-k-init
loop-k-init c =
    let xs = c.args.a.lows.now in
    let n = length c.args.a.widths.now in
    let at = λ (k : ℕ). ap (λ ys. get_or ys k 0) (take_rest xs n) ∙ get_or-drop n xs k 0 in
    record {
      above = λ k b. absurd (omega arith);
      past = λ k b.
          let e : n + (k - n) ≡ k = omega (arith, b) in
          rw (← e) (omega (arith, at (k - n), c.most-greatest.ensures.above (k - n)));
      least = λ m h. c.most-greatest.ensures.least m (λ k. omega (arith, at k, h (n + k)));
    }

pub loop-k-preserved : goal.loop-k-preserved
loop-k-preserved c =
    let k = c.loop-k.k in
    let high = high_at c.args.a.lows.now c.args.a.widths.now in
    elim c.if-high-greatest.branch [
      | then-high-greatest w ↦ rw w.greatest-is (record {
        above = below_more (λ i. high i ≤ high k) k
            (λ i b. omega (arith, c.loop-k.invariant.above i b, w.if-high-greatest.true)) (omega arith);
        past = λ i b. omega (arith, c.loop-k.invariant.past i b, w.if-high-greatest.true);
        least = λ m h. h k;
      })
      | else-high-greatest w ↦ rw w.greatest-is (record {
        above = below_more (λ i. high i ≤ c.loop-k.greatest) k c.loop-k.invariant.above w.if-high-greatest.false;
        past = c.loop-k.invariant.past;
        least = c.loop-k.invariant.least;
      })
    ]

pub returns-clause-above : goal.returns-clause-above
returns-clause-above c k = elim (cases_lt k (length c.args.a.widths.now)) [
  | inl b ↦ c.loop-k.invariant.above k (omega (arith, b))
  | inr b ↦ omega (arith, c.loop-k.invariant.past k b, get_or_past c.args.a.widths.now k 0 b)
]
