use Rattle.dl_shares.proofs.Common.{◌≡◌, ◌∙◌, sym, arith, part_down, part_up}
use Rattle.dl_shares.proofs.TailParts.{in_order, up_most, whole_down, some_down, whole_up, some_up}
use Rattle.dl_shares.proofs.tails.tail_part.Goals as goal
use Rattle.dl_shares.proofs.tails.tail_part.Goals.{then-at-above, else-at-above, then-at-above-2, else-at-above-2}

pub invariant_of-result-clause-ordered : goal.invariant_of-result-clause-ordered
invariant_of-result-clause-ordered g c =
    let low : c.if-at-above.lo ≡ part_down c.args.joint.lo c.args.above.lo c.args.at.hi = elim c.if-at-above.branch [
      | then-at-above w ↦ w.lo-is ∙ sym (whole_down _ _ _ w.if-at-above.true)
      | else-at-above w ↦ w.lo-is ∙ sym (some_down _ _ _ w.if-at-above.false)
    ] in
    let high : c.if-at-above-2.hi ≡ part_up c.args.joint.hi c.args.above.hi c.args.at.lo = elim c.if-at-above-2.branch [
      | then-at-above-2 w ↦ w.hi-is ∙ sym (whole_up _ _ _ w.if-at-above-2.true)
      | else-at-above-2 w ↦ w.hi-is ∙ w.div_ceil-hi.ensures ∙ sym (some_up _ _ _ w.if-at-above-2.false)
    ] in
    rw (low, high) (in_order _ _ _ _ _ _ c.args.joint.ordered c.args.above.ordered c.args.at.ordered)

pub invariant_of-result-clause-in_range : goal.invariant_of-result-clause-in_range
invariant_of-result-clause-in_range g c = elim c.if-at-above-2.branch [
  | then-at-above-2 w ↦ omega (arith, w.hi-is, c.args.joint.in_range)
  | else-at-above-2 w ↦ omega (
    arith,
    w.hi-is ∙ w.div_ceil-hi.ensures ∙ sym (some_up _ _ _ w.if-at-above-2.false),
    up_most c.args.joint.hi c.args.above.hi c.args.at.lo,
    c.args.joint.in_range,
  )
]
