-- Weights that pass the common denominator, or fall short of it, do not sum to 1.
use Rattle.dl_plan.proofs.Common.{ℕ, ◌≡◌, ◌+◌, ◌-◌, ◌≤◌, arith}
use Rattle.dl_plan.proofs.WholeParts.{part_within, weight_more}
use Rattle.dl_plan.proofs.fine.sum_to_one.Goals as goal

pub returns-then-parts-left : goal.returns-then-parts-left
returns-then-parts-left c = (
  λ given. absurd (cc (given)),
  λ one.
      let more =
      weight_more c.args.fracs.now c.args.common c.fracs.frac-index c.frac-item.result c.fracs-test.true
      c.frac-item.is in
      let most = part_within c.args.fracs.now c.args.common (c.fracs.frac-index + 1) c.requires one in
      absurd (omega (arith, more, most, c.fracs.invariant, c.numerator_over-parts.ensures, c.if-parts-left.true)),
)

left_more : (left part n before after whole : ℕ) → after ≡ before + n → part ≡ n → part ≤ left → left + before ≡ whole
    → left - part + after ≡ whole
left_more left part n before after whole more is room so_far = omega (arith, more, is, room, so_far)

pub fracs-preserved : goal.fracs-preserved
fracs-preserved c =
    left_more c.fracs.left c.numerator_over-parts.result _ _ _ _
    (weight_more c.args.fracs.now c.args.common c.fracs.frac-index c.frac-item.result c.fracs-test.true c.frac-item.is)
    c.numerator_over-parts.ensures c.if-parts-left.false c.fracs.invariant
