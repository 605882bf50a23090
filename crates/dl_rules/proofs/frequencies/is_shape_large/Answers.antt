-- A shape that is not admitted is whole, so it passes 10,000.
use Rattle.dl_rules.proofs.Common.{◌||◌, whole, ◌<ℚ◌, sym, ap, subst, shape_of, is_there_and, passes, most_beta, ◌/ℚ◌}
use Rattle.dl_rules.proofs.Shapes.{admitted_some, admitted_none, shape_above, large_whole}
use Rattle.dl_rules.proofs.frequencies.is_shape_large.Goals as goal

pub is_large_over-requires-clause-above : goal.is_large_over-requires-clause-above
is_large_over-requires-clause-above c =
    let v = c.args.variation in
    subst (λ x. whole 0 <ℚ x) (sym (admitted_some (shape_of v) c.in-Some.shape c.in-Some.ensures).0)
    (shape_above v c.requires.above)

pub returns-in-None : goal.returns-in-None
returns-in-None c =
    let r = shape_of c.args.variation in
    let coarse = admitted_none r c.in-None.ensures in
    ap (λ b. b || is_there_and (λ x. passes (x /ℚ r) most_beta) c.args.above.now)
    (large_whole r (c.requires.whole coarse) coarse)
