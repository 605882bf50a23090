-- A shape with more than 48 bits is too large.
use Rattle.dl_rules.proofs.Common.{◌∙◌, map, sym, subst, shape_of, whole, ◌<ℚ◌, part_of}
use Rattle.dl_rules.proofs.Shapes.{admitted_some, admitted_none, shape_above}
use Rattle.dl_rules.proofs.FactorBounds.{coarse_large}
use Rattle.dl_rules.proofs.changes.shape_for.Goals as goal

pub returns-in_err-shape : goal.returns-in_err-shape
returns-in_err-shape c =
    let r = shape_of c.args.variation in
    rw c.from_residual.ensures (coarse_large c.args.bounds.parts r (map part_of c.args.units.now)
    (admitted_none r (sym c.in_err-shape.was ∙ c.shape.ensures)))

pub is_too_large-requires-clause-above : goal.is_too_large-requires-clause-above
is_too_large-requires-clause-above c =
    let r = shape_of c.args.variation in
    subst (λ x. whole 0 <ℚ x) (sym (admitted_some r c.in_ok-shape.shape (sym c.in_ok-shape.was ∙ c.shape.ensures)).0)
    (shape_above c.args.variation c.requires.above)
