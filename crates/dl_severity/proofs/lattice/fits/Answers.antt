-- The multiples past the ends decide.
use Rattle.dl_severity.proofs.Common.{All, arith, refl, subst, FitsLayer}
use Rattle.dl_severity.proofs.Lattices.{fits_all, fits_none, fits_one, fits_ends}
use Rattle.dl_severity.proofs.lattice.fits.Goals as goal

pub returns-then-step-eq0 : goal.returns-then-step-eq0
returns-then-step-eq0 c = (
  λ given. fits_none c.args.cede.now c.args.step c.if-step-eq0.true,
  λ fits. rw c.if-step-eq0.true refl,
)

pub returns-then-is_whole_at : goal.returns-then-is_whole_at
returns-then-is_whole_at c = (
  λ given. fits_all c.args.cede.now c.args.step c.requires (omega (arith, c.if-step-eq0.false))
      (c.is_whole_at.ensures.0 c.if-is_whole_at.true)
      (subst (All (FitsLayer c.args.cede.now c.args.step)) c.layers.ensures (c.fits_layers.ensures.0 given)),
  λ fits. c.fits_layers.ensures.1 (fits_ends c.args.cede.now c.args.step fits c.layers.result.now),
)

pub returns-else-is_whole_at : goal.returns-else-is_whole_at
returns-else-is_whole_at c = (
  λ given. absurd (cc (c.if-is_whole_at.false, given)),
  λ fits. c.is_whole_at.ensures.1 (fits_one c.args.cede.now c.args.step fits),
)
