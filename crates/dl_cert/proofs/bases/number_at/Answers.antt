use Rattle.dl_cert.proofs.Common.{◌∙◌, arith}
use Rattle.dl_cert.proofs.Outside.{base_taken}
use Rattle.dl_cert.proofs.bases.number_at.Goals as goal

pub returns-clause-low : goal.returns-clause-low
returns-clause-low c = c.number_after.ensures.low
    ∙ (base_taken c.args.base.now c.args.sev.now c.args.cells.now c.args.y (omega (arith, c.requires.inside))).0

pub returns-clause-high : goal.returns-clause-high
returns-clause-high c = c.number_after.ensures.high
    ∙ (base_taken c.args.base.now c.args.sev.now c.args.cells.now c.args.y (omega (arith, c.requires.inside))).1
