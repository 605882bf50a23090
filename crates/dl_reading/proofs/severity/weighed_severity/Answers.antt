-- The mixture, and then its layer.
use Rattle.dl_reading.proofs.Parts.{sev_weighted}
use Rattle.dl_reading.proofs.severity.weighed_severity.Goals as goal

pub mixture-requires-clause-sev : goal.mixture-requires-clause-sev
mixture-requires-clause-sev c = sev_weighted c.args.unit.now c.requires.weighted
