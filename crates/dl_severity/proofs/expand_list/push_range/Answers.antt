-- Ranges of one number, and others.
use Rattle.dl_severity.proofs.Ranged.{equal_if}
use Rattle.dl_severity.proofs.expand_list.push_range.Goals as goal

pub push_one-requires-clause-one : goal.push_one-requires-clause-one
push_one-requires-clause-one c = equal_if c.args.range.now.from c.args.range.now.to c.if-eq.ensures
