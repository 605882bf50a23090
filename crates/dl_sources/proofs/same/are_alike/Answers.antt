use Rattle.dl_sources.proofs.Common.{rules}
use Rattle.dl_sources.proofs.same.are_alike.Goals as goal

pub returns-then-same_zero : goal.returns-then-same_zero
returns-then-same_zero c = search rules
