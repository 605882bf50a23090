-- The parts are the units.
use Rattle.dl_parser.proofs.Common.{units}
use Rattle.dl_parser.proofs.cursor.Parser.units.Goals as goal

pub returns-clause-reads : goal.returns-clause-reads
unfolding units
returns-clause-reads c = c.parts.ensures.reads
