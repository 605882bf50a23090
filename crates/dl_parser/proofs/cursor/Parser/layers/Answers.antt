-- The parts are the ceded layers.
use Rattle.dl_parser.proofs.Common.{layers}
use Rattle.dl_parser.proofs.cursor.Parser.layers.Goals as goal

pub returns-clause-reads : goal.returns-clause-reads
unfolding layers
returns-clause-reads c = c.parts.ensures.reads
