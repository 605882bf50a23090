-- The reader gave these bytes.
use Rattle.dl_streams.proofs.system.StdSourceSource.read.Goals as goal

pub returns-in-Ok-clause-reader : goal.returns-in-Ok-clause-reader
returns-in-Ok-clause-reader g c = c.in-Ok.ensures.bytes
