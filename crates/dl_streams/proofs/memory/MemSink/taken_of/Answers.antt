-- What is left of the room bounds it.
use Rattle.std.proofs.Common.{arith}
use Rattle.dl_streams.proofs.memory.MemSink.taken_of.Goals as goal

pub returns : goal.returns
returns c = rw (← c.self.view_is) (omega (arith, c.len.ensures, c.min.ensures, c.min-2.ensures))
