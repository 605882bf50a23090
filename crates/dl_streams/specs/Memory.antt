-- What the sources and the sink over memory show.
use Rattle.std.specs.Prelude.{ℕ, List}
use Rattle.dl_streams.specs.Faults.{Calls}

-- of a source that never fails: the bytes left, and the most that one read gives
pub record SteadyView : Type 0 where
  pub left : List ℕ
  pub piece : ℕ

-- of a source that fails on purpose: the bytes left, the most that one read gives, and the calls
pub record SourceView : Type 0 where
  pub left : List ℕ
  pub piece : ℕ
  pub calls : Calls

-- of a sink over memory: the bytes held, how many more it has room for, the most that one write
-- takes, and the calls
pub record SinkView : Type 0 where
  pub held : List ℕ
  pub room : ℕ
  pub piece : ℕ
  pub calls : Calls
