-- A CSV writer between two records.
use Rattle.std.specs.Prelude.{◌≡◌, ℕ, false, List, ◌++◌, Vec}
use Rattle.std.specs.declared.alloc.Global.{Global}
use Rattle.csv.specs.Writing.{default_writer, fields_written, has_written, writer_pending, writer_setup, writer_under}
use Rattle.csv.specs.declared.writer.Writer.{Writer}

-- the writer has the defaults, is between two records, and has written this text
pub record HasWritten (writer : Writer (Vec ℕ Global)) (text : List ℕ) : Type 0 where
  pub setup : writer_setup writer ≡ default_writer
  pub fields : fields_written writer ≡ 0
  pub wrote : has_written writer ≡ false
  pub written : (writer_under writer).items ++ writer_pending writer ≡ text
