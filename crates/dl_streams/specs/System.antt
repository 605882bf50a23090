-- What a clause reads of a source and a sink over std's reader and writer.
use Rattle.std.specs.Prelude.{ℕ}
use Rattle.dl_streams.specs.declared.system.StdSource.{StdSource}
use Rattle.dl_streams.specs.declared.system.StdSink.{StdSink}

-- the reader
abbrev pub source_reader : {R : Type 0} → StdSource R → R
source_reader source = source.inner

-- how many reads have failed
abbrev pub source_faults : {R : Type 0} → StdSource R → ℕ
source_faults source = source.faults

-- the writer
abbrev pub sink_writer : {W : Type 0} → StdSink W → W
sink_writer sink = sink.inner

-- how many writes have failed
abbrev pub sink_faults : {W : Type 0} → StdSink W → ℕ
sink_faults sink = sink.faults
