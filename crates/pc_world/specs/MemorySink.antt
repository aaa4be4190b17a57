-- What a sink in memory shows.
use Rattle.std.specs.Prelude.{ℕ, List}
use Rattle.pc_world.specs.declared.memory_sink.MemorySink.{MemorySink}

-- what was written
abbrev pub bytes_of : MemorySink → List ℕ
bytes_of sink = sink.bytes.items
