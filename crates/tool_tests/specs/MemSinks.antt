-- What a sink in memory holds.
use Rattle.std.specs.Prelude.{Some}
use Rattle.top_calls.specs.Sinks.{Held}
use Rattle.tool_tests.specs.declared.mem_sink.MemSink.{MemSink}

abbrev pub held_of : MemSink → Held
held_of s = record { bytes = Some s.bytes; faults = s.faults }
