use Rattle.std.proofs.Common.{◌≡◌, take, List}
use Rattle.records.specs.declared.map_entry.MapEntry.{MapEntry}
use Rattle.gate_log.specs.Bodies.{bodies_of}
use Rattle.records.specs.InTurn.{InTurn, reached}
use Rattle.records.specs.Maplog.{mappings_after, IsMappingBody}
use Rattle.records.proofs.maplog.mappings_of.Given as goal

abbrev pub invariant-loop-count : goal.invariant-loop-count
invariant-loop-count l = (entries : List MapEntry) × InTurn (IsMappingBody l.version l.page_count) mappings_after l.fn.start (take l.count (bodies_of l.bodies)) entries × (l.mappings ≡ reached mappings_after l.fn.start entries)
