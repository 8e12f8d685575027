use Rattle.std.proofs.Common.{◌≡◌, ◌+◌, ◌*◌, ◌++◌, length, take}
use Rattle.std.specs.List.{flat_map}
use Rattle.retro_base.specs.Fields.{field_bytes}
use Rattle.records.specs.Entries.{page_width}
use Rattle.records.proofs.encoding.put_pages.Given as goal

abbrev pub invariant-loop-page : goal.invariant-loop-page
invariant-loop-page l = record {
  bytes : l.out ≡ l.fn.out ++ flat_map (field_bytes (page_width l.version)) (take l.page-index l.pages);
  count : length l.out ≡ length l.fn.out + page_width l.version * l.page-index;
}
