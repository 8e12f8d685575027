use Rattle.std.proofs.Common.{◌≡◌, ◌+◌, ◌-◌, ◌*◌, ◌≤◌, ap, arith}
use Rattle.skippy.specs.Mappings.{Mappings, coming}
use Rattle.skippy.specs.Segments.{size_of}
use Rattle.skippy.proofs.ListLemmas.{first_mappings-within}
use Rattle.skippy.proofs.LevelLemmas.{size-most}
use Rattle.skippy.proofs.entries.building.segment_of.Goals as goal

pub to_places-requires : goal.to_places-requires
to_places-requires c =
    let m : Mappings = coming c.args.low c.args.pages.now c.args.more.now in
    let start : c.args.index * c.range_of.result ≡ c.args.index * size_of c.args.height = ap (λ n. c.args.index * n) c.range_of.ensures.same in
    let next : (c.args.index + 1) * size_of c.args.height ≡ c.args.index * size_of c.args.height + size_of c.args.height = omega arith in
    rw start (rw c.in_ok-table.ensures.ok
    (first_mappings-within m (c.args.index * size_of c.args.height) ((c.args.index + 1) * size_of c.args.height) 4294967296 (omega (arith, size-most c.args.height c.requires.height.1))))
