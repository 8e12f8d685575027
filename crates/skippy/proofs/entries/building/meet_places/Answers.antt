use Rattle.std.proofs.Common.{◌≡◌, ◌∙◌, ◌+◌, drop, sym, ap}
use Rattle.skippy.specs.Segments.{from_start, meet_each}
use Rattle.skippy.proofs.MeetLemmas.{meet_each-more}
use Rattle.skippy.proofs.entries.building.meet_places.Goals as goal
