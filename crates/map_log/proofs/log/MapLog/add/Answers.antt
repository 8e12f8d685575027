use Rattle.std.proofs.Common.{◌++◌, ◌∷◌, [], List, ℕ, refl}
use Rattle.records.specs.Maplog.{mappings_after}
use Rattle.map_log.specs.Log.{MapArea}
use Rattle.map_log.proofs.Records.{maplog_more, puts_there}
use Rattle.map_log.proofs.log.MapLog.add.Goals as goal

pub returns-clause-cause : goal.returns-clause-cause
returns-clause-cause g c = rw (← c.self.view_is) c.append.ensures.cause

pub returns-clause-puts : goal.returns-clause-puts
returns-clause-puts g c =
    let old : MapArea = record { area = c.self.inside.log; version = c.self.inside.version; page_count = c.self.inside.page_count; capacity = c.self.inside.capacity } in
    let new : MapArea = record { area = c.append.new.self; version = c.self.inside.version; page_count = c.self.inside.page_count; capacity = c.self.inside.capacity } in
    rw (← c.self.view_is)
    (λ honest mappings entry keeps more.
    puts_there old new c.self.invariant mappings (mappings_after mappings entry) g.D.Disk.remembers g.D.Disk.state g.D.Disk.clock c.args.disk.now c.append.new.disk c.append.result keeps c.append.new.self
    (λ (bodies : List (List ℕ)). bodies ++ c.args.framed.now ∷ []) (c.append.ensures.writes honest) refl
    (maplog_more old.version old.page_count old.capacity keeps.bodies mappings c.args.framed.now entry keeps.stands more))
