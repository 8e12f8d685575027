use Rattle.std.proofs.Common.{◌≡◌, ◌+◌, List, length}
use Rattle.history.specs.declared.journal.Line.{Line}
use Rattle.journal_law.specs.Lawful.{Ground}
use Rattle.session.specs.Replies.{kept_by_place}
use Rattle.retro.specs.Phases.{HasComeTo, StandTogether}
use Rattle.retro.specs.Slots.{AllCome, AreHonest, view_at}
use Rattle.retro.specs.Working.{MayWorkOn}
use Rattle.retro.proofs.phases.run_phases.Given as goal

abbrev pub invariant-loop-index : goal.invariant-loop-index
invariant-loop-index g l = record {
  come : AllCome g.S.Seat.view g.S.Seat.goes l.initial.slots l.slots;
  may : MayWorkOn g.S.Seat.view l.slots;
  long : length l.kept ≡ l.index;
  ran : AreHonest g.S.Seat.is_honest l.initial.slots → (ground : Ground) (front : List Line) →
      StandTogether ground.base.page_count l.plan ground (length l.initial.slots) 1 front (view_at g.S.Seat.view l.initial.slots) →
      HasComeTo ground.base.page_count l.plan ground (length l.initial.slots) (l.index + 1) (kept_by_place l.kept) (view_at g.S.Seat.view l.slots);
}
