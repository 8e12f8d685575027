use Rattle.std.proofs.Common.{◌∙◌, Ok, Err, subst, sym}
use Rattle.turn.specs.Tables.{table_of}
use Rattle.store.specs.Rounds.{IsRoom, MayAskAgain}
use Rattle.store.proofs.Asking.{not_again, not_room, open_on, open_serves, room_passes}
use Rattle.store.proofs.Meeting.{work_stays}
use Rattle.store.proofs.Passing.{passes_none, passes_on, passes_whole}
use Rattle.store.proofs.Reaching.{ends_after, made_passes, refused_same, same_on}
use Rattle.store.proofs.Rooming.{answered, leads_asked, leads_here, not_made, room_ends}
use Rattle.store.proofs.shared.Store.commit.Goals as goal

pub ask-init : goal.ask-init
ask-init g c = record { passes = passes_none (table_of c.args.self.now.turn) c.args.seat.now c.requires.ready.0; leads = λ t is. leads_here g.D.Disk.is_honest g.D.Disk.state g.D.Disk.faults (table_of c.args.self.now.turn) g.D.Disk.remembers g.D.Disk.clock c.args.who _ c.args.seat.now }

pub ask_commit-requires-clause-ready : goal.ask_commit-requires-clause-ready
ask_commit-requires-clause-ready g c = (c.ask.invariant.passes.ready, passes_whole (table_of c.args.self.now.turn) c.args.seat.now c.ask.seat c.ask.invariant.passes c.requires.ready.1)

pub ask_commit-requires-clause-own : goal.ask_commit-requires-clause-own
ask_commit-requires-clause-own g c = c.requires.own ∙ sym c.ask.invariant.passes.stays.same.number

pub ask_commit-requires-clause-is_open : goal.ask_commit-requires-clause-is_open
ask_commit-requires-clause-is_open g c = open_on (table_of c.args.self.now.turn) c.args.seat.now c.ask.seat c.args.who c.ask.invariant.passes c.requires.is_open

pub returns-in-Ok-clause-same : goal.returns-in-Ok-clause-same
returns-in-Ok-clause-same g c = same_on c.args.seat.now c.ask.seat c.ask_commit.new.seat c.ask.invariant.passes.stays.same c.in-Ok.ensures.same

pub returns-in-Ok-clause-answers : goal.returns-in-Ok-clause-answers
returns-in-Ok-clause-answers g c = λ t is. answered g.D.Disk.is_honest g.D.Disk.state g.D.Disk.faults (table_of c.args.self.now.turn) g.D.Disk.remembers g.D.Disk.clock c.args.who _ c.args.seat.now c.ask.seat c.ask_commit.new.seat (c.ask.invariant.leads t is) (Ok c.in-Ok.number) (c.in-Ok.ensures.visits t (work_stays c.args.seat.now c.ask.seat c.ask.invariant.passes.stays ∙ is)) (λ x. x)

pub returns-in_default : goal.returns-in_default
returns-in_default g c = record {
  ready = c.in-Err.ensures.ready;
  ended = tt;
  same = same_on c.args.seat.now c.ask.seat c.ask_commit.new.seat c.ask.invariant.passes.stays.same c.in-Err.ensures.same;
  answers = λ t is. answered g.D.Disk.is_honest g.D.Disk.state g.D.Disk.faults (table_of c.args.self.now.turn) g.D.Disk.remembers g.D.Disk.clock c.args.who _ c.args.seat.now c.ask.seat c.ask_commit.new.seat (c.ask.invariant.leads t is) (Err c.in-Err.why) (c.in-Err.ensures.visits t (work_stays c.args.seat.now c.ask.seat c.ask.invariant.passes.stays ∙ is)) (not_room c.in-Err.why c.in_default.not-NoRoom);
}

pub make_room-requires-clause-own : goal.make_room-requires-clause-own
make_room-requires-clause-own g c = c.requires.own ∙ sym (same_on c.args.seat.now c.ask.seat c.ask_commit.new.seat c.ask.invariant.passes.stays.same c.in-Err.ensures.same).number

pub make_room-requires-clause-serve : goal.make_room-requires-clause-serve
make_room-requires-clause-serve g c =
    let o = c.requires.is_open in
    let p = passes_on (table_of c.args.self.now.turn) c.args.seat.now c.ask.seat c.ask.invariant.passes c.ask_commit.new.seat (room_passes g.D.Disk.is_honest g.D.Disk.state g.D.Disk.faults (table_of c.args.self.now.turn) g.D.Disk.remembers g.D.Disk.clock c.args.who _ o.transaction c.ask.seat c.ask_commit.new.seat c.ask.invariant.passes.ready (c.requires.own ∙ sym c.ask.invariant.passes.stays.same.number) (work_stays c.args.seat.now c.ask.seat c.ask.invariant.passes.stays ∙ o.open_there) c.in-Err.why (subst IsRoom (sym c.in-NoRoom.is) tt) (c.in-Err.ensures.visits o.transaction (work_stays c.args.seat.now c.ask.seat c.ask.invariant.passes.stays ∙ o.open_there))) in
    open_serves c.ask_commit.new.seat c.args.who (open_on (table_of c.args.self.now.turn) c.args.seat.now c.ask_commit.new.seat c.args.who p o)

pub ask-preserved-in-Ok-make_room : goal.ask-preserved-in-Ok-make_room
ask-preserved-in-Ok-make_room g c = record {
  passes =
      let o = c.requires.is_open in
      let p = passes_on (table_of c.args.self.now.turn) c.args.seat.now c.ask.seat c.ask.invariant.passes c.ask_commit.new.seat (room_passes g.D.Disk.is_honest g.D.Disk.state g.D.Disk.faults (table_of c.args.self.now.turn) g.D.Disk.remembers g.D.Disk.clock c.args.who _ o.transaction c.ask.seat c.ask_commit.new.seat c.ask.invariant.passes.ready (c.requires.own ∙ sym c.ask.invariant.passes.stays.same.number) (work_stays c.args.seat.now c.ask.seat c.ask.invariant.passes.stays ∙ o.open_there) c.in-Err.why (subst IsRoom (sym c.in-NoRoom.is) tt) (c.in-Err.ensures.visits o.transaction (work_stays c.args.seat.now c.ask.seat c.ask.invariant.passes.stays ∙ o.open_there))) in
      passes_on (table_of c.args.self.now.turn) c.args.seat.now c.ask_commit.new.seat p c.make_room.new.seat (made_passes g.D.Disk.is_honest g.D.Disk.state g.D.Disk.faults (table_of c.args.self.now.turn) c.args.who (Ok _) c.ask_commit.new.seat c.make_room.new.seat tt (room_ends g.D.Disk.is_honest g.D.Disk.state g.D.Disk.faults (table_of c.args.self.now.turn) g.D.Disk.remembers g.D.Disk.clock c.args.who c.in-NoRoom.needed c.in-Ok-make_room.ensures.makes p.ready));
  leads = λ t is. leads_asked g.D.Disk.is_honest g.D.Disk.state g.D.Disk.faults (table_of c.args.self.now.turn) g.D.Disk.remembers g.D.Disk.clock c.args.who _ c.args.seat.now c.ask.seat c.ask_commit.new.seat (c.ask.invariant.leads t is) c.in-Err.why c.in-NoRoom.needed _ c.in-NoRoom.is (c.in-Err.ensures.visits t (work_stays c.args.seat.now c.ask.seat c.ask.invariant.passes.stays ∙ is)) c.make_room.new.seat (Ok _) c.in-Ok-make_room.ensures.makes tt;
}

pub ask-preserved : goal.ask-preserved
ask-preserved g c = record {
  passes =
      let o = c.requires.is_open in
      let p = passes_on (table_of c.args.self.now.turn) c.args.seat.now c.ask.seat c.ask.invariant.passes c.ask_commit.new.seat (room_passes g.D.Disk.is_honest g.D.Disk.state g.D.Disk.faults (table_of c.args.self.now.turn) g.D.Disk.remembers g.D.Disk.clock c.args.who _ o.transaction c.ask.seat c.ask_commit.new.seat c.ask.invariant.passes.ready (c.requires.own ∙ sym c.ask.invariant.passes.stays.same.number) (work_stays c.args.seat.now c.ask.seat c.ask.invariant.passes.stays ∙ o.open_there) c.in-Err.why (subst IsRoom (sym c.in-NoRoom.is) tt) (c.in-Err.ensures.visits o.transaction (work_stays c.args.seat.now c.ask.seat c.ask.invariant.passes.stays ∙ o.open_there))) in
      passes_on (table_of c.args.self.now.turn) c.args.seat.now c.ask_commit.new.seat p c.make_room.new.seat (made_passes g.D.Disk.is_honest g.D.Disk.state g.D.Disk.faults (table_of c.args.self.now.turn) c.args.who (Err c.in-Err-make_room.why) c.ask_commit.new.seat c.make_room.new.seat (subst (λ why. MayAskAgain (Err why)) (sym c.in-Stopped.is) tt) (room_ends g.D.Disk.is_honest g.D.Disk.state g.D.Disk.faults (table_of c.args.self.now.turn) g.D.Disk.remembers g.D.Disk.clock c.args.who c.in-NoRoom.needed c.in-Err-make_room.ensures.makes p.ready));
  leads = λ t is. leads_asked g.D.Disk.is_honest g.D.Disk.state g.D.Disk.faults (table_of c.args.self.now.turn) g.D.Disk.remembers g.D.Disk.clock c.args.who _ c.args.seat.now c.ask.seat c.ask_commit.new.seat (c.ask.invariant.leads t is) c.in-Err.why c.in-NoRoom.needed _ c.in-NoRoom.is (c.in-Err.ensures.visits t (work_stays c.args.seat.now c.ask.seat c.ask.invariant.passes.stays ∙ is)) c.make_room.new.seat (Err c.in-Err-make_room.why) c.in-Err-make_room.ensures.makes (subst (λ why. MayAskAgain (Err why)) (sym c.in-Stopped.is) tt);
}

pub returns-in_default-why : goal.returns-in_default-why
returns-in_default-why g c =
    let o = c.requires.is_open in
    let p = passes_on (table_of c.args.self.now.turn) c.args.seat.now c.ask.seat c.ask.invariant.passes c.ask_commit.new.seat (room_passes g.D.Disk.is_honest g.D.Disk.state g.D.Disk.faults (table_of c.args.self.now.turn) g.D.Disk.remembers g.D.Disk.clock c.args.who _ o.transaction c.ask.seat c.ask_commit.new.seat c.ask.invariant.passes.ready (c.requires.own ∙ sym c.ask.invariant.passes.stays.same.number) (work_stays c.args.seat.now c.ask.seat c.ask.invariant.passes.stays ∙ o.open_there) c.in-Err.why (subst IsRoom (sym c.in-NoRoom.is) tt) (c.in-Err.ensures.visits o.transaction (work_stays c.args.seat.now c.ask.seat c.ask.invariant.passes.stays ∙ o.open_there))) in
    let refused = ends_after g.D.Disk.is_honest g.D.Disk.state g.D.Disk.faults (table_of c.args.self.now.turn) c.args.who {T = Unit {0}} (Err c.in-Err-make_room.why) c.args.seat.now c.ask_commit.new.seat c.make_room.new.seat p (room_ends g.D.Disk.is_honest g.D.Disk.state g.D.Disk.faults (table_of c.args.self.now.turn) g.D.Disk.remembers g.D.Disk.clock c.args.who c.in-NoRoom.needed c.in-Err-make_room.ensures.makes p.ready) in
    record {
      ready = c.in-Err-make_room.ensures.ready;
      ended = tt;
      same = refused_same g.D.Disk.is_honest g.D.Disk.state g.D.Disk.faults (table_of c.args.self.now.turn) c.args.who c.in-Err-make_room.why c.args.seat.now c.make_room.new.seat refused;
      answers = λ t is. not_made g.D.Disk.is_honest g.D.Disk.state g.D.Disk.faults (table_of c.args.self.now.turn) g.D.Disk.remembers g.D.Disk.clock c.args.who _ c.args.seat.now c.ask.seat c.ask_commit.new.seat (c.ask.invariant.leads t is) c.in-Err.why c.in-NoRoom.needed _ c.in-NoRoom.is (c.in-Err.ensures.visits t (work_stays c.args.seat.now c.ask.seat c.ask.invariant.passes.stays ∙ is)) c.make_room.new.seat c.in-Err-make_room.why c.in-Err-make_room.ensures.makes (not_again c.in-Err-make_room.why c.in_default-why.not-Stopped);
    }
