use Rattle.std.proofs.Common.{◌∙◌, Ok, Err, refl, subst, sym}
use Rattle.turn.specs.Tables.{table_of}
use Rattle.store.specs.Rounds.{IsRoom, MayAskAgain}
use Rattle.store.proofs.Asking.{not_again, not_room}
use Rattle.store.proofs.Dropping.{kept_still}
use Rattle.store.proofs.Reaching.{made_passes, refused_same, same_on}
use Rattle.store.proofs.Redropping.{kept_on, kept_serves, refused_closed}
use Rattle.store.proofs.Rooming.{answered, leads_asked, leads_here, not_made, room_ends}
use Rattle.store.proofs.shared.Store.asked_drop.Goals as goal

pub ask-init : goal.ask-init
ask-init g c = record { ready = c.requires.ready; is_closed = c.requires.is_closed; same = record { id = refl; number = refl; opening = refl }; leads = leads_here g.D.Disk.is_honest g.D.Disk.state g.D.Disk.faults (table_of c.args.self.now.turn) g.D.Disk.remembers g.D.Disk.clock c.args.who _ c.args.seat.now }

pub ask_drop-requires-clause-own : goal.ask_drop-requires-clause-own
ask_drop-requires-clause-own g c = c.requires.own ∙ sym c.ask.invariant.same.number

pub returns-in-Ok-clause-same : goal.returns-in-Ok-clause-same
returns-in-Ok-clause-same g c = same_on c.args.seat.now c.ask.seat c.ask_drop.new.seat c.ask.invariant.same c.in-Ok.ensures.visits.visited.same

pub returns-in-Ok-clause-answers : goal.returns-in-Ok-clause-answers
returns-in-Ok-clause-answers g c = answered g.D.Disk.is_honest g.D.Disk.state g.D.Disk.faults (table_of c.args.self.now.turn) g.D.Disk.remembers g.D.Disk.clock c.args.who _ c.args.seat.now c.ask.seat c.ask_drop.new.seat c.ask.invariant.leads (Ok tt) c.in-Ok.ensures.visits (λ x. x)

pub returns-in_default : goal.returns-in_default
returns-in_default g c = record {
  ready = c.in-Err.ensures.ready;
  is_closed = c.in-Err.ensures.is_closed;
  same = (same_on c.args.seat.now c.ask.seat c.ask_drop.new.seat c.ask.invariant.same c.in-Err.ensures.visits.visited.same);
  answers = answered g.D.Disk.is_honest g.D.Disk.state g.D.Disk.faults (table_of c.args.self.now.turn) g.D.Disk.remembers g.D.Disk.clock c.args.who _ c.args.seat.now c.ask.seat c.ask_drop.new.seat c.ask.invariant.leads (Err c.in-Err.why) c.in-Err.ensures.visits (not_room c.in-Err.why c.in_default.not-NoRoom);
}

pub make_room-requires-clause-own : goal.make_room-requires-clause-own
make_room-requires-clause-own g c = (c.requires.own ∙ sym (same_on c.args.seat.now c.ask.seat c.ask_drop.new.seat c.ask.invariant.same c.in-Err.ensures.visits.visited.same).number)

pub make_room-requires-clause-serve : goal.make_room-requires-clause-serve
make_room-requires-clause-serve g c = kept_serves (table_of c.args.self.now.turn) c.args.who c.ask_drop.new.seat (c.in-Err.ensures.kept (subst IsRoom (sym c.in-NoRoom.is) tt))

pub ask-preserved-in-Ok-make_room : goal.ask-preserved-in-Ok-make_room
ask-preserved-in-Ok-make_room g c =
    let passes = made_passes g.D.Disk.is_honest g.D.Disk.state g.D.Disk.faults (table_of c.args.self.now.turn) c.args.who (Ok tt) c.ask_drop.new.seat c.make_room.new.seat tt (room_ends g.D.Disk.is_honest g.D.Disk.state g.D.Disk.faults (table_of c.args.self.now.turn) g.D.Disk.remembers g.D.Disk.clock c.args.who c.in-NoRoom.needed c.in-Ok-make_room.ensures.makes c.in-Err.ensures.ready.0) in
    record {
      ready = c.in-Ok-make_room.ensures.ready;
      is_closed = kept_still c.args.who _ (kept_on (table_of c.args.self.now.turn) c.args.who c.ask_drop.new.seat c.make_room.new.seat passes (c.in-Err.ensures.kept (subst IsRoom (sym c.in-NoRoom.is) tt)));
      same = same_on c.args.seat.now c.ask_drop.new.seat c.make_room.new.seat (same_on c.args.seat.now c.ask.seat c.ask_drop.new.seat c.ask.invariant.same c.in-Err.ensures.visits.visited.same) passes.stays.same;
      leads = leads_asked g.D.Disk.is_honest g.D.Disk.state g.D.Disk.faults (table_of c.args.self.now.turn) g.D.Disk.remembers g.D.Disk.clock c.args.who _ c.args.seat.now c.ask.seat c.ask_drop.new.seat c.ask.invariant.leads c.in-Err.why c.in-NoRoom.needed _ c.in-NoRoom.is c.in-Err.ensures.visits c.make_room.new.seat (Ok tt) c.in-Ok-make_room.ensures.makes tt;
    }

pub ask-preserved : goal.ask-preserved
ask-preserved g c =
    let passes = made_passes g.D.Disk.is_honest g.D.Disk.state g.D.Disk.faults (table_of c.args.self.now.turn) c.args.who (Err c.in-Err-make_room.why) c.ask_drop.new.seat c.make_room.new.seat (subst (λ why. MayAskAgain (Err why)) (sym c.in-Stopped.is) tt) (room_ends g.D.Disk.is_honest g.D.Disk.state g.D.Disk.faults (table_of c.args.self.now.turn) g.D.Disk.remembers g.D.Disk.clock c.args.who c.in-NoRoom.needed c.in-Err-make_room.ensures.makes c.in-Err.ensures.ready.0) in
    record {
      ready = c.in-Err-make_room.ensures.ready;
      is_closed = kept_still c.args.who _ (kept_on (table_of c.args.self.now.turn) c.args.who c.ask_drop.new.seat c.make_room.new.seat passes (c.in-Err.ensures.kept (subst IsRoom (sym c.in-NoRoom.is) tt)));
      same = same_on c.args.seat.now c.ask_drop.new.seat c.make_room.new.seat (same_on c.args.seat.now c.ask.seat c.ask_drop.new.seat c.ask.invariant.same c.in-Err.ensures.visits.visited.same) passes.stays.same;
      leads = leads_asked g.D.Disk.is_honest g.D.Disk.state g.D.Disk.faults (table_of c.args.self.now.turn) g.D.Disk.remembers g.D.Disk.clock c.args.who _ c.args.seat.now c.ask.seat c.ask_drop.new.seat c.ask.invariant.leads c.in-Err.why c.in-NoRoom.needed _ c.in-NoRoom.is c.in-Err.ensures.visits c.make_room.new.seat (Err c.in-Err-make_room.why) c.in-Err-make_room.ensures.makes (subst (λ why. MayAskAgain (Err why)) (sym c.in-Stopped.is) tt);
    }

pub returns-in_default-why : goal.returns-in_default-why
returns-in_default-why g c =
    let refused = room_ends g.D.Disk.is_honest g.D.Disk.state g.D.Disk.faults (table_of c.args.self.now.turn) g.D.Disk.remembers g.D.Disk.clock c.args.who c.in-NoRoom.needed c.in-Err-make_room.ensures.makes c.in-Err.ensures.ready.0 in
    record {
      ready = c.in-Err-make_room.ensures.ready;
      is_closed = refused_closed g.D.Disk.is_honest g.D.Disk.state g.D.Disk.faults (table_of c.args.self.now.turn) g.D.Disk.remembers g.D.Disk.clock c.args.who c.args.below c.ask_drop.new.seat c.make_room.new.seat (c.requires.own ∙ sym (same_on c.args.seat.now c.ask.seat c.ask_drop.new.seat c.ask.invariant.same c.in-Err.ensures.visits.visited.same).number) (c.in-Err.ensures.kept (subst IsRoom (sym c.in-NoRoom.is) tt)) c.in-Err-make_room.why refused;
      same = same_on c.args.seat.now c.ask_drop.new.seat c.make_room.new.seat (same_on c.args.seat.now c.ask.seat c.ask_drop.new.seat c.ask.invariant.same c.in-Err.ensures.visits.visited.same) (refused_same g.D.Disk.is_honest g.D.Disk.state g.D.Disk.faults (table_of c.args.self.now.turn) c.args.who c.in-Err-make_room.why c.ask_drop.new.seat c.make_room.new.seat refused);
      answers = not_made g.D.Disk.is_honest g.D.Disk.state g.D.Disk.faults (table_of c.args.self.now.turn) g.D.Disk.remembers g.D.Disk.clock c.args.who _ c.args.seat.now c.ask.seat c.ask_drop.new.seat c.ask.invariant.leads c.in-Err.why c.in-NoRoom.needed _ c.in-NoRoom.is c.in-Err.ensures.visits c.make_room.new.seat c.in-Err-make_room.why c.in-Err-make_room.ensures.makes (not_again c.in-Err-make_room.why c.in_default-why.not-Stopped);
    }
