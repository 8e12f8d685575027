use Rattle.std.proofs.Common.{◌≡◌, ◌∙◌, ◌∷◌, ◌≤◌, [], List, arith, length, refl, sym, subst}
use Rattle.std.specs.Prelude.{vec_len}
use Rattle.std.proofs.lemmas.Bool.Decides.{nat_tests}
use Rattle.turn.specs.Tables.{table_of}
use Rattle.store.specs.Seats.{Sat}
use Rattle.store.specs.declared.held.Held.{Held}
use Rattle.retro.specs.Storing.{MayRest}
use Rattle.retro.proofs.Stored.{HaveRisen, all_risen, last_in, none_risen, room_left, seat_risen}
use Rattle.retro.proofs.Seated.{one_seat}
use Rattle.retro.proofs.storing.stand_up.Goals as goal

pub loop-slots-init : goal.loop-slots-init
loop-slots-init g c = record { risen = ([], none_risen g.D.Disk.state g.D.Disk.faults (table_of c.args.store.now.turn) c.args.slots.items c.args.seats.items c.requires.none); room = c.requires.room }

pub push_reserved-requires : goal.push_reserved-requires
push_reserved-requires g c =
    let before = c.loop-slots.invariant in
    let len : vec_len c.loop-slots.seats ≡ length c.loop-slots.seats.items = c.loop-slots.seats.ok.0 in
    let less = room_left g.D.Disk.state g.D.Disk.faults (table_of c.args.store.now.turn) c.args.slots.items c.loop-slots.slots.items c.take_last.new.self.items before.risen.0 c.take_last.result c.loop-slots.seats.items before.risen.1 c.take_last.ensures.items in
    let room = before.room in
    omega (arith, len, less, room)

pub into_seat-held-requires : goal.into_seat-held-requires
into_seat-held-requires g c =
    let before = c.loop-slots.invariant in
    let found = last_in g.D.Disk.state g.D.Disk.faults (table_of c.args.store.now.turn) c.args.slots.items c.loop-slots.slots.items c.take_last.new.self.items before.risen.0 c.take_last.result c.loop-slots.seats.items before.risen.1 c.take_last.ensures.items c.requires.held in
    record { there = rw found.1 refl }

pub loop-slots-preserved : goal.loop-slots-preserved
loop-slots-preserved g c =
    let before = c.loop-slots.invariant in
    let z = table_of c.args.store.now.turn in
    let found = last_in g.D.Disk.state g.D.Disk.faults z c.args.slots.items c.loop-slots.slots.items c.take_last.new.self.items before.risen.0 c.take_last.result c.loop-slots.seats.items before.risen.1 c.take_last.ensures.items c.requires.held in
    let store = subst (λ (h : Held g.row.R.Denot g.row.D.Denot). (table_of h.store.now.turn ≡ z) × MayRest g.D.Disk.state g.D.Disk.faults h.seat) (one_seat (Held g.row.R.Denot g.row.D.Denot) found.0 c.into_seat-held.result (sym found.1 ∙ c.into_seat-held.ensures)) (found.2, found.3) in
    record {
      risen = (
        c.take_last.result ∷ before.risen.0,
        subst (λ (ss : List (Sat _)). HaveRisen g.D.Disk.state g.D.Disk.faults z c.args.slots.items c.take_last.new.self.items (c.take_last.result ∷ before.risen.0) ss) (sym c.push_reserved.ensures.items)
            (seat_risen g.D.Disk.state g.D.Disk.faults z c.args.slots.items c.loop-slots.slots.items c.take_last.new.self.items before.risen.0 c.take_last.result c.into_seat-held.result c.loop-slots.seats.items c.into_seat.result before.risen.1
            c.take_last.ensures.items c.into_seat-held.ensures store c.into_seat.ensures.ready c.into_seat.ensures.seat),
      );
      room = subst (λ n. length c.args.slots.items ≤ n) (sym c.push_reserved.ensures.capacity) before.room;
    }

pub returns : goal.returns
returns g c =
    let before = c.loop-slots.invariant in
    let len : vec_len c.loop-slots.slots ≡ length c.loop-slots.slots.items = c.loop-slots.slots.ok.0 in
    let none : vec_len c.loop-slots.slots ≡ 0 = grind (arith, nat_tests, sym c.is_empty.ensures ∙ c.loop-slots-test.false) in
    let all = all_risen g.D.Disk.state g.D.Disk.faults (table_of c.args.store.now.turn) c.args.slots.items c.loop-slots.slots.items before.risen.0 c.loop-slots.seats.items before.risen.1 (sym len ∙ none) in
    record { count = all.0; ready = all.1; rest = all.2; among = all.3; of = all.4 }
