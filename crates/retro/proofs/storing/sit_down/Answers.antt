use Rattle.std.proofs.Common.{◌≡◌, ◌∙◌, ◌++◌, ◌∷◌, ◌≤◌, ℕ, List, [], Some, ap, append-nil, append_assoc, arith, length, slice_get, subst, sym}
use Rattle.std.specs.Prelude.{vec_len}
use Rattle.std.proofs.lemmas.Option.{slice_get_within}
use Rattle.turn.specs.Tables.{table_of}
use Rattle.store.specs.Seats.{Sat}
use Rattle.retro.specs.Storing.{AreHeld}
use Rattle.retro.specs.declared.slots.Slot.{Slot}
use Rattle.retro.proofs.Stored.{held_long, held_on, next_at, none_in}
use Rattle.retro.proofs.storing.sit_down.Goals as goal

pub loop-seat-init : goal.loop-seat-init
loop-seat-init g c = record {
  split = c.into_iter-seat-iterator.ensures.into_iter_gives.0;
  held = subst (λ (xs : List (Slot _)). AreHeld g.D.Disk.state g.D.Disk.faults (table_of c.args.store.now.turn) [] xs) (sym c.requires.none) tt;
  room = c.requires.room;
}

pub new-held-requires-clause-ready : goal.new-held-requires-clause-ready
new-held-requires-clause-ready g c =
    let before = c.loop-seat.invariant in
    let there = subst (λ (xs : List (Sat _)). slice_get xs (length c.loop-seat.yielded) ≡ Some c.in-Some.seat) (ap (λ l. c.loop-seat.yielded ++ l) (sym c.in-Some.ensures.steps.0) ∙ before.split) (next_at c.loop-seat.yielded c.in-Some.seat _) in
    c.requires.ready (length c.loop-seat.yielded) c.in-Some.seat there

pub new-held-requires-clause-sized : goal.new-held-requires-clause-sized
new-held-requires-clause-sized g c =
    let before = c.loop-seat.invariant in
    let there = subst (λ (xs : List (Sat _)). slice_get xs (length c.loop-seat.yielded) ≡ Some c.in-Some.seat) (ap (λ l. c.loop-seat.yielded ++ l) (sym c.in-Some.ensures.steps.0) ∙ before.split) (next_at c.loop-seat.yielded c.in-Some.seat _) in
    (c.requires.fresh (length c.loop-seat.yielded) c.in-Some.seat there).0

pub new-held-requires-clause-idle : goal.new-held-requires-clause-idle
new-held-requires-clause-idle g c =
    let before = c.loop-seat.invariant in
    let there = subst (λ (xs : List (Sat _)). slice_get xs (length c.loop-seat.yielded) ≡ Some c.in-Some.seat) (ap (λ l. c.loop-seat.yielded ++ l) (sym c.in-Some.ensures.steps.0) ∙ before.split) (next_at c.loop-seat.yielded c.in-Some.seat _) in
    (c.requires.fresh (length c.loop-seat.yielded) c.in-Some.seat there).2

pub push_reserved-requires : goal.push_reserved-requires
push_reserved-requires g c =
    let before = c.loop-seat.invariant in
    let there = subst (λ (xs : List (Sat _)). slice_get xs (length c.loop-seat.yielded) ≡ Some c.in-Some.seat) (ap (λ l. c.loop-seat.yielded ++ l) (sym c.in-Some.ensures.steps.0) ∙ before.split) (next_at c.loop-seat.yielded c.in-Some.seat _) in
    let len : vec_len c.loop-seat.slots ≡ length c.loop-seat.slots.items = c.loop-seat.slots.ok.0 in
    let long = held_long g.D.Disk.state g.D.Disk.faults (table_of c.args.store.now.turn) c.loop-seat.yielded c.loop-seat.slots.items before.held in
    let less = slice_get_within c.args.seats.items (length c.loop-seat.yielded) c.in-Some.seat there in
    let room = before.room in
    omega (arith, len, long, less, room)

pub loop-seat-preserved : goal.loop-seat-preserved
loop-seat-preserved g c =
    let before = c.loop-seat.invariant in
    let z = table_of c.args.store.now.turn in
    record {
      split = append_assoc c.loop-seat.yielded _ _ ∙ ap (λ l. c.loop-seat.yielded ++ l) (sym c.in-Some.ensures.steps.0) ∙ before.split;
      held = subst (λ (xs : List (Slot _)). AreHeld g.D.Disk.state g.D.Disk.faults z (c.loop-seat.yielded ++ c.in-Some.seat ∷ []) xs) (sym c.push_reserved.ensures.items)
          (held_on g.D.Disk.state g.D.Disk.faults z c.loop-seat.yielded c.loop-seat.slots.items c.in-Some.seat c.new.result c.new-held.result before.held c.new.ensures
          (record { seat_is = c.new-held.ensures.seat; store_is = c.new-held.ensures.store; number_is = c.new-held.ensures.session; front_is = c.new-held.ensures.front; idle = c.new-held.ensures.idle }));
      room = subst (λ (n : ℕ). length c.args.seats.items ≤ n) (sym c.push_reserved.ensures.capacity) before.room;
    }

pub returns : goal.returns
returns g c =
    let before = c.loop-seat.invariant in
    let left = c.loop-seat.seat-iterator.rest in
    let none = none_in left.items (sym left.ok.0 ∙ c.in-None.ensures.steps.0) in
    subst (λ (ss : List (Sat _)). AreHeld g.D.Disk.state g.D.Disk.faults (table_of c.args.store.now.turn) ss c.loop-seat.slots.items)
    (sym (append-nil c.loop-seat.yielded) ∙ ap (λ l. c.loop-seat.yielded ++ l) (sym none) ∙ before.split) before.held
