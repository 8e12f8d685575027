use denote.Param.{param}
use denote.Param.Send.{sendable}
use Rattle.std.proofs.Common.{◌≡◌, ◌∙◌, ◌≤◌, List, [], ap, arith, length, sym, subst}
use Rattle.std.specs.Prelude.{vec_capacity, vec_len}
use Rattle.turn.specs.Tables.{table_of}
use Rattle.store.specs.Frames.{GoesOn}
use Rattle.store.specs.Seen.{IsHonest}
use Rattle.store.specs.declared.held.Held.{Held}
use Rattle.retro.specs.Phases.{StandTogether}
use Rattle.retro.specs.Slots.{AllCome, AreHonest, AreSeated, AreTogether, view_at}
use Rattle.retro.specs.Steps.{RunsPhases}
use Rattle.retro.specs.Working.{MayWorkOn}
use Rattle.retro.specs.declared.slots.Slot.{Slot}
use Rattle.retro.specs.Storing.{AreIn, AreOf, IsAmong, store_of, view_held}
use Rattle.retro.proofs.Crossing.{held_send}
use Rattle.retro.proofs.Stored.{all_begin, all_fresh, all_honest, all_in, all_seated, all_stood, all_together, fresh_rest, held_long, none_stood}
use Rattle.store.proofs.LastCopied.{back_again}
use Rattle.retro.proofs.storing.run_seated.Goals as goal

pub returns-in_default-clause-ran : goal.returns-in_default-clause-ran
returns-in_default-clause-ran g c = λ opened each. none_stood g.D.Disk.state g.D.Disk.faults c.args.plan.now opened c.args.store.now.pages c.args.seats.items _ c.requires.fresh (λ k s there. (each k s there).1)

pub returns-in_default-with_capacity-clause-ran : goal.returns-in_default-with_capacity-clause-ran
returns-in_default-with_capacity-clause-ran g c = λ opened each. none_stood g.D.Disk.state g.D.Disk.faults c.args.plan.now opened c.args.store.now.pages c.args.seats.items _ c.requires.fresh (λ k s there. (each k s there).1)

pub returns-in_default-clause-rest : goal.returns-in_default-clause-rest
returns-in_default-clause-rest g c = fresh_rest g.D.Disk.state g.D.Disk.faults c.args.store.now.pages c.args.seats.items c.requires.fresh

pub returns-in_default-with_capacity-clause-rest : goal.returns-in_default-with_capacity-clause-rest
returns-in_default-with_capacity-clause-rest g c = fresh_rest g.D.Disk.state g.D.Disk.faults c.args.store.now.pages c.args.seats.items c.requires.fresh

pub run_phases-kept-requires-send-S : goal.run_phases-kept-requires-send-S
run_phases-kept-requires-send-S g c κs within = let runs = c.type_bounds.sync-R in search (held_send (param 1 g.row.D) g.D.Disk c.type_bounds.send-D, sendable) depth 8

pub run_phases-kept-requires-clause-count : goal.run_phases-kept-requires-clause-count
run_phases-kept-requires-clause-count g c κs within =
    let value : c.as_mut_slice.result.now ≡ c.sit_down-slots.result.items = c.as_mut_slice.ensures.value in
    ap length value ∙ held_long g.D.Disk.state g.D.Disk.faults (table_of c.args.store.now.turn) c.args.seats.items c.sit_down-slots.result.items c.sit_down-slots.ensures ∙ c.requires.enough

pub run_phases-kept-requires-clause-may : goal.run_phases-kept-requires-clause-may
run_phases-kept-requires-clause-may g c κs within =
    let value : c.as_mut_slice.result.now ≡ c.sit_down-slots.result.items = c.as_mut_slice.ensures.value in
    subst (λ (xs : List (Slot (Held g.row.R.Denot g.row.D.Denot))). MayWorkOn (view_held g.D.Disk.state g.D.Disk.faults) xs) (sym value)
    (all_fresh g.D.Disk.state g.D.Disk.faults (table_of c.args.store.now.turn) c.args.store.now.pages c.args.seats.items c.sit_down-slots.result.items c.sit_down-slots.ensures c.requires.fresh)

pub run_phases-kept-requires-clause-seated : goal.run_phases-kept-requires-clause-seated
run_phases-kept-requires-clause-seated g c κs within =
    let value : c.as_mut_slice.result.now ≡ c.sit_down-slots.result.items = c.as_mut_slice.ensures.value in
    subst (λ (xs : List (Slot (Held g.row.R.Denot g.row.D.Denot))). AreSeated (view_held g.D.Disk.state g.D.Disk.faults) xs) (sym value)
    (all_seated g.D.Disk.state g.D.Disk.faults (table_of c.args.store.now.turn) c.args.store.now.pages c.args.seats.items c.sit_down-slots.result.items c.sit_down-slots.ensures c.requires.fresh)

pub run_phases-kept-requires-clause-together : goal.run_phases-kept-requires-clause-together
run_phases-kept-requires-clause-together g c κs within =
    let value : c.as_mut_slice.result.now ≡ c.sit_down-slots.result.items = c.as_mut_slice.ensures.value in
    subst (λ (xs : List (Slot (Held g.row.R.Denot g.row.D.Denot))). AreTogether (λ (h k : Held g.row.R.Denot g.row.D.Denot). store_of k ≡ store_of h) xs) (sym value)
    (all_together g.D.Disk.state g.D.Disk.faults (table_of c.args.store.now.turn) c.args.store.now.pages c.args.seats.items c.sit_down-slots.result.items c.sit_down-slots.ensures c.requires.fresh)

pub stand_up-requires-clause-held : goal.stand_up-requires-clause-held
stand_up-requires-clause-held g c =
    let value : c.as_mut_slice.result.now ≡ c.sit_down-slots.result.items = c.as_mut_slice.ensures.value in
    let come = subst (λ (xs : List (Slot (Held g.row.R.Denot g.row.D.Denot))). AllCome (view_held g.D.Disk.state g.D.Disk.faults) (λ (h k : Held g.row.R.Denot g.row.D.Denot). GoesOn (store_of h) (store_of k) h.seat k.seat) xs c.run_phases-kept.new.slots) value c.run_phases-kept.ensures.come in
    subst (λ (xs : List (Slot (Held g.row.R.Denot g.row.D.Denot))). AreIn g.D.Disk.state g.D.Disk.faults (table_of c.args.store.now.turn) xs) (sym (back_again c.run_phases-kept.new.slots c.sit_down-slots.result.items c.sit_down-slots.result.len c.sit_down-slots.result.ok.0 come.count))
    (all_in g.D.Disk.state g.D.Disk.faults (table_of c.args.store.now.turn) c.args.store.now.pages c.args.seats.items c.sit_down-slots.result.items c.sit_down-slots.ensures c.requires.fresh c.run_phases-kept.new.slots come c.run_phases-kept.ensures.may)

pub stand_up-requires-clause-room : goal.stand_up-requires-clause-room
stand_up-requires-clause-room g c =
    let value : c.as_mut_slice.result.now ≡ c.sit_down-slots.result.items = c.as_mut_slice.ensures.value in
    let count : length c.run_phases-kept.new.slots ≡ length c.sit_down-slots.result.items = c.run_phases-kept.ensures.come.count ∙ ap length value in
    let back = ap length (back_again c.run_phases-kept.new.slots c.sit_down-slots.result.items c.sit_down-slots.result.len c.sit_down-slots.result.ok.0 count) in
    let long = held_long g.D.Disk.state g.D.Disk.faults (table_of c.args.store.now.turn) c.args.seats.items c.sit_down-slots.result.items c.sit_down-slots.ensures in
    let room : c.len.result ≤ vec_capacity c.in-Ok.back = c.in-Ok.ensures.capacity in
    let len : c.len.result ≡ vec_len c.args.seats = c.len.ensures in
    let items : vec_len c.args.seats ≡ length c.args.seats.items = c.args.seats.ok.0 in
    omega (arith, count, back, long, room, len, items)

pub returns-clause-count : goal.returns-clause-count
returns-clause-count g c =
    let value : c.as_mut_slice.result.now ≡ c.sit_down-slots.result.items = c.as_mut_slice.ensures.value in
    let count : length c.run_phases-kept.new.slots ≡ length c.sit_down-slots.result.items = c.run_phases-kept.ensures.come.count ∙ ap length value in
    c.stand_up.ensures.count ∙ ap length (back_again c.run_phases-kept.new.slots c.sit_down-slots.result.items c.sit_down-slots.result.len c.sit_down-slots.result.ok.0 count) ∙ count
    ∙ held_long g.D.Disk.state g.D.Disk.faults (table_of c.args.store.now.turn) c.args.seats.items c.sit_down-slots.result.items c.sit_down-slots.ensures

pub returns-clause-ran : goal.returns-clause-ran
returns-clause-ran g c = λ opened each.
    let z = table_of c.args.store.now.turn in
    let value : c.as_mut_slice.result.now ≡ c.sit_down-slots.result.items = c.as_mut_slice.ensures.value in
    let come = subst (λ (xs : List (Slot (Held g.row.R.Denot g.row.D.Denot))). AllCome (view_held g.D.Disk.state g.D.Disk.faults) (λ (h k : Held g.row.R.Denot g.row.D.Denot). GoesOn (store_of h) (store_of k) h.seat k.seat) xs c.run_phases-kept.new.slots) value c.run_phases-kept.ensures.come in
    let back = back_again c.run_phases-kept.new.slots c.sit_down-slots.result.items c.sit_down-slots.result.len c.sit_down-slots.result.ok.0 come.count in
    let honest = all_honest g.D.Disk.state g.D.Disk.faults z c.args.store.now.pages c.args.seats.items c.sit_down-slots.result.items c.sit_down-slots.ensures c.requires.fresh g.D.Disk.is_honest (λ k s there. (each k s there).0) in
    let begin = all_begin g.D.Disk.state g.D.Disk.faults z c.args.store.now.pages c.args.seats.items c.sit_down-slots.result.items c.sit_down-slots.ensures c.requires.fresh c.args.plan.now opened (λ k s there. (each k s there).1) in
    let ran = subst (λ (xs : List (Slot (Held g.row.R.Denot g.row.D.Denot))). AreHonest (λ (h : Held g.row.R.Denot g.row.D.Denot). IsHonest g.D.Disk.is_honest g.D.Disk.state h.seat) xs
    → StandTogether opened.base.page_count c.args.plan.now opened (length xs) 1 [] (view_at (view_held g.D.Disk.state g.D.Disk.faults) xs)
    → RunsPhases c.args.plan.now opened (length xs) (view_at (view_held g.D.Disk.state g.D.Disk.faults) c.run_phases-kept.new.slots) c.run_phases-kept.result) value
    (λ all stand. c.run_phases-kept.ensures.ran all opened [] stand) in
    all_stood g.D.Disk.state g.D.Disk.faults z c.args.store.now.pages c.args.seats.items c.sit_down-slots.result.items c.sit_down-slots.ensures c.requires.fresh c.args.plan.now opened c.run_phases-kept.new.slots c.stand_up.result.items
    c.run_phases-kept.result come (λ number. subst (λ (xs : List (Slot (Held g.row.R.Denot g.row.D.Denot))). IsAmong xs c.stand_up.result.items number) back (c.stand_up.ensures.among number)) (subst (λ (xs : List (Slot (Held g.row.R.Denot g.row.D.Denot))). AreOf xs c.stand_up.result.items) back c.stand_up.ensures.of) (ran honest begin)
