use Rattle.std.proofs.Common.{◌∙◌, Bool, true, Ok, Err, subst, sym}
use Rattle.turn.specs.Tables.{table_of}
use Rattle.store.specs.Rounds.{Cutting, Settling, Writing}
use Rattle.store.proofs.Passing.{passes_on, serve_on}
use Rattle.store.proofs.Reaching.{ends_same}
use Rattle.store.proofs.Writing.{Writes, all_passes, round_done, round_ends, round_fails, round_none, round_refused, settling_ends, wrote_ends}
use Rattle.store.proofs.shared.Store.write_round.Goals as goal

pub returns-in-Ok-false-clause-round : goal.returns-in-Ok-false-clause-round
returns-in-Ok-false-clause-round g c = round_none g.D.Disk.is_honest g.D.Disk.state g.D.Disk.faults (table_of c.args.self.now.turn) g.D.Disk.remembers g.D.Disk.clock c.args.who c.args.seat.now c.write_back.new.seat (subst (λ b. Writes g.D.Disk.is_honest g.D.Disk.state g.D.Disk.faults (table_of c.args.self.now.turn) g.D.Disk.remembers g.D.Disk.clock c.args.who (Ok b) c.args.seat.now c.write_back.new.seat) c.in-Ok-false.field-0-test c.in-Ok-false.ensures.writes)

pub returns-in-Err-clause-round : goal.returns-in-Err-clause-round
returns-in-Err-clause-round g c = round_refused g.D.Disk.is_honest g.D.Disk.state g.D.Disk.faults (table_of c.args.self.now.turn) g.D.Disk.remembers g.D.Disk.clock c.args.who c.args.seat.now c.write_back.new.seat c.in-Err.why c.in-Err.ensures.writes

pub write_more-requires-clause-serve : goal.write_more-requires-clause-serve
write_more-requires-clause-serve g c = serve_on (table_of c.args.self.now.turn) c.args.seat.now c.write_back.new.seat (wrote_ends g.D.Disk.is_honest g.D.Disk.state g.D.Disk.faults (table_of c.args.self.now.turn) c.args.who g.D.Disk.remembers g.D.Disk.clock c.args.seat.now c.write_back.new.seat c.requires.ready.0 (Ok true) (subst (λ b. Writes g.D.Disk.is_honest g.D.Disk.state g.D.Disk.faults (table_of c.args.self.now.turn) g.D.Disk.remembers g.D.Disk.clock c.args.who (Ok b) c.args.seat.now c.write_back.new.seat) c.in-Ok-true.field-0-test c.in-Ok-true.ensures.writes)) c.args.who c.requires.serve

pub settle-requires-clause-own : goal.settle-requires-clause-own
settle-requires-clause-own g c = c.requires.own ∙ sym (passes_on (table_of c.args.self.now.turn) c.args.seat.now c.write_back.new.seat (wrote_ends g.D.Disk.is_honest g.D.Disk.state g.D.Disk.faults (table_of c.args.self.now.turn) c.args.who g.D.Disk.remembers g.D.Disk.clock c.args.seat.now c.write_back.new.seat c.requires.ready.0 (Ok true) (subst (λ b. Writes g.D.Disk.is_honest g.D.Disk.state g.D.Disk.faults (table_of c.args.self.now.turn) g.D.Disk.remembers g.D.Disk.clock c.args.who (Ok b) c.args.seat.now c.write_back.new.seat) c.in-Ok-true.field-0-test c.in-Ok-true.ensures.writes)) c.write_more.new.seat (all_passes g.D.Disk.is_honest g.D.Disk.state g.D.Disk.faults (table_of c.args.self.now.turn) g.D.Disk.remembers g.D.Disk.clock c.args.who c.write_back.new.seat c.write_more.new.seat c.write_back.ensures.ready.0 c.in_default.ensures.all)).stays.same.number

pub settle-requires-clause-serve : goal.settle-requires-clause-serve
settle-requires-clause-serve g c = serve_on (table_of c.args.self.now.turn) c.args.seat.now c.write_more.new.seat (passes_on (table_of c.args.self.now.turn) c.args.seat.now c.write_back.new.seat (wrote_ends g.D.Disk.is_honest g.D.Disk.state g.D.Disk.faults (table_of c.args.self.now.turn) c.args.who g.D.Disk.remembers g.D.Disk.clock c.args.seat.now c.write_back.new.seat c.requires.ready.0 (Ok true) (subst (λ b. Writes g.D.Disk.is_honest g.D.Disk.state g.D.Disk.faults (table_of c.args.self.now.turn) g.D.Disk.remembers g.D.Disk.clock c.args.who (Ok b) c.args.seat.now c.write_back.new.seat) c.in-Ok-true.field-0-test c.in-Ok-true.ensures.writes)) c.write_more.new.seat (all_passes g.D.Disk.is_honest g.D.Disk.state g.D.Disk.faults (table_of c.args.self.now.turn) g.D.Disk.remembers g.D.Disk.clock c.args.who c.write_back.new.seat c.write_more.new.seat c.write_back.ensures.ready.0 c.in_default.ensures.all)) c.args.who c.requires.serve

pub cut_log-requires-clause-own : goal.cut_log-requires-clause-own
cut_log-requires-clause-own g c = c.requires.own ∙ sym (passes_on (table_of c.args.self.now.turn) c.args.seat.now c.write_back.new.seat (wrote_ends g.D.Disk.is_honest g.D.Disk.state g.D.Disk.faults (table_of c.args.self.now.turn) c.args.who g.D.Disk.remembers g.D.Disk.clock c.args.seat.now c.write_back.new.seat c.requires.ready.0 (Ok true) (subst (λ b. Writes g.D.Disk.is_honest g.D.Disk.state g.D.Disk.faults (table_of c.args.self.now.turn) g.D.Disk.remembers g.D.Disk.clock c.args.who (Ok b) c.args.seat.now c.write_back.new.seat) c.in-Ok-true.field-0-test c.in-Ok-true.ensures.writes)) c.settle.new.seat (settling_ends g.D.Disk.is_honest g.D.Disk.state g.D.Disk.faults (table_of c.args.self.now.turn) g.D.Disk.remembers g.D.Disk.clock c.args.who c.write_back.new.seat c.settle.new.seat c.write_back.ensures.ready.0 (Ok tt) (record { all = c.write_more.new.seat; writes = c.in_default.ensures.all; settles = c.in_default-settle.ensures.settles }))).stays.same.number

pub cut_log-requires-clause-serve : goal.cut_log-requires-clause-serve
cut_log-requires-clause-serve g c = serve_on (table_of c.args.self.now.turn) c.args.seat.now c.settle.new.seat (passes_on (table_of c.args.self.now.turn) c.args.seat.now c.write_back.new.seat (wrote_ends g.D.Disk.is_honest g.D.Disk.state g.D.Disk.faults (table_of c.args.self.now.turn) c.args.who g.D.Disk.remembers g.D.Disk.clock c.args.seat.now c.write_back.new.seat c.requires.ready.0 (Ok true) (subst (λ b. Writes g.D.Disk.is_honest g.D.Disk.state g.D.Disk.faults (table_of c.args.self.now.turn) g.D.Disk.remembers g.D.Disk.clock c.args.who (Ok b) c.args.seat.now c.write_back.new.seat) c.in-Ok-true.field-0-test c.in-Ok-true.ensures.writes)) c.settle.new.seat (settling_ends g.D.Disk.is_honest g.D.Disk.state g.D.Disk.faults (table_of c.args.self.now.turn) g.D.Disk.remembers g.D.Disk.clock c.args.who c.write_back.new.seat c.settle.new.seat c.write_back.ensures.ready.0 (Ok tt) (record { all = c.write_more.new.seat; writes = c.in_default.ensures.all; settles = c.in_default-settle.ensures.settles }))) c.args.who c.requires.serve

pub returns-in-Ok-clause-round : goal.returns-in-Ok-clause-round
returns-in-Ok-clause-round g c = round_done g.D.Disk.is_honest g.D.Disk.state g.D.Disk.faults (table_of c.args.self.now.turn) g.D.Disk.remembers g.D.Disk.clock c.args.who c.args.seat.now c.write_back.new.seat (subst (λ b. Writes g.D.Disk.is_honest g.D.Disk.state g.D.Disk.faults (table_of c.args.self.now.turn) g.D.Disk.remembers g.D.Disk.clock c.args.who (Ok b) c.args.seat.now c.write_back.new.seat) c.in-Ok-true.field-0-test c.in-Ok-true.ensures.writes) c.cut_log.new.seat c.in-Ok.field-0 (record { middle = c.settle.new.seat; settled = (record { all = c.write_more.new.seat; writes = c.in_default.ensures.all; settles = c.in_default-settle.ensures.settles }); cuts = c.in-Ok.ensures.cuts })

pub returns-in-Ok-clause-same : goal.returns-in-Ok-clause-same
returns-in-Ok-clause-same g c = ends_same g.D.Disk.is_honest g.D.Disk.state g.D.Disk.faults (table_of c.args.self.now.turn) c.args.who {T = Bool} (Ok true) c.args.seat.now c.cut_log.new.seat (round_ends g.D.Disk.is_honest g.D.Disk.state g.D.Disk.faults (table_of c.args.self.now.turn) g.D.Disk.remembers g.D.Disk.clock c.args.who (Ok true) c.args.seat.now c.cut_log.new.seat c.requires.ready.0 (round_done g.D.Disk.is_honest g.D.Disk.state g.D.Disk.faults (table_of c.args.self.now.turn) g.D.Disk.remembers g.D.Disk.clock c.args.who c.args.seat.now c.write_back.new.seat (subst (λ b. Writes g.D.Disk.is_honest g.D.Disk.state g.D.Disk.faults (table_of c.args.self.now.turn) g.D.Disk.remembers g.D.Disk.clock c.args.who (Ok b) c.args.seat.now c.write_back.new.seat) c.in-Ok-true.field-0-test c.in-Ok-true.ensures.writes) c.cut_log.new.seat c.in-Ok.field-0 (record { middle = c.settle.new.seat; settled = (record { all = c.write_more.new.seat; writes = c.in_default.ensures.all; settles = c.in_default-settle.ensures.settles }); cuts = c.in-Ok.ensures.cuts })))

pub returns-in-Err-write_more-clause-round : goal.returns-in-Err-write_more-clause-round
returns-in-Err-write_more-clause-round g c = round_fails g.D.Disk.is_honest g.D.Disk.state g.D.Disk.faults (table_of c.args.self.now.turn) g.D.Disk.remembers g.D.Disk.clock c.args.who c.args.seat.now c.write_back.new.seat (subst (λ b. Writes g.D.Disk.is_honest g.D.Disk.state g.D.Disk.faults (table_of c.args.self.now.turn) g.D.Disk.remembers g.D.Disk.clock c.args.who (Ok b) c.args.seat.now c.write_back.new.seat) c.in-Ok-true.field-0-test c.in-Ok-true.ensures.writes) c.in-Err-write_more.why c.write_more.new.seat (Writing c.in-Err-write_more.ensures.all)

pub returns-in-Err-write_more-clause-same : goal.returns-in-Err-write_more-clause-same
returns-in-Err-write_more-clause-same g c = ends_same g.D.Disk.is_honest g.D.Disk.state g.D.Disk.faults (table_of c.args.self.now.turn) c.args.who {T = Bool} (Err c.in-Err-write_more.why) c.args.seat.now c.write_more.new.seat (round_ends g.D.Disk.is_honest g.D.Disk.state g.D.Disk.faults (table_of c.args.self.now.turn) g.D.Disk.remembers g.D.Disk.clock c.args.who (Err c.in-Err-write_more.why) c.args.seat.now c.write_more.new.seat c.requires.ready.0 (round_fails g.D.Disk.is_honest g.D.Disk.state g.D.Disk.faults (table_of c.args.self.now.turn) g.D.Disk.remembers g.D.Disk.clock c.args.who c.args.seat.now c.write_back.new.seat (subst (λ b. Writes g.D.Disk.is_honest g.D.Disk.state g.D.Disk.faults (table_of c.args.self.now.turn) g.D.Disk.remembers g.D.Disk.clock c.args.who (Ok b) c.args.seat.now c.write_back.new.seat) c.in-Ok-true.field-0-test c.in-Ok-true.ensures.writes) c.in-Err-write_more.why c.write_more.new.seat (Writing c.in-Err-write_more.ensures.all)))

pub returns-in-Err-settle-clause-round : goal.returns-in-Err-settle-clause-round
returns-in-Err-settle-clause-round g c = round_fails g.D.Disk.is_honest g.D.Disk.state g.D.Disk.faults (table_of c.args.self.now.turn) g.D.Disk.remembers g.D.Disk.clock c.args.who c.args.seat.now c.write_back.new.seat (subst (λ b. Writes g.D.Disk.is_honest g.D.Disk.state g.D.Disk.faults (table_of c.args.self.now.turn) g.D.Disk.remembers g.D.Disk.clock c.args.who (Ok b) c.args.seat.now c.write_back.new.seat) c.in-Ok-true.field-0-test c.in-Ok-true.ensures.writes) c.in-Err-settle.why c.settle.new.seat (Settling (record { all = c.write_more.new.seat; writes = c.in_default.ensures.all; settles = c.in-Err-settle.ensures.settles }))

pub returns-in-Err-settle-clause-same : goal.returns-in-Err-settle-clause-same
returns-in-Err-settle-clause-same g c = ends_same g.D.Disk.is_honest g.D.Disk.state g.D.Disk.faults (table_of c.args.self.now.turn) c.args.who {T = Bool} (Err c.in-Err-settle.why) c.args.seat.now c.settle.new.seat (round_ends g.D.Disk.is_honest g.D.Disk.state g.D.Disk.faults (table_of c.args.self.now.turn) g.D.Disk.remembers g.D.Disk.clock c.args.who (Err c.in-Err-settle.why) c.args.seat.now c.settle.new.seat c.requires.ready.0 (round_fails g.D.Disk.is_honest g.D.Disk.state g.D.Disk.faults (table_of c.args.self.now.turn) g.D.Disk.remembers g.D.Disk.clock c.args.who c.args.seat.now c.write_back.new.seat (subst (λ b. Writes g.D.Disk.is_honest g.D.Disk.state g.D.Disk.faults (table_of c.args.self.now.turn) g.D.Disk.remembers g.D.Disk.clock c.args.who (Ok b) c.args.seat.now c.write_back.new.seat) c.in-Ok-true.field-0-test c.in-Ok-true.ensures.writes) c.in-Err-settle.why c.settle.new.seat (Settling (record { all = c.write_more.new.seat; writes = c.in_default.ensures.all; settles = c.in-Err-settle.ensures.settles }))))

pub returns-in-Err-cut_log-clause-round : goal.returns-in-Err-cut_log-clause-round
returns-in-Err-cut_log-clause-round g c = round_fails g.D.Disk.is_honest g.D.Disk.state g.D.Disk.faults (table_of c.args.self.now.turn) g.D.Disk.remembers g.D.Disk.clock c.args.who c.args.seat.now c.write_back.new.seat (subst (λ b. Writes g.D.Disk.is_honest g.D.Disk.state g.D.Disk.faults (table_of c.args.self.now.turn) g.D.Disk.remembers g.D.Disk.clock c.args.who (Ok b) c.args.seat.now c.write_back.new.seat) c.in-Ok-true.field-0-test c.in-Ok-true.ensures.writes) c.in-Err-cut_log.why c.cut_log.new.seat (Cutting (record { middle = c.settle.new.seat; settled = (record { all = c.write_more.new.seat; writes = c.in_default.ensures.all; settles = c.in_default-settle.ensures.settles }); cuts = c.in-Err-cut_log.ensures.cuts }))

pub returns-in-Err-cut_log-clause-same : goal.returns-in-Err-cut_log-clause-same
returns-in-Err-cut_log-clause-same g c = ends_same g.D.Disk.is_honest g.D.Disk.state g.D.Disk.faults (table_of c.args.self.now.turn) c.args.who {T = Bool} (Err c.in-Err-cut_log.why) c.args.seat.now c.cut_log.new.seat (round_ends g.D.Disk.is_honest g.D.Disk.state g.D.Disk.faults (table_of c.args.self.now.turn) g.D.Disk.remembers g.D.Disk.clock c.args.who (Err c.in-Err-cut_log.why) c.args.seat.now c.cut_log.new.seat c.requires.ready.0 (round_fails g.D.Disk.is_honest g.D.Disk.state g.D.Disk.faults (table_of c.args.self.now.turn) g.D.Disk.remembers g.D.Disk.clock c.args.who c.args.seat.now c.write_back.new.seat (subst (λ b. Writes g.D.Disk.is_honest g.D.Disk.state g.D.Disk.faults (table_of c.args.self.now.turn) g.D.Disk.remembers g.D.Disk.clock c.args.who (Ok b) c.args.seat.now c.write_back.new.seat) c.in-Ok-true.field-0-test c.in-Ok-true.ensures.writes) c.in-Err-cut_log.why c.cut_log.new.seat (Cutting (record { middle = c.settle.new.seat; settled = (record { all = c.write_more.new.seat; writes = c.in_default.ensures.all; settles = c.in_default-settle.ensures.settles }); cuts = c.in-Err-cut_log.ensures.cuts }))))
