use Rattle.std.proofs.Common.{◌∙◌, refl, sym}
use Rattle.turn.specs.Tables.{table_of}
use Rattle.store.proofs.Redropping.{asks_none}
use Rattle.store.proofs.Reaching.{same_on}
use Rattle.store.proofs.shared.Store.drop_below.Goals as goal

pub returns-then-tells_drop-clause-none : goal.returns-then-tells_drop-clause-none
returns-then-tells_drop-clause-none g c = asks_none g.D.Disk.is_honest g.D.Disk.state g.D.Disk.faults (table_of c.args.self.now.turn) g.D.Disk.remembers g.D.Disk.clock c.args.who c.args.below c.args.seat.now c.asked_drop-answer.new.seat c.requires.ready.0 c.requires.own c.requires.is_closed c.asked_drop-answer.result c.asked_drop-answer.ensures.answers (sym c.tells_drop.ensures ∙ c.if-tells_drop.true)

pub returns-then-tells_drop-clause-answers : goal.returns-then-tells_drop-clause-answers
returns-then-tells_drop-clause-answers g c = record { asked = c.asked_drop-answer.new.seat; asks = c.asked_drop-answer.ensures.answers; told = λ t. refl; gives_up = λ f. absurd (cc (f, sym c.tells_drop.ensures ∙ c.if-tells_drop.true)) }

pub returns-clause-same : goal.returns-clause-same
returns-clause-same g c = same_on c.args.seat.now c.asked_drop-answer.new.seat c.give_up_drop.new.seat c.asked_drop-answer.ensures.same c.give_up_drop.ensures.gives_up.visited.same

pub returns-clause-answers : goal.returns-clause-answers
returns-clause-answers g c = record { asked = c.asked_drop-answer.new.seat; asks = c.asked_drop-answer.ensures.answers; told = λ t. absurd (cc (t, sym c.tells_drop.ensures ∙ c.if-tells_drop.false)); gives_up = λ f. c.give_up_drop.ensures.gives_up }
