use Rattle.std.proofs.Common.{rules, sym, ap, subst, ◌≡◌, ◌∙◌, Some, ◌∷◌, List, ℕ}
use lib.ListN.{get_elem?}
use Rattle.atomic_table.specs.Table.{rest}
use Rattle.turn.specs.declared.view.Kept.TheVariants.{Desk}
use Rattle.history.specs.Lines.{lines_of}
use Rattle.turn.specs.declared.view.Holding.{Holding}
use Rattle.turn.specs.Rule.{TellsFaults, VaultBeside}
use Rattle.turn.specs.Seats.{mine}
use Rattle.turn.proofs.Handing.{parts_here, same_taken}
use Rattle.turn.proofs.Steps.{draw_desk, read_desk}
use Rattle.turn.proofs.turn.Turn.enter_desk.Goals as goal

pub fetch_add-ticket-requires : goal.fetch_add-ticket-requires
fetch_add-ticket-requires g c = (c.requires.seat.table, search rules, draw_desk _ _ _ _ _ _ _ c.args.seat.now.seat.me c.requires.desk (parts_here _ c.args.seat.now c.requires.seat))

pub load-serving-requires : goal.load-serving-requires
load-serving-requires g c = let i = c.loop.invariant in
    (i.1 ∙ c.requires.seat.table, search rules, read_desk _ _ _ _ _ _ _ i.3.0 c.loop.seat.seat.me (ap (λ m. m.0.desk) i.3.2))

pub exchange-taken-requires : goal.exchange-taken-requires
exchange-taken-requires g c = let i = c.loop.invariant in let x = c.load-serving.ensures in
    let got = (x.2 i.3.0 (ap (λ m. m.0.desk) i.3.2)).0 (c.if-serving-ticket.true ∙ i.3.1) in
    (x.0 ∙ (i.1 ∙ c.requires.seat.table), (Some (Desk got.value), got.slots ∙ ap (λ cs. (0, Some (Desk got.value)) ∷ rest cs) (sym got.slots)))

pub returns-then-serving-ticket-clause-faults : goal.returns-then-serving-ticket-clause-faults
returns-then-serving-ticket-clause-faults g c = let i = c.loop.invariant in let x = c.load-serving.ensures in
    let got = (x.2 i.3.0 (ap (λ m. m.0.desk) i.3.2)).0 (c.if-serving-ticket.true ∙ i.3.1) in
    let same : got.value ≡ c.in-Some-Desk.desk = same_taken _ _ _ _ got.value c.in-Some-Desk.desk got.slots c.exchange-taken.ensures.2 (c.in-Some-Desk.is ∙ ap Some c.in-Some-Desk.field-0-is) in
    let here = ap (λ (hs : List (Holding _)). get_elem? hs 0) (ap (λ m. m.0.holds) i.3.2 ∙ c.requires.seat.one) in
    subst (λ (v : g.row.A.Denot). TellsFaults g.A.DeskValue.meaning v (mine c.args.seat.now)) same (got.faults 0 (mine c.args.seat.now) here)

pub returns-then-serving-ticket-clause-lines : goal.returns-then-serving-ticket-clause-lines
returns-then-serving-ticket-clause-lines g c = let i = c.loop.invariant in let x = c.load-serving.ensures in
    let got = (x.2 i.3.0 (ap (λ m. m.0.desk) i.3.2)).0 (c.if-serving-ticket.true ∙ i.3.1) in
    let same : got.value ≡ c.in-Some-Desk.desk = same_taken _ _ _ _ got.value c.in-Some-Desk.desk got.slots c.exchange-taken.ensures.2 (c.in-Some-Desk.is ∙ ap Some c.in-Some-Desk.field-0-is) in
    let here = ap (λ (hs : List (Holding _)). get_elem? hs 0) (ap (λ m. m.0.holds) i.3.2 ∙ c.requires.seat.one) in
    (got.own 0 (mine c.args.seat.now) here c.requires.seat.part).0 ∙ ap (λ (y : g.row.A.Denot × ℕ). lines_of y.1 (g.A.DeskValue.meaning.journal y.0)) (λ k. (same k, c.requires.seat.number k))

pub returns-then-serving-ticket-clause-work : goal.returns-then-serving-ticket-clause-work
returns-then-serving-ticket-clause-work g c = let i = c.loop.invariant in let x = c.load-serving.ensures in
    let got = (x.2 i.3.0 (ap (λ m. m.0.desk) i.3.2)).0 (c.if-serving-ticket.true ∙ i.3.1) in
    let same : got.value ≡ c.in-Some-Desk.desk = same_taken _ _ _ _ got.value c.in-Some-Desk.desk got.slots c.exchange-taken.ensures.2 (c.in-Some-Desk.is ∙ ap Some c.in-Some-Desk.field-0-is) in
    let here = ap (λ (hs : List (Holding _)). get_elem? hs 0) (ap (λ m. m.0.holds) i.3.2 ∙ c.requires.seat.one) in
    (got.own 0 (mine c.args.seat.now) here c.requires.seat.part).1 ∙ ap (λ (y : g.row.A.Denot × ℕ). g.A.DeskValue.meaning.work_of y.0 y.1) (λ k. (same k, c.requires.seat.number k))

pub returns-then-serving-ticket-clause-beside : goal.returns-then-serving-ticket-clause-beside
returns-then-serving-ticket-clause-beside g c = let i = c.loop.invariant in let x = c.load-serving.ensures in
    let got = (x.2 i.3.0 (ap (λ m. m.0.desk) i.3.2)).0 (c.if-serving-ticket.true ∙ i.3.1) in
    let same : got.value ≡ c.in-Some-Desk.desk = same_taken _ _ _ _ got.value c.in-Some-Desk.desk got.slots c.exchange-taken.ensures.2 (c.in-Some-Desk.is ∙ ap Some c.in-Some-Desk.field-0-is) in
    let held : got.held ≡ c.exchange-taken.new.seat.me.0.held = sym (ap (λ m. m.0.held) c.exchange-taken.ensures.3 ∙ ap (λ v. v.held) got.view_is) in
    subst (λ (y : g.row.A.Denot × ℕ). VaultBeside g.A.Opening.Opening.meaning g.A.DeskValue.meaning g.B.VaultValue.meaning y.0 y.1) (λ k. (same k, held k)) got.beside
