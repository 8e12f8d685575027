use Rattle.std.proofs.Common.{rules, sym, ap, ◌∙◌, ◌≡◌, subst, List, ◌∷◌, [], ◌++◌}
use mathlib.Core.List.{IsPrefix}
use mathlib.Core.Option.{some}
use lib.ListN.{get_elem?}
use Rattle.history.specs.declared.journal.Line.{Line}
use Rattle.turn.specs.declared.view.Holding.{Holding}
use Rattle.turn.specs.declared.view.View.{View}
use Rattle.turn.specs.Seats.{mine}
use Rattle.turn.specs.Views.{joined, note_of}
use Rattle.turn.proofs.Cuts.{gathers, notes}
use Rattle.turn.proofs.Handing.{agrees_so}
use Rattle.turn.proofs.Steps.{settle}
use Rattle.turn.proofs.turn.Turn.inform.Goals as goal

pub split_seat-note-requires : goal.split_seat-note-requires
split_seat-note-requires g c = (c.requires.1.seat.table, search rules, notes _ _ _ _ _ _ c.args.other.now.seat.me.0 c.requires.1.desk c.requires.1.vault)

pub join_seat-requires : goal.join_seat-requires
join_seat-requires g c =
    let n = c.split_seat-note.ensures in
    let is : c.split_seat-note.result.me.0 ≡ note_of c.args.other.now.seat.me.0 = ap (λ m. m.0) n.4 in (
      c.requires.0.seat.table,
      n.3 ∙ c.requires.1.seat.table,
      ap (λ m. m.1) n.4,
      search rules,
      gathers _ _ _ _ _ _ _ c.args.one.now.seat.me.0 c.split_seat-note.result.me.0 c.requires.0.desk c.requires.0.vault (ap (λ v. v.desk) is) (ap (λ v. v.vault) is),
    )

pub load-requires : goal.load-requires
load-requires g c = (c.join_seat.ensures.0 ∙ c.requires.0.seat.table, search rules, settle _ _ _ _ _ _ _ c.join_seat.new.seat.me)

pub returns-clause-fronts : goal.returns-clause-fronts
returns-clause-fronts g c =
    let n = c.split_seat-note.ensures in
    let w : View _ _ _ _ = c.split_seat-note.result.me.0 in
    let is : w ≡ note_of c.args.other.now.seat.me.0 = ap (λ m. m.0) n.4 in
    let j : c.join_seat.new.seat.me.0 ≡ joined c.args.one.now.seat.me.0 w = ap (λ m. m.0) c.join_seat.ensures.2 in
    let l = c.load.ensures.2 in
    let now : List Line = c.load.new.seat.me.0.seen in (
      subst (λ (v : View _ _ _ _). IsPrefix v.seen now) j l.front,
      l.heard 0 c.args.other.now.seat.me.0.seen (ap (λ (v : View _ _ _ _). get_elem? v.heard 0) j
          ∙ (ap (λ (ts : List (List Line)). get_elem? (ts ++ w.seen ∷ w.heard) 0) c.requires.0.seat.heard ∙ ap (λ (v : View _ _ _ _). some v.seen) is)),
    )

pub returns-clause-agrees : goal.returns-clause-agrees
returns-clause-agrees g c =
    let r = c.requires.0 in
    let n = c.split_seat-note.ensures in
    let w : View _ _ _ _ = c.split_seat-note.result.me.0 in
    let is : w ≡ note_of c.args.other.now.seat.me.0 = ap (λ m. m.0) n.4 in
    let j : c.join_seat.new.seat.me.0 ≡ joined c.args.one.now.seat.me.0 w = ap (λ m. m.0) c.join_seat.ensures.2 in
    let l = c.load.ensures.2 in
    let h : Holding _ = mine c.args.one.now in
    let one : c.join_seat.new.seat.me.0.holds ≡ h ∷ [] = ap (λ (v : View _ _ _ _). v.holds) j
    ∙ (ap (λ (x : List (Holding _)). x ++ w.holds) r.seat.one ∙ ap (λ (v : View _ _ _ _). h ∷ v.holds) is) in
    let opened = ap (λ (v : View _ _ _ _). v.opening) l.view_is in
    agrees_so g.A.Opening.Opening.meaning record { number = c.args.one.now.number; seat = c.load.new.seat } h l.journal l.works c.join_seat.new.seat.me.0.holds l.begins l.own one
    (ap (λ (v : View _ _ _ _). v.holds) l.view_is ∙ one) r.seat.part r.seat.number (λ x e. l.lawful x (sym opened ∙ e))
