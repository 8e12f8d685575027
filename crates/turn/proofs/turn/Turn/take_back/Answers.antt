use Rattle.std.proofs.Common.{rules, sym, ap, ◌∙◌, ◌≡◌, subst, arith, List, ◌∷◌, [], ◌++◌, map}
use mathlib.Core.List.{IsPrefix}
use lib.ListN.{get_elem?}
use Rattle.history.specs.declared.journal.Line.{Line}
use Rattle.turn.specs.declared.view.Holding.{Holding}
use Rattle.turn.specs.declared.view.View.{View}
use Rattle.turn.specs.Seats.{mine}
use Rattle.turn.specs.Views.{returned, returned_view}
use Rattle.turn.proofs.Cuts.{returns}
use Rattle.turn.proofs.Handing.{agrees_so}
use Rattle.turn.proofs.Steps.{settle}
use Rattle.turn.proofs.turn.Turn.take_back.Goals as goal

pub join_seat-requires : goal.join_seat-requires
join_seat-requires g c = let r = c.requires.rests in (
  r.0.seat.table,
  r.1.seat.table,
  r.1.slots,
  search rules,
  returns _ _ _ _ _ _ _ (mine c.args.seat.now) (mine c.args.helper) c.args.seat.now.seat.me.0 c.args.helper.seat.me.0 r.0.desk r.0.vault r.1.desk r.1.vault
      r.0.seat.one r.1.seat.one r.0.seat.part c.requires.helper.1 (r.1.seat.number ∙ (c.requires.helper.0 ∙ sym r.0.seat.number)),
)

pub load-requires : goal.load-requires
load-requires g c = (c.join_seat.ensures.0 ∙ c.requires.rests.0.seat.table, search rules, settle _ _ _ _ _ _ _ c.join_seat.new.seat.me)

pub returns-clause-fronts : goal.returns-clause-fronts
returns-clause-fronts g c =
    let w : View _ _ _ _ = c.args.helper.seat.me.0 in
    let j : c.join_seat.new.seat.me.0 ≡ returned_view c.args.seat.now.seat.me.0 w = ap (λ m. m.0) c.join_seat.ensures.2 in
    let l = c.load.ensures.2 in
    let now : List Line = c.load.new.seat.me.0.seen in (
      subst (λ (v : View _ _ _ _). IsPrefix v.seen now) j l.front,
      l.heard 0 w.seen (ap (λ (v : View _ _ _ _). get_elem? v.heard 0) j ∙ ap (λ (ts : List (List Line)). get_elem? (ts ++ w.seen ∷ w.heard) 0) c.requires.rests.0.seat.heard),
    )

pub returns-clause-agrees : goal.returns-clause-agrees
returns-clause-agrees g c =
    let r = c.requires.rests in
    let j = ap (λ m. m.0) c.join_seat.ensures.2 in
    let l = c.load.ensures.2 in
    let h : Holding _ = returned (mine c.args.helper) (mine c.args.seat.now) in
    let one : c.join_seat.new.seat.me.0.holds ≡ h ∷ [] = ap (λ (v : View _ _ _ _). v.holds) j ∙ ap (λ (x : List (Holding _)). map (returned (mine c.args.helper)) x) r.0.seat.one in
    let now : c.load.new.seat.me.0.holds ≡ h ∷ [] = ap (λ (v : View _ _ _ _). v.holds) l.view_is ∙ one in
    let opened = ap (λ (v : View _ _ _ _). v.opening) l.view_is in
    agrees_so g.A.Opening.Opening.meaning record { number = c.args.seat.now.number; seat = c.load.new.seat } h l.journal l.works c.join_seat.new.seat.me.0.holds l.begins l.own one now
    (let p = r.0.seat.part in omega (arith, p)) r.0.seat.number (λ x e. l.lawful x (sym opened ∙ e))
