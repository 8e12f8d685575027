use Rattle.std.proofs.Common.{rules, sym, ap, refl, ◌∙◌, ◌≡◌, subst, Some, ◌∷◌, map}
use Rattle.atomic_table.specs.Table.{rest}
use Rattle.turn.specs.declared.view.Kept.TheVariants.{Desk}
use Rattle.turn.specs.Rule.{IsHorizon, VaultBeside}
use Rattle.turn.specs.Seats.{MayLeave, mine}
use Rattle.turn.specs.Views.{behind_desk, first_of}
use Rattle.turn.proofs.Handing.{left_desk, rests_so}
use Rattle.turn.proofs.Recording.{record_desk}
use Rattle.turn.proofs.Seating.{same_value}
use Rattle.turn.proofs.Steps.{serve_desk}
use Rattle.turn.proofs.turn.Turn.leave_desk.Goals as goal

pub store-requires : goal.store-requires
store-requires g c =
    let q = c.requires.1 in
    let x = c.exchange-left.ensures in
    let was : c.exchange-left.new.seat.me.0 ≡ c.args.seat.now.seat.me.0 = ap (λ m. m.0) x.3 in (
      x.0 ∙ q.seat.table,
      search rules,
      record_desk _ _ _ _ g.met.B.VaultValue.outlives _ _ _ _ _ c.requires.0 c.args.desk (mine c.args.seat.now) c.exchange-left.new.seat.me (ap (λ v. v.desk) was ∙ q.desk)
          (ap (λ m. m.1) x.3 ∙ ap (λ cs. (0, Some (Desk c.args.desk)) ∷ rest cs) q.slots) (ap (λ v. v.holds) was ∙ q.seat.one) q.seat.part
          (subst (λ k. MayLeave g.A.DeskValue.meaning g.A.Opening.Opening.meaning k (mine c.args.seat.now) c.requires.0 c.args.desk) (sym (ap (λ v. v.held) was)) c.requires.2)
          (subst (IsHorizon c.word_of-word.result) c.horizon.ensures c.word_of-word.ensures),
    )

pub fetch_add-requires : goal.fetch_add-requires
fetch_add-requires g c =
    let q = c.requires.1 in
    let x = c.exchange-left.ensures in
    let y = c.store.ensures in
    let was : c.exchange-left.new.seat.me.0 ≡ c.args.seat.now.seat.me.0 = ap (λ m. m.0) x.3 in
    let carried = ap (λ m. m.1) x.3 ∙ ap (λ cs. (0, Some (Desk c.args.desk)) ∷ rest cs) q.slots in
    let now = (y.2.1 _ c.requires.0 c.args.desk (ap (λ v. v.desk) was ∙ q.desk) carried).0 in
    (y.0 ∙ (x.0 ∙ q.seat.table), search rules, serve_desk _ _ _ _ _ _ _ _ c.args.desk c.store.new.seat.me (ap (λ v. v.desk) now) (y.2.0 ∙ carried))

pub returns-clause-rests : goal.returns-clause-rests
returns-clause-rests g c =
    let q = c.requires.1 in
    let x = c.exchange-left.ensures in let y = c.store.ensures in let z = c.fetch_add.ensures in
    let was : c.exchange-left.new.seat.me.0 ≡ c.args.seat.now.seat.me.0 = ap (λ m. m.0) x.3 in
    let carried = ap (λ m. m.1) x.3 ∙ ap (λ cs. (0, Some (Desk c.args.desk)) ∷ rest cs) q.slots in
    let now = (y.2.1 _ c.requires.0 c.args.desk (ap (λ v. v.desk) was ∙ q.desk) carried).0 in
    let final = left_desk g.A.DeskValue.meaning _ c.requires.0 c.args.desk c.args.seat.now.seat.me.0 c.exchange-left.new.seat.me.0 c.store.new.seat.me.0 c.fetch_add.new.seat.me.0 was now z.2.1 in
    rests_so _ c.args.seat.now record { number = c.args.seat.now.number; seat = c.fetch_add.new.seat } _ (behind_desk g.A.DeskValue.meaning c.requires.0 c.args.desk (mine c.args.seat.now)) q.seat
    (z.0 ∙ (y.0 ∙ x.0)) refl final z.2.0 refl q.seat.heard refl q.vault (ap (map (behind_desk g.A.DeskValue.meaning c.requires.0 c.args.desk)) q.seat.one) refl q.seat.part

pub returns-clause-same : goal.returns-clause-same
returns-clause-same g c =
    let q = c.requires.1 in
    let x = c.exchange-left.ensures in let y = c.store.ensures in let z = c.fetch_add.ensures in
    let was : c.exchange-left.new.seat.me.0 ≡ c.args.seat.now.seat.me.0 = ap (λ m. m.0) x.3 in
    let carried = ap (λ m. m.1) x.3 ∙ ap (λ cs. (0, Some (Desk c.args.desk)) ∷ rest cs) q.slots in
    let now = (y.2.1 _ c.requires.0 c.args.desk (ap (λ v. v.desk) was ∙ q.desk) carried).0 in
    let final = left_desk g.A.DeskValue.meaning _ c.requires.0 c.args.desk c.args.seat.now.seat.me.0 c.exchange-left.new.seat.me.0 c.store.new.seat.me.0 c.fetch_add.new.seat.me.0 was now z.2.1 in
    (record { id = z.1 ∙ (y.1 ∙ x.1); number = refl; opening = ap (λ v. v.opening) final }, ap (λ v. v.held) final)

pub returns-clause-seen : goal.returns-clause-seen
returns-clause-seen g c =
    let q = c.requires.1 in
    let x = c.exchange-left.ensures in let y = c.store.ensures in let z = c.fetch_add.ensures in
    let was : c.exchange-left.new.seat.me.0 ≡ c.args.seat.now.seat.me.0 = ap (λ m. m.0) x.3 in
    let carried = ap (λ m. m.1) x.3 ∙ ap (λ cs. (0, Some (Desk c.args.desk)) ∷ rest cs) q.slots in
    let now = (y.2.1 _ c.requires.0 c.args.desk (ap (λ v. v.desk) was ∙ q.desk) carried).0 in
    ap (λ v. v.seen) (left_desk g.A.DeskValue.meaning _ c.requires.0 c.args.desk c.args.seat.now.seat.me.0 c.exchange-left.new.seat.me.0 c.store.new.seat.me.0 c.fetch_add.new.seat.me.0 was now z.2.1)

pub returns-clause-mine : goal.returns-clause-mine
returns-clause-mine g c = λ old in_.
    let q = c.requires.1 in
    let x = c.exchange-left.ensures in let y = c.store.ensures in let z = c.fetch_add.ensures in
    let was : c.exchange-left.new.seat.me.0 ≡ c.args.seat.now.seat.me.0 = ap (λ m. m.0) x.3 in
    let carried = ap (λ m. m.1) x.3 ∙ ap (λ cs. (0, Some (Desk c.args.desk)) ∷ rest cs) q.slots in
    let now = (y.2.1 _ c.requires.0 c.args.desk (ap (λ v. v.desk) was ∙ q.desk) carried).0 in
    let final = left_desk g.A.DeskValue.meaning _ c.requires.0 c.args.desk c.args.seat.now.seat.me.0 c.exchange-left.new.seat.me.0 c.store.new.seat.me.0 c.fetch_add.new.seat.me.0 was now z.2.1 in
    ap (λ v. first_of v.holds) final
    ∙ (ap (λ hs. first_of (map (behind_desk g.A.DeskValue.meaning c.requires.0 c.args.desk) hs)) q.seat.one
    ∙ ap (λ w. behind_desk g.A.DeskValue.meaning w c.args.desk (mine c.args.seat.now)) (same_value _ _ c.requires.0 old (sym q.desk ∙ in_.desk)))

pub returns-clause-beside : goal.returns-clause-beside
returns-clause-beside g c =
    let q = c.requires.1 in
    let x = c.exchange-left.ensures in let y = c.store.ensures in let z = c.fetch_add.ensures in
    let was : c.exchange-left.new.seat.me.0 ≡ c.args.seat.now.seat.me.0 = ap (λ m. m.0) x.3 in
    let carried = ap (λ m. m.1) x.3 ∙ ap (λ cs. (0, Some (Desk c.args.desk)) ∷ rest cs) q.slots in
    let told = y.2.1 _ c.requires.0 c.args.desk (ap (λ v. v.desk) was ∙ q.desk) carried in
    let final = left_desk g.A.DeskValue.meaning _ c.requires.0 c.args.desk c.args.seat.now.seat.me.0 c.exchange-left.new.seat.me.0 c.store.new.seat.me.0 c.fetch_add.new.seat.me.0 was told.0 z.2.1 in
    subst (VaultBeside g.A.Opening.Opening.meaning g.A.DeskValue.meaning g.B.VaultValue.meaning c.args.desk) (ap (λ v. v.held) was ∙ sym (ap (λ v. v.held) final)) told.1
