use Rattle.std.proofs.Common.{rules, sym, ap, refl, ◌∙◌, ◌≡◌, subst, Some, ◌∷◌, map}
use Rattle.atomic_table.specs.Table.{rest}
use Rattle.turn.specs.declared.view.Kept.TheVariants.{Vault}
use Rattle.turn.specs.declared.view.View.{View}
use Rattle.turn.specs.Rule.{DeskBeside}
use Rattle.turn.specs.Seats.{MayLeaveVault, mine}
use Rattle.turn.specs.Views.{behind_vault, first_of}
use Rattle.turn.proofs.Handing.{left_vault, rests_so, some_of}
use Rattle.turn.proofs.Raising.{raise_held}
use Rattle.turn.proofs.Seating.{same_value}
use Rattle.turn.proofs.Steps.{serve_vault}
use Rattle.turn.proofs.turn.Turn.leave_vault.Goals as goal

pub store-requires : goal.store-requires
store-requires g c =
    let q = c.requires.1 in
    let x = c.exchange-left.ensures in
    let was : c.exchange-left.new.seat.me.0 ≡ c.args.seat.now.seat.me.0 = ap (λ m. m.0) x.3 in
    let o = some_of c.args.seat.now.seat.me.0.opening q.seat.opened in (
      x.0 ∙ q.seat.table,
      search rules,
      raise_held _ _ _ _ g.met.B.VaultValue.outlives _ _ _ _ _ c.requires.0 c.args.vault o.0 (mine c.args.seat.now) c.exchange-left.new.seat.me (ap (λ v. v.vault) was ∙ q.vault)
          (ap (λ m. m.1) x.3 ∙ ap (λ cs. (1, Some (Vault c.args.vault)) ∷ rest cs) q.slots) (ap (λ v. v.holds) was ∙ q.seat.one) q.seat.part (ap (λ v. v.opening) was ∙ o.1)
          (subst (λ (v : View _ _ _ _). MayLeaveVault g.B.VaultValue.meaning v.opening v.seen c.requires.0 c.args.vault) (sym was) c.requires.2) c.held-held.ensures,
    )

pub fetch_add-requires : goal.fetch_add-requires
fetch_add-requires g c =
    let q = c.requires.1 in
    let x = c.exchange-left.ensures in
    let y = c.store.ensures in
    let was : c.exchange-left.new.seat.me.0 ≡ c.args.seat.now.seat.me.0 = ap (λ m. m.0) x.3 in
    let carried = ap (λ m. m.1) x.3 ∙ ap (λ cs. (1, Some (Vault c.args.vault)) ∷ rest cs) q.slots in
    let now = (y.2.1 _ c.requires.0 c.args.vault (ap (λ v. v.vault) was ∙ q.vault) carried).0 in
    (y.0 ∙ (x.0 ∙ q.seat.table), search rules, serve_vault _ _ _ _ _ _ _ _ c.args.vault c.store.new.seat.me (ap (λ v. v.vault) now) (y.2.0 ∙ carried))

pub returns-clause-rests : goal.returns-clause-rests
returns-clause-rests g c =
    let q = c.requires.1 in
    let x = c.exchange-left.ensures in let y = c.store.ensures in let z = c.fetch_add.ensures in
    let was : c.exchange-left.new.seat.me.0 ≡ c.args.seat.now.seat.me.0 = ap (λ m. m.0) x.3 in
    let carried = ap (λ m. m.1) x.3 ∙ ap (λ cs. (1, Some (Vault c.args.vault)) ∷ rest cs) q.slots in
    let now = (y.2.1 _ c.requires.0 c.args.vault (ap (λ v. v.vault) was ∙ q.vault) carried).0 in
    let final = left_vault g.B.VaultValue.meaning _ c.requires.0 c.args.vault c.args.seat.now.seat.me.0 c.exchange-left.new.seat.me.0 c.store.new.seat.me.0 c.fetch_add.new.seat.me.0 was now z.2.1 in
    rests_so _ c.args.seat.now record { number = c.args.seat.now.number; seat = c.fetch_add.new.seat } _ (behind_vault g.B.VaultValue.meaning c.requires.0 c.args.vault (mine c.args.seat.now)) q.seat
    (z.0 ∙ (y.0 ∙ x.0)) refl final z.2.0 refl q.seat.heard q.desk refl (ap (map (behind_vault g.B.VaultValue.meaning c.requires.0 c.args.vault)) q.seat.one) refl q.seat.part

pub returns-clause-same : goal.returns-clause-same
returns-clause-same g c =
    let q = c.requires.1 in
    let x = c.exchange-left.ensures in let y = c.store.ensures in let z = c.fetch_add.ensures in
    let was : c.exchange-left.new.seat.me.0 ≡ c.args.seat.now.seat.me.0 = ap (λ m. m.0) x.3 in
    let carried = ap (λ m. m.1) x.3 ∙ ap (λ cs. (1, Some (Vault c.args.vault)) ∷ rest cs) q.slots in
    let now = (y.2.1 _ c.requires.0 c.args.vault (ap (λ v. v.vault) was ∙ q.vault) carried).0 in
    let final = left_vault g.B.VaultValue.meaning _ c.requires.0 c.args.vault c.args.seat.now.seat.me.0 c.exchange-left.new.seat.me.0 c.store.new.seat.me.0 c.fetch_add.new.seat.me.0 was now z.2.1 in
    (record { id = z.1 ∙ (y.1 ∙ x.1); number = refl; opening = ap (λ v. v.opening) final }, ap (λ v. v.seen) final)

pub returns-clause-held : goal.returns-clause-held
returns-clause-held g c =
    let q = c.requires.1 in
    let x = c.exchange-left.ensures in let y = c.store.ensures in let z = c.fetch_add.ensures in
    let was : c.exchange-left.new.seat.me.0 ≡ c.args.seat.now.seat.me.0 = ap (λ m. m.0) x.3 in
    let carried = ap (λ m. m.1) x.3 ∙ ap (λ cs. (1, Some (Vault c.args.vault)) ∷ rest cs) q.slots in
    let now = (y.2.1 _ c.requires.0 c.args.vault (ap (λ v. v.vault) was ∙ q.vault) carried).0 in
    ap (λ v. v.held) (left_vault g.B.VaultValue.meaning _ c.requires.0 c.args.vault c.args.seat.now.seat.me.0 c.exchange-left.new.seat.me.0 c.store.new.seat.me.0 c.fetch_add.new.seat.me.0 was now z.2.1)

pub returns-clause-mine : goal.returns-clause-mine
returns-clause-mine g c = λ old in_.
    let q = c.requires.1 in
    let x = c.exchange-left.ensures in let y = c.store.ensures in let z = c.fetch_add.ensures in
    let was : c.exchange-left.new.seat.me.0 ≡ c.args.seat.now.seat.me.0 = ap (λ m. m.0) x.3 in
    let carried = ap (λ m. m.1) x.3 ∙ ap (λ cs. (1, Some (Vault c.args.vault)) ∷ rest cs) q.slots in
    let now = (y.2.1 _ c.requires.0 c.args.vault (ap (λ v. v.vault) was ∙ q.vault) carried).0 in
    let final = left_vault g.B.VaultValue.meaning _ c.requires.0 c.args.vault c.args.seat.now.seat.me.0 c.exchange-left.new.seat.me.0 c.store.new.seat.me.0 c.fetch_add.new.seat.me.0 was now z.2.1 in
    ap (λ v. first_of v.holds) final
    ∙ (ap (λ hs. first_of (map (behind_vault g.B.VaultValue.meaning c.requires.0 c.args.vault) hs)) q.seat.one
    ∙ ap (λ w. behind_vault g.B.VaultValue.meaning w c.args.vault (mine c.args.seat.now)) (same_value _ _ c.requires.0 old (sym q.vault ∙ in_.vault)))

pub returns-clause-beside : goal.returns-clause-beside
returns-clause-beside g c =
    let q = c.requires.1 in
    let x = c.exchange-left.ensures in let y = c.store.ensures in
    let was : c.exchange-left.new.seat.me.0 ≡ c.args.seat.now.seat.me.0 = ap (λ m. m.0) x.3 in
    let carried = ap (λ m. m.1) x.3 ∙ ap (λ cs. (1, Some (Vault c.args.vault)) ∷ rest cs) q.slots in
    let told = y.2.1 _ c.requires.0 c.args.vault (ap (λ v. v.vault) was ∙ q.vault) carried in
    let o = some_of c.args.seat.now.seat.me.0.opening q.seat.opened in
    subst (λ (v : View _ _ _ _). DeskBeside g.A.Opening.Opening.meaning g.A.DeskValue.meaning g.B.VaultValue.meaning c.args.vault v.opening v.seen) was
    (subst (λ p. DeskBeside g.A.Opening.Opening.meaning g.A.DeskValue.meaning g.B.VaultValue.meaning c.args.vault p c.exchange-left.new.seat.me.0.seen) (sym (ap (λ v. v.opening) was ∙ o.1)) (told.1 o.0 (ap (λ v. v.opening) was ∙ o.1)))
