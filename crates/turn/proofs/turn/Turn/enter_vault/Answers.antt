use Rattle.std.proofs.Common.{◌≡◌, rules, sym, ap, ◌∙◌, subst, List, Some, ◌∷◌}
use Rattle.atomic_table.specs.Table.{rest}
use Rattle.turn.specs.declared.view.Kept.TheVariants.{Vault}
use Rattle.history.specs.declared.journal.Line.{Line}
use Rattle.turn.specs.Rule.{DeskBeside}
use Rattle.turn.proofs.Handing.{parts_here, same_kept, some_of}
use Rattle.turn.proofs.Steps.{draw_vault, read_vault}
use Rattle.turn.proofs.turn.Turn.enter_vault.Goals as goal

pub fetch_add-ticket-requires : goal.fetch_add-ticket-requires
fetch_add-ticket-requires g c = (c.requires.seat.table, search rules, draw_vault _ _ _ _ _ _ _ c.args.seat.now.seat.me c.requires.vault (parts_here _ c.args.seat.now c.requires.seat))

pub load-serving-requires : goal.load-serving-requires
load-serving-requires g c = let i = c.loop.invariant in
    (i.1 ∙ c.requires.seat.table, search rules, read_vault _ _ _ _ _ _ _ i.3.0 c.loop.seat.seat.me (ap (λ m. m.0.vault) i.3.2) (ap (λ m. m.0.desk) i.3.2 ∙ c.requires.desk))

pub exchange-taken-requires : goal.exchange-taken-requires
exchange-taken-requires g c = let i = c.loop.invariant in let x = c.load-serving.ensures in
    let got = (x.2 i.3.0 (ap (λ m. m.0.vault) i.3.2)).0 (c.if-serving-ticket.true ∙ i.3.1) in
    (x.0 ∙ (i.1 ∙ c.requires.seat.table), (Some (Vault got.value), got.slots ∙ ap (λ cs. (1, Some (Vault got.value)) ∷ rest cs) (sym got.slots)))

pub returns-then-serving-ticket-clause-beside : goal.returns-then-serving-ticket-clause-beside
returns-then-serving-ticket-clause-beside g c =
    let i = c.loop.invariant in let x = c.load-serving.ensures in
    let got = (x.2 i.3.0 (ap (λ m. m.0.vault) i.3.2)).0 (c.if-serving-ticket.true ∙ i.3.1) in
    let same : got.value ≡ c.in-Some-Vault.vault = same_kept _ _ _ _ got.value c.in-Some-Vault.vault got.slots c.exchange-taken.ensures.2 (c.in-Some-Vault.is ∙ ap Some c.in-Some-Vault.field-0-is) in
    let o = some_of c.args.seat.now.seat.me.0.opening c.requires.seat.opened in
    let near = got.beside o.0 (ap (λ m. m.0.opening) i.3.2 ∙ o.1) in
    let sees : c.load-serving.new.seat.me.0.seen ≡ c.exchange-taken.new.seat.me.0.seen = sym (ap (λ m. m.0.seen) c.exchange-taken.ensures.3) in
    subst (λ (v : g.row.B.Denot × List Line). (d : DeskBeside g.A.Opening.Opening.meaning g.A.DeskValue.meaning g.B.VaultValue.meaning v.0 c.args.seat.now.seat.me.0.opening v.1) × (g.A.DeskValue.meaning.journal d.desk ≡ v.1)) (λ k. (same k, sees k))
    (subst (λ p. (d : DeskBeside g.A.Opening.Opening.meaning g.A.DeskValue.meaning g.B.VaultValue.meaning got.value p c.load-serving.new.seat.me.0.seen) × (g.A.DeskValue.meaning.journal d.desk ≡ c.load-serving.new.seat.me.0.seen)) (sym o.1) near)
