use Rattle.std.proofs.Common.{◌≡◌, ◌∙◌, ◌≤◌, ◌∷◌, [], max, Ok, sym, ap, subst, arith}
use Rattle.skippy.specs.Mappings.{Mappings}
use Rattle.race_model.specs.Machine.{trimmed}
use Rattle.race_model.specs.Vault.{listing, trim_to}
use Rattle.archive.specs.Side.{IsMapSide, Moves, Side, stopped_with, with_mappings}
use Rattle.archive.proofs.Sides.{moves_nothing}
use Rattle.archive.proofs.Trims.{trim_to_max, trim_to_none}
use Rattle.archive.proofs.side.MapSide.lower.Goals as goal

pub returns-then-not-has_room_for-clause-moves : goal.returns-then-not-has_room_for-clause-moves
returns-then-not-has_room_for-clause-moves g c = λ vault is goes.
    let low : c.low.result ≡ vault.mappings.low = c.low.ensures ∙ ap (λ (s : Side g.row.D.Denot). s.levels.low) c.self.view_is ∙ ap (λ (m : Mappings). m.low) (is.going goes) in
    let least : c.max-least.result ≡ max c.args.low vault.mappings.low = c.max-least.ensures ∙ ap (λ n. max c.args.low n) low in
    subst (λ (m : Mappings). Moves g.D.Disk.is_honest g.D.Disk.remembers g.D.Disk.state g.D.Disk.clock c.args.self.now c.rewrite.new.self (with_mappings vault m) (stopped_with vault (listing vault m ∷ [])) c.rewrite.result)
    (trim_to_max vault.mappings c.args.low c.max-least.result least) (c.rewrite.ensures.moves vault is goes)

pub returns-clause-moves : goal.returns-clause-moves
returns-clause-moves g c =
    let old : Side g.row.D.Denot = record { disk = c.self.inside.disk; log = c.self.inside.log; levels = c.self.inside.levels; held = c.self.inside.held } in
    rw (← c.self.view_is)
    (λ vault is goes.
    let low : c.low.result ≡ vault.mappings.low = c.low.ensures ∙ ap (λ (m : Mappings). m.low) (is.going goes) in
    let below : c.args.low ≤ vault.mappings.low = omega (arith, c.max-least.ensures, low, c.low-2.ensures, c.low.ensures, c.if-low-least.false) in
    moves_nothing g.D.Disk.is_honest g.D.Disk.remembers g.D.Disk.state g.D.Disk.clock old vault (listing vault (trim_to vault.mappings c.args.low) ∷ []) is goes c.self.invariant.log
    (λ image told left. g.met.D.Disk.only_now c.self.inside.disk image told left) (trimmed vault c.args.low) (Ok tt)
    (subst (λ (m : Mappings). IsMapSide g.D.Disk.is_honest g.D.Disk.state old (with_mappings vault m)) (sym (trim_to_none vault.mappings c.args.low below)) is))
