use Rattle.std.proofs.Common.{◌≡◌, ◌∙◌, ◌≤◌, ◌∷◌, [], Ok, sym, ap, subst, arith}
use Rattle.skippy.specs.Mappings.{Mappings}
use Rattle.race_model.specs.Machine.{trimmed}
use Rattle.race_model.specs.Vault.{listing, trim_to}
use Rattle.archive.specs.Side.{IsMapSide, Side, with_mappings}
use Rattle.archive.proofs.Sides.{moves_nothing}
use Rattle.archive.proofs.Trims.{trim_to_none}
use Rattle.archive.proofs.side.MapSide.trim.Goals as goal

pub returns-then-low-clause-moves : goal.returns-then-low-clause-moves
returns-then-low-clause-moves g c =
    let old : Side g.row.D.Denot = record { disk = c.self.inside.disk; log = c.self.inside.log; levels = c.self.inside.levels; held = c.self.inside.held } in
    rw (← c.self.view_is)
    (λ vault is goes.
    let low : c.low.result ≡ vault.mappings.low = c.low.ensures ∙ ap (λ (m : Mappings). m.low) (is.going goes) in
    let below : c.args.low ≤ vault.mappings.low = omega (arith, low, c.if-low.true) in
    moves_nothing g.D.Disk.is_honest g.D.Disk.remembers g.D.Disk.state g.D.Disk.clock old vault (listing vault (trim_to vault.mappings c.args.low) ∷ []) is goes c.self.invariant.log
    (λ image told left. g.met.D.Disk.only_now c.self.inside.disk image told left) (trimmed vault c.args.low) (Ok tt)
    (subst (λ (m : Mappings). IsMapSide g.D.Disk.is_honest g.D.Disk.state old (with_mappings vault m)) (sym (trim_to_none vault.mappings c.args.low below)) is))
