use Rattle.std.proofs.Common.{◌≡◌, ◌∙◌, ◌+◌, ◌≤◌, length, max, is_some, true, refl, sym, ap, subst, arith}
use Rattle.retro_base.specs.declared.device.Device.TheVariants.{Pagelog as OfPagelog}
use Rattle.race_model.specs.Vault.{batch_end}
use Rattle.block_file.proofs.Blocks.{writes_long}
use Rattle.archive.specs.Archive.{Running}
use Rattle.archive.specs.Side.{IsNextBatch}
use Rattle.archive.proofs.LaidSlots.{lays_done, lays_failed}
use Rattle.archive.proofs.Refusals.{fault_is_some}
use Rattle.archive.proofs.archive.Archive.lay_batch.Goals as goal

pub returns-in-Ok-clause-turns : goal.returns-in-Ok-clause-turns
returns-in-Ok-clause-turns g c =
    let old : Running g.row.D.Denot = record { side = c.self.inside.side; pagelog = c.self.inside.pagelog; laid = c.self.inside.laid; first_fault = c.self.inside.first_fault } in
    let new : Running g.row.D.Denot = record { side = c.self.inside.side; pagelog = c.lay_all.new.pagelog; laid = c.max-self-inside.result; first_fault = c.self.inside.first_fault } in
    let asks : IsNextBatch old.side c.args.batch.now = subst (λ (a : Running g.row.D.Denot). IsNextBatch a.side c.args.batch.now) (sym c.self.view_is) c.requires in
    let few : length c.args.batch.now.images ≤ old.pagelog.blocks = omega (arith, asks.room, asks.low, asks.first, c.held-held.ensures.low, c.held-held.ensures.same, c.self.invariant.slots) in
    let end : c.held-held.result + c.len.result ≡ batch_end c.args.batch.now = omega (arith, c.held-held.ensures.same, c.len.ensures, asks.first) in
    rw (← c.self.view_is)
    (λ vault is goes.
    lays_done g.D.Disk.is_honest g.D.Disk.remembers g.D.Disk.state g.D.Disk.clock old new vault c.args.batch.now is goes refl c.lay_all.ensures.same few c.lay_all.ensures.alone
    refl (c.max-self-inside.ensures ∙ ap (λ n. max old.laid n) end) c.in-Ok.ensures.durable c.in-Ok.ensures.laid)

pub returns-in-Err-clause-turns : goal.returns-in-Err-clause-turns
returns-in-Err-clause-turns g c =
    let old : Running g.row.D.Denot = record { side = c.self.inside.side; pagelog = c.self.inside.pagelog; laid = c.self.inside.laid; first_fault = c.self.inside.first_fault } in
    let new : Running g.row.D.Denot = record { side = c.self.inside.side; pagelog = c.lay_all.new.pagelog; laid = c.held-held.result; first_fault = c.keep.new.first } in
    let asks : IsNextBatch old.side c.args.batch.now = subst (λ (a : Running g.row.D.Denot). IsNextBatch a.side c.args.batch.now) (sym c.self.view_is) c.requires in
    let few : length c.args.batch.now.images ≤ old.pagelog.blocks = omega (arith, asks.room, asks.low, asks.first, c.held-held.ensures.low, c.held-held.ensures.same, c.self.invariant.slots) in
    let stops : is_some c.keep.new.first ≡ true = ap is_some c.keep.ensures.kept ∙ fault_is_some old.first_fault (g.D.Disk.faults old.pagelog.disk) (g.D.Disk.faults new.pagelog.disk) OfPagelog c.in-Err.why c.in-Err.ensures.cause in
    rw (← c.self.view_is)
    (λ vault is goes.
    lays_failed g.D.Disk.is_honest g.D.Disk.remembers g.D.Disk.state g.D.Disk.clock old new vault c.args.batch.now is goes refl c.lay_all.ensures.same few c.lay_all.ensures.alone
    c.keep.result stops c.held-held.ensures.same)

pub returns-in-Ok-clause-long : goal.returns-in-Ok-clause-long
returns-in-Ok-clause-long g c = rw (← c.self.view_is) (λ honest. writes_long _ g.D.Disk.remembers g.D.Disk.state g.D.Disk.clock c.self.inside.pagelog.disk c.lay_all.new.pagelog.disk (c.lay_all.ensures.alone honest))

pub returns-in-Err-clause-long : goal.returns-in-Err-clause-long
returns-in-Err-clause-long g c = rw (← c.self.view_is) (λ honest. writes_long _ g.D.Disk.remembers g.D.Disk.state g.D.Disk.clock c.self.inside.pagelog.disk c.lay_all.new.pagelog.disk (c.lay_all.ensures.alone honest))
