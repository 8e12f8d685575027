use Rattle.std.proofs.Common.{◌≡◌, inl, ◌∙◌, ◌≤◌, ◌<◌, ℕ, max, Result, Ok, sym, ap, subst, arith}
use Rattle.std.specs.List.{AllByRecursion}
use Rattle.retro_base.specs.declared.refusal.Refusal.{Refusal}
use Rattle.history.specs.Writes.{pages_of}
use Rattle.skippy.specs.Mappings.{Mappings, end_of}
use Rattle.race_model.specs.Machine.{trimmed, trim_failed}
use Rattle.archive.specs.Side.{IsMapSide, Moves, Side, TrimmedAtMost}
use Rattle.archive.proofs.Batches.{entered_behind, trim_refused}
use Rattle.archive.proofs.Refusals.{passed_on}
use Rattle.archive.proofs.side.MapSide.enter_batch.Goals as goal

pub returns-in_err-lower-clause-moves : goal.returns-in_err-lower-clause-moves
returns-in_err-lower-clause-moves g c = λ vault is goes.
    let why = c.in_err-lower.field-0.0 in
    let first : Moves g.D.Disk.is_honest g.D.Disk.remembers g.D.Disk.state g.D.Disk.clock c.args.self.now c.lower.new.self (trimmed vault c.args.batch.now.low) (trim_failed vault c.args.batch.now.low) c.lower.result =
    subst (λ (n : ℕ). Moves g.D.Disk.is_honest g.D.Disk.remembers g.D.Disk.state g.D.Disk.clock c.args.self.now c.lower.new.self (trimmed vault n) (trim_failed vault n) c.lower.result) c.low.ensures (c.lower.ensures.moves vault is goes) in
    trim_refused g.D.Disk.is_honest g.D.Disk.remembers g.D.Disk.state g.D.Disk.clock vault c.args.batch.now c.args.self.now c.lower.new.self c.lower.result c.from_residual.result why c.in_err-lower.was
    (passed_on c.from_residual.result why c.from_residual.ensures.1) first

pub returns-in_err-lower-clause-memory : goal.returns-in_err-lower-clause-memory
returns-in_err-lower-clause-memory g c = λ vault is goes.
    let why = c.in_err-lower.field-0.0 in
    subst (λ (r : Result (Unit {0}) Refusal). TrimmedAtMost g.D.Disk.is_honest g.D.Disk.state c.lower.new.self vault c.args.batch.now r) (sym (passed_on c.from_residual.result why c.from_residual.ensures.1))
    (λ no. inl (subst (λ (s : Side g.row.D.Denot). IsMapSide g.D.Disk.is_honest g.D.Disk.state s vault) (sym (c.in_err-lower.ensures.lowers.untouched no)) is))

pub enter-requires-clause-batch : goal.enter-requires-clause-batch
enter-requires-clause-batch g c =
    let low : c.lower.new.self.levels.low ≡ max c.args.self.now.levels.low c.args.batch.now.low = ap (λ (m : Mappings). m.low) c.in_ok-lower.ensures.lowers.levels ∙ ap (λ n. max c.args.self.now.levels.low n) c.low.ensures in
    let held : c.lower.new.self.held ≡ c.args.self.now.held = c.lower.ensures.lowers.held in
    let capacity : c.lower.new.self.log.capacity ≡ c.args.self.now.log.capacity = c.lower.ensures.same.capacity in
    record {
      some = c.requires.batch.some;
      few = c.requires.batch.few;
      room = omega (arith, c.requires.batch.room, c.requires.batch.first, low, held, capacity);
      end = omega (arith, c.requires.batch.end, c.requires.batch.first, held);
      pages = subst (λ (n : ℕ). AllByRecursion (λ page. page < n) (pages_of c.args.batch.now.images)) (sym c.lower.ensures.same.page_count) c.requires.batch.pages;
    }

pub returns-clause-moves : goal.returns-clause-moves
returns-clause-moves g c = λ vault is goes.
    let first : Moves g.D.Disk.is_honest g.D.Disk.remembers g.D.Disk.state g.D.Disk.clock c.args.self.now c.lower.new.self (trimmed vault c.args.batch.now.low) (trim_failed vault c.args.batch.now.low) (Ok tt) =
    subst (λ (n : ℕ). Moves g.D.Disk.is_honest g.D.Disk.remembers g.D.Disk.state g.D.Disk.clock c.args.self.now c.lower.new.self (trimmed vault n) (trim_failed vault n) (Ok tt)) c.low.ensures (c.in_ok-lower.ensures.moves vault is goes) in
    let within : c.args.batch.now.low ≤ end_of vault.mappings = omega (arith, is.shows.end, c.requires.batch.low, c.requires.batch.first) in
    entered_behind g.D.Disk.is_honest g.D.Disk.remembers g.D.Disk.state g.D.Disk.clock vault c.args.batch.now c.args.self.now c.lower.new.self c.enter.new.self c.enter.result within c.lower.ensures.same first
    (c.enter.ensures.moves (trimmed vault c.args.batch.now.low) first.steps goes)
