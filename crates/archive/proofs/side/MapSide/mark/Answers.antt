use Rattle.std.proofs.Common.{◌≡◌, ◌∙◌, ◌≤◌, ◌∷◌, [], ℕ, List, length, None, MatchResult, Result, Ok, refl, sym, ap, subst, arith}
use Rattle.retro_base.specs.declared.refusal.Refusal.{Refusal}
use Rattle.gate_log.specs.Cause.{HasRoom}
use Rattle.gate_log.proofs.Results.{err_owes}
use Rattle.records.specs.Maplog.{IsMappingBody}
use Rattle.records.specs.declared.map_entry.MapEntry.TheVariants.{Low}
use Rattle.skippy.specs.Mappings.{Mappings, end_of, trim}
use Rattle.map_log.specs.Cause.{IsCallRefusal}
use Rattle.map_log.specs.Log.{Puts}
use Rattle.race_model.specs.Vault.{listing, Maplog as Listed, trim_to}
use Rattle.archive.specs.Side.{SameSide, Side, with_mappings}
use Rattle.archive.proofs.Refusals.{add_faults, fault_called, passed_on}
use Rattle.archive.proofs.Sides.{area_after, failed_side, moves_done, moves_failed, moves_nothing, same_side_of}
use Rattle.archive.proofs.Trims.{first_of, low_body_is, lowers_failed, trim_end, trim_to_is}
use Rattle.archive.proofs.side.MapSide.mark.Goals as goal

pub returns-in_err-mark-clause-moves : goal.returns-in_err-mark-clause-moves
returns-in_err-mark-clause-moves g c =
    rw (← c.self.view_is)
    (λ vault is goes.
    moves_nothing g.D.Disk.is_honest g.D.Disk.remembers g.D.Disk.state g.D.Disk.clock _ vault (listing vault (trim_to vault.mappings c.args.low) ∷ []) is goes c.self.invariant.log
    (λ image told left. g.met.D.Disk.only_now c.self.inside.disk image told left) _ c.from_residual.result (err_owes c.from_residual.result _ _ c.from_residual.ensures.1))

pub returns-in_err-add-clause-lowers : goal.returns-in_err-add-clause-lowers
returns-in_err-add-clause-lowers g c =
    let why = c.in_err-add.field-0.0 in
    let area = c.self.inside.log.area in
    let going : area.fault ≡ None = ap (λ (s : Side g.row.D.Denot). s.log.area.fault) c.self.view_is ∙ c.requires.going in
    let room : HasRoom area.log (length c.in_ok-mark.mark) = rw c.in_ok-mark.ensures.count (omega (arith, c.requires.room, ap (λ (s : Side g.row.D.Denot). s.log.area.log.size) c.self.view_is, ap (λ (s : Side g.row.D.Denot). s.log.area.log.gate) c.self.view_is)) in
    let fault = add_faults area (length c.in_ok-mark.mark) (g.D.Disk.faults c.self.inside.disk) (g.D.Disk.faults c.add.new.disk) why going c.self.invariant.log.device room c.in_err-add.ensures.cause in
    let old : Side g.row.D.Denot = record { disk = c.self.inside.disk; log = c.self.inside.log; levels = c.self.inside.levels; held = c.self.inside.held } in
    let new : Side g.row.D.Denot = record { disk = c.add.new.disk; log = c.add.new.self; levels = c.self.inside.levels; held = c.self.inside.held } in
    rw (← c.self.view_is)
    (lowers_failed old new c.args.low c.from_residual-in_err-add.result why (passed_on c.from_residual-in_err-add.result why c.from_residual-in_err-add.ensures.1) fault.0 refl refl)

pub returns-in_err-add-clause-cause : goal.returns-in_err-add-clause-cause
returns-in_err-add-clause-cause g c =
    let why = c.in_err-add.field-0.0 in
    let area = c.self.inside.log.area in
    let going : area.fault ≡ None = ap (λ (s : Side g.row.D.Denot). s.log.area.fault) c.self.view_is ∙ c.requires.going in
    let room : HasRoom area.log (length c.in_ok-mark.mark) = rw c.in_ok-mark.ensures.count (omega (arith, c.requires.room, ap (λ (s : Side g.row.D.Denot). s.log.area.log.size) c.self.view_is, ap (λ (s : Side g.row.D.Denot). s.log.area.log.gate) c.self.view_is)) in
    let before : ℕ = g.D.Disk.faults c.self.inside.disk in
    let now : ℕ = g.D.Disk.faults c.add.new.disk in
    let fault = add_faults area (length c.in_ok-mark.mark) before now why going c.self.invariant.log.device room c.in_err-add.ensures.cause in
    rw (← c.self.view_is)
    (subst (λ (r : Result (Unit {0}) Refusal). MatchResult r (λ _. now ≡ before) (IsCallRefusal before now)) (sym (passed_on c.from_residual-in_err-add.result why c.from_residual-in_err-add.ensures.1))
    (fault_called before now why fault.1))

pub returns-in_err-add-clause-moves : goal.returns-in_err-add-clause-moves
returns-in_err-add-clause-moves g c =
    let why = c.in_err-add.field-0.0 in
    let old : Side g.row.D.Denot = record { disk = c.self.inside.disk; log = c.self.inside.log; levels = c.self.inside.levels; held = c.self.inside.held } in
    let new : Side g.row.D.Denot = record { disk = c.add.new.disk; log = c.add.new.self; levels = c.self.inside.levels; held = c.self.inside.held } in
    let held : c.args.low ≤ old.held = omega (arith, c.requires.held, ap (λ (s : Side g.row.D.Denot). s.held) c.self.view_is) in
    let above : old.levels.low ≤ c.args.low = omega (arith, c.requires.above, ap (λ (s : Side g.row.D.Denot). s.levels.low) c.self.view_is) in
    rw (← c.self.view_is)
    (λ vault is goes.
    let next : Mappings = trim_to vault.mappings c.args.low in
    let others : List Listed = listing vault next ∷ [] in
    let low : vault.mappings.low ≤ c.args.low = omega (arith, above, is.shows.above) in
    let body : IsMappingBody old.log.version old.log.page_count vault.mappings c.in_ok-mark.mark (Low c.args.low) =
    low_body_is old.log.version old.log.page_count c.args.low vault.mappings c.in_ok-mark.mark low (omega (arith, held, is.shows.end)) (omega arith) c.in_ok-mark.ensures.body in
    let puts : g.D.Disk.is_honest old.disk → Puts old.log new.log vault.mappings next g.D.Disk.remembers g.D.Disk.state g.D.Disk.clock old.disk new.disk c.add.result = λ told.
    subst (λ (m : Mappings). Puts old.log new.log vault.mappings m g.D.Disk.remembers g.D.Disk.state g.D.Disk.clock old.disk new.disk c.add.result) (sym (trim_to_is vault.mappings c.args.low low))
    (c.add.ensures.puts told vault.mappings (Low c.args.low) (is.keeps told goes) body) in
    let same : SameSide g.D.Disk.is_honest old new = same_side_of g.D.Disk.is_honest old new c.add.ensures.same.honest c.add.ensures.log.is in
    moves_failed g.D.Disk.is_honest g.D.Disk.remembers g.D.Disk.state g.D.Disk.clock old new vault next others is (first_of (listing vault next) []) same (λ told. (puts told).any_moment)
    (with_mappings vault next) c.from_residual-in_err-add.result why (passed_on c.from_residual-in_err-add.result why c.from_residual-in_err-add.ensures.1)
    (failed_side g.D.Disk.is_honest g.D.Disk.remembers g.D.Disk.state g.D.Disk.clock old new vault next others is (first_of (listing vault next) []) same (λ told. (puts told).any_moment)
    (λ t image told le at. g.met.D.Disk.counts_now c.add.new.disk t image told le at) is.shows (ap (λ (m : Mappings). m.low) (is.going goes))))

pub returns-clause-moves : goal.returns-clause-moves
returns-clause-moves g c =
    let old : Side g.row.D.Denot = record { disk = c.self.inside.disk; log = c.self.inside.log; levels = c.self.inside.levels; held = c.self.inside.held } in
    let new : Side g.row.D.Denot = record { disk = c.add.new.disk; log = c.add.new.self; levels = c.trim.new.self; held = c.self.inside.held } in
    let held : c.args.low ≤ old.held = omega (arith, c.requires.held, ap (λ (s : Side g.row.D.Denot). s.held) c.self.view_is) in
    let above : old.levels.low ≤ c.args.low = omega (arith, c.requires.above, ap (λ (s : Side g.row.D.Denot). s.levels.low) c.self.view_is) in
    rw (← c.self.view_is)
    (λ vault is goes.
    let next : Mappings = trim_to vault.mappings c.args.low in
    let others : List Listed = listing vault next ∷ [] in
    let low : vault.mappings.low ≤ c.args.low = omega (arith, above, is.shows.above) in
    let trims : next ≡ trim vault.mappings c.args.low = trim_to_is vault.mappings c.args.low low in
    let body : IsMappingBody old.log.version old.log.page_count vault.mappings c.in_ok-mark.mark (Low c.args.low) =
    low_body_is old.log.version old.log.page_count c.args.low vault.mappings c.in_ok-mark.mark low (omega (arith, held, is.shows.end)) (omega arith) c.in_ok-mark.ensures.body in
    let puts : g.D.Disk.is_honest old.disk → Puts old.log new.log vault.mappings next g.D.Disk.remembers g.D.Disk.state g.D.Disk.clock old.disk new.disk (Ok tt) = λ told.
    subst (λ (m : Mappings). Puts old.log new.log vault.mappings m g.D.Disk.remembers g.D.Disk.state g.D.Disk.clock old.disk new.disk (Ok tt)) (sym trims)
    (c.in_ok-add.ensures.puts told vault.mappings (Low c.args.low) (is.keeps told goes) body) in
    let same : SameSide g.D.Disk.is_honest old new = same_side_of g.D.Disk.is_honest old new c.add.ensures.same.honest c.add.ensures.log.is in
    let levels : new.levels ≡ next = c.trim.ensures ∙ ap (λ (m : Mappings). trim m c.args.low) (is.going goes) ∙ sym trims in
    let end : end_of next ≡ new.held = ap (λ (m : Mappings). end_of m) trims ∙ trim_end vault.mappings c.args.low old.held low held is.shows.end in
    moves_done g.D.Disk.is_honest g.D.Disk.remembers g.D.Disk.state g.D.Disk.clock old new vault next others is (first_of (listing vault next) []) same (λ told. (puts told).any_moment)
    (area_after old new c.self.invariant.log c.add.ensures.log.is c.add.ensures.log.after) levels end (λ told. (puts told).keeps))
