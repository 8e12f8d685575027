use Rattle.std.proofs.Common.{◌≡◌, ◌∙◌, ◌+◌, ◌∷◌, [], ℕ, List, length, length-append, None, MatchResult, Result, Ok, refl, sym, ap, subst, arith}
use Rattle.retro_base.specs.declared.refusal.Refusal.{Refusal}
use Rattle.gate_log.specs.Cause.{HasRoom}
use Rattle.gate_log.proofs.Results.{err_owes}
use Rattle.history.specs.Writes.{pages_of}
use Rattle.records.specs.Maplog.{IsMappingBody, map_entry_bytes}
use Rattle.records.specs.declared.map_entry.MapEntry.TheVariants.{Run}
use Rattle.skippy.specs.Mappings.{Mappings, end_of, push}
use Rattle.map_log.specs.Bodies.{run_length}
use Rattle.map_log.specs.Cause.{IsCallRefusal}
use Rattle.map_log.specs.Log.{Puts}
use Rattle.race_model.specs.Vault.{listing, Maplog as Listed}
use Rattle.archive.specs.Side.{IsEntering, Moves, SameSide, Shows, Side, stopped_with, with_mappings}
use Rattle.archive.proofs.Entering.{entered_side, entered_side_failed, maps_failed, length-pages, run_body_is, stops_there}
use Rattle.archive.proofs.Refusals.{add_faults, fault_called, passed_on}
use Rattle.archive.proofs.Sides.{area_after, failed_side, moves_done, moves_failed, moves_nothing, same_side_of, shows_more}
use Rattle.archive.proofs.Trims.{first_of}
use Rattle.archive.proofs.side.MapSide.enter.Goals as goal

pub returns-in_err-run-clause-moves : goal.returns-in_err-run-clause-moves
returns-in_err-run-clause-moves g c =
    rw (← c.self.view_is)
    (λ vault is goes.
    moves_nothing g.D.Disk.is_honest g.D.Disk.remembers g.D.Disk.state g.D.Disk.clock _ vault (listing vault (push vault.mappings (pages_of c.args.batch.now.images)) ∷ []) is goes c.self.invariant.log
    (λ image told left. g.met.D.Disk.only_now c.self.inside.disk image told left) _ c.from_residual.result (err_owes c.from_residual.result _ _ c.from_residual.ensures.1))

pub returns-in_err-push-clause-moves : goal.returns-in_err-push-clause-moves
returns-in_err-push-clause-moves g c =
    let old : Side g.row.D.Denot = record { disk = c.self.inside.disk; log = c.self.inside.log; levels = c.self.inside.levels; held = c.self.inside.held } in
    let new : Mappings → Side g.row.D.Denot = λ (m : Mappings). let s : Side g.row.D.Denot = record { disk = c.self.inside.disk; log = c.self.inside.log; levels = m; held = c.self.inside.held } in s in
    rw (← c.self.view_is)
    (λ vault is goes.
    let next : Mappings = push vault.mappings (pages_of c.args.batch.now.images) in
    subst (λ (m : Mappings). Moves g.D.Disk.is_honest g.D.Disk.remembers g.D.Disk.state g.D.Disk.clock old (new m) (with_mappings vault next) (stopped_with vault (listing vault next ∷ [])) c.from_residual-in_err-push.result) (sym c.in_err-push.ensures.err)
    (moves_nothing g.D.Disk.is_honest g.D.Disk.remembers g.D.Disk.state g.D.Disk.clock old vault (listing vault next ∷ []) is goes c.self.invariant.log
    (λ image told left. g.met.D.Disk.only_now c.self.inside.disk image told left) (with_mappings vault next) c.from_residual-in_err-push.result (err_owes c.from_residual-in_err-push.result _ _ c.from_residual-in_err-push.ensures.1)))

pub invariant_of-self-in_err-add : goal.invariant_of-self-in_err-add
invariant_of-self-in_err-add g c =
    let old : Side g.row.D.Denot = record { disk = c.self.inside.disk; log = c.self.inside.log; levels = c.self.inside.levels; held = c.self.inside.held } in
    let new : Side g.row.D.Denot = record { disk = c.add.new.disk; log = c.add.new.self; levels = c.push.new.self; held = c.self.inside.held } in
    let going : old.log.area.fault ≡ None = ap (λ (s : Side g.row.D.Denot). s.log.area.fault) c.self.view_is ∙ c.requires.going in
    let asks : IsEntering old c.args.batch.now = subst (λ (s : Side g.row.D.Denot). IsEntering s c.args.batch.now) (sym c.self.view_is) c.requires.batch in
    let room : HasRoom old.log.area.log (length c.in_ok-run.run') =
    subst (λ n. HasRoom old.log.area.log n) (sym (c.in_ok-run.ensures.count ∙ ap (λ (ps : List ℕ). run_length old.log.version (length ps)) c.pages-pages.ensures ∙ ap (λ n. run_length old.log.version n) (length-pages c.args.batch.now.images)))
    (subst (λ (s : Side g.row.D.Denot). HasRoom s.log.area.log (run_length s.log.version (length c.args.batch.now.images))) (sym c.self.view_is) c.requires.room) in
    let why = c.in_err-add.field-0.0 in
    let fault = add_faults old.log.area (length c.in_ok-run.run') (g.D.Disk.faults old.disk) (g.D.Disk.faults c.add.new.disk) why going c.self.invariant.log.device room c.in_err-add.ensures.cause in
    entered_side_failed g.D.Disk.extent old new c.args.batch.now c.self.invariant asks going c.pages-pages.result.now c.pages-pages.ensures c.add.ensures.same.size c.add.ensures.log.is c.add.ensures.log.after c.in_ok-push.ensures.ok refl
    (stops_there g.D.Disk.extent old new c.args.batch.now c.self.invariant asks going c.pages-pages.result.now c.pages-pages.ensures c.add.ensures.same.size c.add.ensures.log.is c.add.ensures.log.after c.in_ok-push.ensures.ok why (c.in_err-add.was) fault.0)

pub returns-in_err-add-clause-maps : goal.returns-in_err-add-clause-maps
returns-in_err-add-clause-maps g c =
    let old : Side g.row.D.Denot = record { disk = c.self.inside.disk; log = c.self.inside.log; levels = c.self.inside.levels; held = c.self.inside.held } in
    let new : Side g.row.D.Denot = record { disk = c.add.new.disk; log = c.add.new.self; levels = c.push.new.self; held = c.self.inside.held } in
    let going : old.log.area.fault ≡ None = ap (λ (s : Side g.row.D.Denot). s.log.area.fault) c.self.view_is ∙ c.requires.going in
    let asks : IsEntering old c.args.batch.now = subst (λ (s : Side g.row.D.Denot). IsEntering s c.args.batch.now) (sym c.self.view_is) c.requires.batch in
    let room : HasRoom old.log.area.log (length c.in_ok-run.run') =
    subst (λ n. HasRoom old.log.area.log n) (sym (c.in_ok-run.ensures.count ∙ ap (λ (ps : List ℕ). run_length old.log.version (length ps)) c.pages-pages.ensures ∙ ap (λ n. run_length old.log.version n) (length-pages c.args.batch.now.images)))
    (subst (λ (s : Side g.row.D.Denot). HasRoom s.log.area.log (run_length s.log.version (length c.args.batch.now.images))) (sym c.self.view_is) c.requires.room) in
    let why = c.in_err-add.field-0.0 in
    let fault = add_faults old.log.area (length c.in_ok-run.run') (g.D.Disk.faults old.disk) (g.D.Disk.faults c.add.new.disk) why going c.self.invariant.log.device room c.in_err-add.ensures.cause in
    rw (← c.self.view_is)
    (maps_failed old new (pages_of c.args.batch.now.images) c.from_residual-in_err-add.result why (passed_on c.from_residual-in_err-add.result why c.from_residual-in_err-add.ensures.1) fault.0 refl)

pub returns-in_err-add-clause-cause : goal.returns-in_err-add-clause-cause
returns-in_err-add-clause-cause g c =
    let old : Side g.row.D.Denot = record { disk = c.self.inside.disk; log = c.self.inside.log; levels = c.self.inside.levels; held = c.self.inside.held } in
    let new : Side g.row.D.Denot = record { disk = c.add.new.disk; log = c.add.new.self; levels = c.push.new.self; held = c.self.inside.held } in
    let going : old.log.area.fault ≡ None = ap (λ (s : Side g.row.D.Denot). s.log.area.fault) c.self.view_is ∙ c.requires.going in
    let asks : IsEntering old c.args.batch.now = subst (λ (s : Side g.row.D.Denot). IsEntering s c.args.batch.now) (sym c.self.view_is) c.requires.batch in
    let room : HasRoom old.log.area.log (length c.in_ok-run.run') =
    subst (λ n. HasRoom old.log.area.log n) (sym (c.in_ok-run.ensures.count ∙ ap (λ (ps : List ℕ). run_length old.log.version (length ps)) c.pages-pages.ensures ∙ ap (λ n. run_length old.log.version n) (length-pages c.args.batch.now.images)))
    (subst (λ (s : Side g.row.D.Denot). HasRoom s.log.area.log (run_length s.log.version (length c.args.batch.now.images))) (sym c.self.view_is) c.requires.room) in
    let why = c.in_err-add.field-0.0 in
    let fault = add_faults old.log.area (length c.in_ok-run.run') (g.D.Disk.faults old.disk) (g.D.Disk.faults c.add.new.disk) why going c.self.invariant.log.device room c.in_err-add.ensures.cause in
    let before : ℕ = g.D.Disk.faults old.disk in
    let now : ℕ = g.D.Disk.faults new.disk in
    rw (← c.self.view_is)
    (subst (λ (r : Result (Unit {0}) Refusal). MatchResult r (λ _. now ≡ before) (IsCallRefusal before now)) (sym (passed_on c.from_residual-in_err-add.result why c.from_residual-in_err-add.ensures.1))
    (fault_called before now why fault.1))

pub returns-in_err-add-clause-moves : goal.returns-in_err-add-clause-moves
returns-in_err-add-clause-moves g c =
    let old : Side g.row.D.Denot = record { disk = c.self.inside.disk; log = c.self.inside.log; levels = c.self.inside.levels; held = c.self.inside.held } in
    let new : Side g.row.D.Denot = record { disk = c.add.new.disk; log = c.add.new.self; levels = c.push.new.self; held = c.self.inside.held } in
    let going : old.log.area.fault ≡ None = ap (λ (s : Side g.row.D.Denot). s.log.area.fault) c.self.view_is ∙ c.requires.going in
    let asks : IsEntering old c.args.batch.now = subst (λ (s : Side g.row.D.Denot). IsEntering s c.args.batch.now) (sym c.self.view_is) c.requires.batch in
    let why = c.in_err-add.field-0.0 in
    rw (← c.self.view_is)
    (λ vault is goes.
    let pages : List ℕ = pages_of c.args.batch.now.images in
    let next : Mappings = push vault.mappings pages in
    let others : List Listed = listing vault next ∷ [] in
    let count : length pages ≡ length c.args.batch.now.images = length-pages c.args.batch.now.images in
    let spelled : c.in_ok-run.run' ≡ map_entry_bytes old.log.version (Run old.held pages) = c.in_ok-run.ensures.body ∙ ap (λ (ps : List ℕ). map_entry_bytes old.log.version (Run old.held ps)) c.pages-pages.ensures in
    let body : IsMappingBody old.log.version old.log.page_count vault.mappings c.in_ok-run.run' (Run old.held pages) =
    run_body_is old.log old.held vault.mappings pages c.in_ok-run.run' c.self.invariant.log (sym is.shows.end) (omega (arith, count, asks.some)) (omega (arith, count, asks.few)) (omega (arith, count, is.shows.end, asks.end)) asks.pages spelled in
    let puts : g.D.Disk.is_honest old.disk → Puts old.log new.log vault.mappings next g.D.Disk.remembers g.D.Disk.state g.D.Disk.clock old.disk new.disk c.add.result = λ told.
    c.add.ensures.puts told vault.mappings (Run old.held pages) (is.keeps told goes) body in
    let same : SameSide g.D.Disk.is_honest old new = same_side_of g.D.Disk.is_honest old new c.add.ensures.same.honest c.add.ensures.log.is in
    let levels : new.levels ≡ next = c.in_ok-push.ensures.ok ∙ ap (λ (m : Mappings). push m c.pages-pages.result.now) (is.going goes) ∙ ap (λ (ps : List ℕ). push vault.mappings ps) c.pages-pages.ensures in
    let shows : Shows new.levels new.held vault.mappings = subst (λ (m : Mappings). Shows m new.held vault.mappings) (sym levels) (shows_more vault.mappings new.held pages is.shows.end) in
    moves_failed g.D.Disk.is_honest g.D.Disk.remembers g.D.Disk.state g.D.Disk.clock old new vault next others is (first_of (listing vault next) []) same (λ told. (puts told).any_moment)
    (with_mappings vault next) c.from_residual-in_err-add.result why (passed_on c.from_residual-in_err-add.result why c.from_residual-in_err-add.ensures.1)
    (failed_side g.D.Disk.is_honest g.D.Disk.remembers g.D.Disk.state g.D.Disk.clock old new vault next others is (first_of (listing vault next) []) same (λ told. (puts told).any_moment)
    (λ t image told le at. g.met.D.Disk.counts_now c.add.new.disk t image told le at) shows (ap (λ (m : Mappings). m.low) levels)))

pub invariant_of-self-2 : goal.invariant_of-self-2
invariant_of-self-2 g c =
    let old : Side g.row.D.Denot = record { disk = c.self.inside.disk; log = c.self.inside.log; levels = c.self.inside.levels; held = c.self.inside.held } in
    let new : Side g.row.D.Denot = record { disk = c.add.new.disk; log = c.add.new.self; levels = c.push.new.self; held = c.self.inside.held + length c.pages-pages.result.now } in
    let going : old.log.area.fault ≡ None = ap (λ (s : Side g.row.D.Denot). s.log.area.fault) c.self.view_is ∙ c.requires.going in
    let asks : IsEntering old c.args.batch.now = subst (λ (s : Side g.row.D.Denot). IsEntering s c.args.batch.now) (sym c.self.view_is) c.requires.batch in
    let count : length c.pages-pages.result.now ≡ length c.args.batch.now.images = ap (λ (ps : List ℕ). length ps) c.pages-pages.ensures ∙ length-pages c.args.batch.now.images in
    entered_side g.D.Disk.extent old new c.args.batch.now c.self.invariant asks going c.pages-pages.result.now c.pages-pages.ensures c.add.ensures.same.size c.add.ensures.log.is c.add.ensures.log.after c.in_ok-push.ensures.ok (ap (λ n. old.held + n) count)

pub returns-clause-moves : goal.returns-clause-moves
returns-clause-moves g c =
    let old : Side g.row.D.Denot = record { disk = c.self.inside.disk; log = c.self.inside.log; levels = c.self.inside.levels; held = c.self.inside.held } in
    let new : Side g.row.D.Denot = record { disk = c.add.new.disk; log = c.add.new.self; levels = c.push.new.self; held = c.self.inside.held + length c.pages-pages.result.now } in
    let going : old.log.area.fault ≡ None = ap (λ (s : Side g.row.D.Denot). s.log.area.fault) c.self.view_is ∙ c.requires.going in
    let asks : IsEntering old c.args.batch.now = subst (λ (s : Side g.row.D.Denot). IsEntering s c.args.batch.now) (sym c.self.view_is) c.requires.batch in
    rw (← c.self.view_is)
    (λ vault is goes.
    let pages : List ℕ = pages_of c.args.batch.now.images in
    let next : Mappings = push vault.mappings pages in
    let others : List Listed = listing vault next ∷ [] in
    let count : length pages ≡ length c.args.batch.now.images = length-pages c.args.batch.now.images in
    let spelled : c.in_ok-run.run' ≡ map_entry_bytes old.log.version (Run old.held pages) = c.in_ok-run.ensures.body ∙ ap (λ (ps : List ℕ). map_entry_bytes old.log.version (Run old.held ps)) c.pages-pages.ensures in
    let body : IsMappingBody old.log.version old.log.page_count vault.mappings c.in_ok-run.run' (Run old.held pages) =
    run_body_is old.log old.held vault.mappings pages c.in_ok-run.run' c.self.invariant.log (sym is.shows.end) (omega (arith, count, asks.some)) (omega (arith, count, asks.few)) (omega (arith, count, is.shows.end, asks.end)) asks.pages spelled in
    let puts : g.D.Disk.is_honest old.disk → Puts old.log new.log vault.mappings next g.D.Disk.remembers g.D.Disk.state g.D.Disk.clock old.disk new.disk (Ok tt) = λ told.
    c.in_ok-add.ensures.puts told vault.mappings (Run old.held pages) (is.keeps told goes) body in
    let same : SameSide g.D.Disk.is_honest old new = same_side_of g.D.Disk.is_honest old new c.add.ensures.same.honest c.add.ensures.log.is in
    let levels : new.levels ≡ next = c.in_ok-push.ensures.ok ∙ ap (λ (m : Mappings). push m c.pages-pages.result.now) (is.going goes) ∙ ap (λ (ps : List ℕ). push vault.mappings ps) c.pages-pages.ensures in
    let end : end_of next ≡ new.held = omega (arith, is.shows.end, length-append vault.mappings.pages pages, ap (λ (ps : List ℕ). length ps) c.pages-pages.ensures) in
    moves_done g.D.Disk.is_honest g.D.Disk.remembers g.D.Disk.state g.D.Disk.clock old new vault next others is (first_of (listing vault next) []) same (λ told. (puts told).any_moment)
    (area_after old new c.self.invariant.log c.add.ensures.log.is c.add.ensures.log.after) levels end (λ told. (puts told).keeps))
