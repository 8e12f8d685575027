use Rattle.std.proofs.Common.{◌≡◌, ◌∙◌, ◌-◌, ◌≤◌, ◌∷◌, [], ℕ, List, drop, Ok, sym, ap, subst, arith}
use Rattle.gate_log.proofs.Results.{err_owes}
use Rattle.skippy.specs.Mappings.{Mappings, end_of, trim}
use Rattle.map_log.specs.Log.{Puts}
use Rattle.race_model.specs.Vault.{listing, Maplog as Listed, trim_to}
use Rattle.archive.specs.Side.{SameSide, Side, with_mappings}
use Rattle.archive.proofs.Refusals.{passed_on}
use Rattle.archive.proofs.Sides.{area_after, failed_side, moves_done, moves_failed, moves_nothing, same_side_of}
use Rattle.archive.proofs.Trims.{first_of, trim_end, trim_to_is}
use Rattle.archive.proofs.side.MapSide.rewrite.Goals as goal

pub returns-in_err-pages-clause-moves : goal.returns-in_err-pages-clause-moves
returns-in_err-pages-clause-moves g c =
    rw (← c.self.view_is)
    (λ vault is goes.
    moves_nothing g.D.Disk.is_honest g.D.Disk.remembers g.D.Disk.state g.D.Disk.clock _ vault (listing vault (trim_to vault.mappings c.args.low) ∷ []) is goes c.self.invariant.log
    (λ image told left. g.met.D.Disk.only_now c.self.inside.disk image told left) _ c.from_residual.result (err_owes c.from_residual.result _ _ c.from_residual.ensures.1))

pub returns-in_err-rewrite-clause-moves : goal.returns-in_err-rewrite-clause-moves
returns-in_err-rewrite-clause-moves g c =
    let why = c.in_err-rewrite.field-0.0 in
    let old : Side g.row.D.Denot = record { disk = c.self.inside.disk; log = c.self.inside.log; levels = c.self.inside.levels; held = c.self.inside.held } in
    let new : Side g.row.D.Denot = record { disk = c.rewrite.new.disk; log = c.rewrite.new.self; levels = c.self.inside.levels; held = c.self.inside.held } in
    let above : old.levels.low ≤ c.args.low = omega (arith, c.requires.above, ap (λ (s : Side g.row.D.Denot). s.levels.low) c.self.view_is) in
    let pages : c.deref.result.now ≡ drop (c.args.low - old.levels.low) old.levels.pages = c.deref.ensures.value ∙ c.in_ok-pages.ensures.ok in
    rw (← c.self.view_is)
    (λ vault is goes.
    let next : Mappings = trim_to vault.mappings c.args.low in
    let others : List Listed = listing vault next ∷ [] in
    let low : vault.mappings.low ≤ c.args.low = omega (arith, above, is.shows.above) in
    let kept : (let m : Mappings = record { low = c.args.low; pages = c.deref.result.now } in m) ≡ next =
    ap (λ (ps : List ℕ). let m : Mappings = record { low = c.args.low; pages = ps } in m) pages ∙ ap (λ (m : Mappings). trim m c.args.low) (is.going goes) ∙ sym (trim_to_is vault.mappings c.args.low low) in
    let puts : g.D.Disk.is_honest old.disk → Puts old.log new.log vault.mappings next g.D.Disk.remembers g.D.Disk.state g.D.Disk.clock old.disk new.disk c.rewrite.result = λ told.
    subst (λ (m : Mappings). Puts old.log new.log vault.mappings m g.D.Disk.remembers g.D.Disk.state g.D.Disk.clock old.disk new.disk c.rewrite.result) kept
    (c.rewrite.ensures.puts told vault.mappings (is.keeps told goes)) in
    let same : SameSide g.D.Disk.is_honest old new = same_side_of g.D.Disk.is_honest old new c.rewrite.ensures.same.honest c.rewrite.ensures.log.is in
    moves_failed g.D.Disk.is_honest g.D.Disk.remembers g.D.Disk.state g.D.Disk.clock old new vault next others is (first_of (listing vault next) []) same (λ told. (puts told).any_moment)
    (with_mappings vault next) c.from_residual-in_err-rewrite.result why (passed_on c.from_residual-in_err-rewrite.result why c.from_residual-in_err-rewrite.ensures.1)
    (failed_side g.D.Disk.is_honest g.D.Disk.remembers g.D.Disk.state g.D.Disk.clock old new vault next others is (first_of (listing vault next) []) same (λ told. (puts told).any_moment)
    (λ t image told le at. g.met.D.Disk.counts_now c.rewrite.new.disk t image told le at) is.shows (ap (λ (m : Mappings). m.low) (is.going goes))))

pub returns-clause-moves : goal.returns-clause-moves
returns-clause-moves g c =
    let old : Side g.row.D.Denot = record { disk = c.self.inside.disk; log = c.self.inside.log; levels = c.self.inside.levels; held = c.self.inside.held } in
    let new : Side g.row.D.Denot = record { disk = c.rewrite.new.disk; log = c.rewrite.new.self; levels = c.trim.new.self; held = c.self.inside.held } in
    let held : c.args.low ≤ old.held = omega (arith, c.requires.held, ap (λ (s : Side g.row.D.Denot). s.held) c.self.view_is) in
    let above : old.levels.low ≤ c.args.low = omega (arith, c.requires.above, ap (λ (s : Side g.row.D.Denot). s.levels.low) c.self.view_is) in
    let pages : c.deref.result.now ≡ drop (c.args.low - old.levels.low) old.levels.pages = c.deref.ensures.value ∙ c.in_ok-pages.ensures.ok in
    rw (← c.self.view_is)
    (λ vault is goes.
    let next : Mappings = trim_to vault.mappings c.args.low in
    let others : List Listed = listing vault next ∷ [] in
    let low : vault.mappings.low ≤ c.args.low = omega (arith, above, is.shows.above) in
    let trims : next ≡ trim vault.mappings c.args.low = trim_to_is vault.mappings c.args.low low in
    let kept : (let m : Mappings = record { low = c.args.low; pages = c.deref.result.now } in m) ≡ next =
    ap (λ (ps : List ℕ). let m : Mappings = record { low = c.args.low; pages = ps } in m) pages ∙ ap (λ (m : Mappings). trim m c.args.low) (is.going goes) ∙ sym trims in
    let puts : g.D.Disk.is_honest old.disk → Puts old.log new.log vault.mappings next g.D.Disk.remembers g.D.Disk.state g.D.Disk.clock old.disk new.disk (Ok tt) = λ told.
    subst (λ (m : Mappings). Puts old.log new.log vault.mappings m g.D.Disk.remembers g.D.Disk.state g.D.Disk.clock old.disk new.disk (Ok tt)) kept
    (c.in_ok-rewrite.ensures.puts told vault.mappings (is.keeps told goes)) in
    let same : SameSide g.D.Disk.is_honest old new = same_side_of g.D.Disk.is_honest old new c.rewrite.ensures.same.honest c.rewrite.ensures.log.is in
    let levels : new.levels ≡ next = c.trim.ensures ∙ ap (λ (m : Mappings). trim m c.args.low) (is.going goes) ∙ sym trims in
    let end : end_of next ≡ new.held = ap (λ (m : Mappings). end_of m) trims ∙ trim_end vault.mappings c.args.low old.held low held is.shows.end in
    moves_done g.D.Disk.is_honest g.D.Disk.remembers g.D.Disk.state g.D.Disk.clock old new vault next others is (first_of (listing vault next) []) same (λ told. (puts told).any_moment)
    (area_after old new c.self.invariant.log c.rewrite.ensures.log.is c.rewrite.ensures.log.after) levels end (λ told. (puts told).keeps))
