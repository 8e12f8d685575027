use Rattle.std.proofs.Common.{◌≡◌, ◌∙◌, ◌/◌, ◌++◌, ◌∷◌, [], ℕ, List, ap, arith}
use Rattle.disk_model.specs.Sizes.{maplog_half}
use Rattle.records.specs.declared.map_entry.MapEntry.TheVariants.{Start}
use Rattle.records.specs.Maplog.{map_entry_bytes}
use Rattle.map_log.proofs.Causes.{made_or_refused}
use Rattle.map_log.proofs.Making.{makes_none}
use Rattle.map_log.proofs.Runs.{length-start_body}
use Rattle.map_log.proofs.log.MapLog.make.Goals as goal

pub returns-clause-cause : goal.returns-clause-cause
returns-clause-cause g c =
    let one : c.deref.result.now ≡ map_entry_bytes c.args.version (Start 0 c.args.capacity) ∷ [] = c.deref.ensures.value ∙ c.in_ok-push.ensures.items ∙ ap (λ (bs : List (List ℕ)). bs ++ c.in_ok-start_body.field-0 ∷ []) c.new-bodies.ensures.items ∙ ap (λ (b : List ℕ). b ∷ []) c.in_ok-start_body.ensures.body in
    let size : ℕ = g.D.Disk.extent c.args.disk.now / 2 in
    let half : size ≡ maplog_half c.args.capacity = omega (arith, c.requires.whole) in
    made_or_refused c.deref.result.now size (g.D.Disk.faults c.args.disk.now) (g.D.Disk.faults c.make.new.disk) c.make.result
    (omega (arith, half, length-start_body c.args.version 0 c.args.capacity c.deref.result.now one)) c.make.ensures.cause

pub returns-clause-makes : goal.returns-clause-makes
returns-clause-makes g c = λ honest blank page_count.
    let one : c.deref.result.now ≡ map_entry_bytes c.args.version (Start 0 c.args.capacity) ∷ [] = c.deref.ensures.value ∙ c.in_ok-push.ensures.items ∙ ap (λ (bs : List (List ℕ)). bs ++ c.in_ok-start_body.field-0 ∷ []) c.new-bodies.ensures.items ∙ ap (λ (b : List ℕ). b ∷ []) c.in_ok-start_body.ensures.body in
    makes_none c.args.version page_count c.args.capacity g.D.Disk.remembers g.D.Disk.state g.D.Disk.clock c.args.disk.now c.make.new.disk c.make.result
    (g.D.Disk.extent c.args.disk.now) c.deref.result.now (omega arith) one c.requires.whole
    (g.met.D.Disk.sized c.make.new.disk (c.make.ensures.same.honest.0 honest) ∙ c.make.ensures.same.size) blank (c.make.ensures.makes honest)
