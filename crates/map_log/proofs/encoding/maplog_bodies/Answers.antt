use Rattle.std.proofs.Common.{◌≡◌, ◌∙◌, ◌+◌, ◌*◌, ◌≤◌, ◌++◌, ◌∷◌, [], ℕ, List, length, sym, ap, arith}
use Rattle.records.specs.declared.map_entry.MapEntry.TheVariants.{Run}
use Rattle.records.specs.Maplog.{map_entry_bytes}
use Rattle.map_log.specs.Bodies.{bodies_to, run_at}
use Rattle.map_log.proofs.Runs.{bodies-more, run_part}
use Rattle.map_log.proofs.encoding.maplog_bodies.Goals as goal

pub loop-index-preserved : goal.loop-index-preserved
loop-index-preserved c =
    let pages = c.args.pages.now in
    let count = c.loop-index.index in
    let version = c.args.version in
    let within : count * 4096 ≤ length pages = omega arith in
    let body : c.in_ok-run_body.field-0 ≡ map_entry_bytes version (run_at c.args.low pages count) =
    c.in_ok-run_body.ensures.body ∙ ap (λ (ps : List ℕ). map_entry_bytes version (Run (c.args.low + count * 4096) ps)) (run_part pages (count * 4096) c.min-to.result c.min-to.ensures within) in
    c.in_ok-push-2.ensures.items ∙ ap (λ (bs : List (List ℕ)). bs ++ c.in_ok-run_body.field-0 ∷ []) c.loop-index.invariant
    ∙ ap (λ (b : List ℕ). bodies_to version c.args.capacity c.args.low pages count ++ b ∷ []) body ∙ sym (bodies-more version c.args.capacity c.args.low pages count)
