use Rattle.std.proofs.Common.{◌≡◌, ◌-◌, ◌∙◌, drop, sym, ap, arith}
use Rattle.history.specs.Marks.{oldest_start}
use Rattle.replay.specs.Joined.{begins_with}
use Rattle.replay.proofs.Fronts.{begins_there}
use Rattle.replay.proofs.joining.holds_changes.Goals as goal

pub returns : goal.returns
returns c =
    let count = c.args.count in
    let behind = c.args.behind.now in
    let mappings = c.args.mappings.now in
    let start : c.oldest_start.result ≡ oldest_start behind.marks = c.oldest_start.ensures ∙ ap oldest_start c.marks.ensures in
    let same : c.begin_with.result ≡ begins_with (drop (count - mappings.low) mappings.pages) (drop (mappings.low - count) c.args.captured.now) =
    c.begin_with.ensures
    ∙ begins_there mappings.pages c.pages.result.now c.args.captured.now c.saturating_sub.result c.saturating_sub-2.result (count - mappings.low) (mappings.low - count) c.pages.ensures (omega arith) (omega arith) in
    (λ t. record { known = omega arith; needed = omega (arith, start); same = sym same ∙ t }, λ h. same ∙ h.same)
