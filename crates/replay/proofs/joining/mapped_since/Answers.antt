use Rattle.std.proofs.Common.{◌≡◌, ◌-◌, ◌∙◌, List, ℕ, length, take, drop, min, ap, arith}
use Rattle.history.specs.Marks.{newest_start}
use Rattle.replay.proofs.Fronts.{part_is}
use Rattle.replay.proofs.joining.mapped_since.Goals as goal

pub returns : goal.returns
returns c =
    let base = c.args.base.now in
    let mappings = c.args.mappings.now in
    let long : length c.pages-pages.result.now ≡ length mappings.pages = ap (λ (l : List ℕ). length l) c.pages-pages.ensures in
    let start : c.newest_start.result ≡ newest_start base.marks = c.newest_start.ensures ∙ ap newest_start c.as_slice.ensures in
    let end : c.min-end.result ≡ min (base.captures - mappings.low) (length mappings.pages) = omega (arith, long) in
    let from : c.min-start.result ≡ min (newest_start base.marks - mappings.low) c.min-end.result = omega (arith, start) in
    ap (λ (l : List ℕ). take (c.min-end.result - c.min-start.result) (drop c.min-start.result l)) c.pages-pages.ensures
    ∙ part_is mappings.pages mappings.low base.captures (newest_start base.marks) c.min-start.result c.min-end.result end from
