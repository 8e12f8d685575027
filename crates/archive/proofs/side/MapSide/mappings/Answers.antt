use Rattle.std.proofs.Common.{◌≡◌, ◌∙◌, ◌+◌, ◌-◌, ◌<◌, ◌++◌, ◌∷◌, [], ℕ, List, length, get_or, sym, ap, arith}
use Rattle.std.proofs.lemmas.List.{get_or_read, length-drop}
use Rattle.archive.proofs.Numbered.{numbered_more}
use Rattle.archive.proofs.side.MapSide.mappings.Goals as goal

pub loop-index-preserved : goal.loop-index-preserved
loop-index-preserved g c =
    let less : c.loop-index.index < length c.in_ok-pages.pages.items =
    omega (arith, c.loop-index-test.true, ap (λ (ps : List ℕ). length ps) c.in_ok-pages.ensures.ok, length-drop (c.low-low.result - c.self.inside.levels.low) c.self.inside.levels.pages, c.low-low.ensures, c.self.invariant.known) in
    let page : c.index.result.now ≡ get_or c.in_ok-pages.pages.items c.loop-index.index 0 = get_or_read c.in_ok-pages.pages.items _ _ less c.index.ensures 0 in
    c.in_ok-push.ensures.items ∙ ap (λ (ms : List (ℕ × ℕ)). ms ++ (c.low-low.result + c.loop-index.index, c.index.result.now) ∷ []) c.loop-index.invariant
    ∙ sym (numbered_more c.low-low.result c.loop-index.index c.index.result.now c.in_ok-pages.pages.items less page)
