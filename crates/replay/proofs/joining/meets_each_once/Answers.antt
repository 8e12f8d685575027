use Rattle.std.proofs.Common.{◌≡◌, ◌<◌, ◌∙◌, ℕ, false, get_or, length, sym, ap, arith}
use Rattle.std.proofs.lemmas.List.{drop_all, get_or_past}
use Rattle.replay.proofs.Tables.{has, each_once, told, meets, stops, goes_on}
use Rattle.replay.proofs.joining.meets_each_once.Goals as goal
use Rattle.replay.proofs.joining.meets_each_once.Goals.{then-place-len-via-then-place-len, then-place-len-via-else-place-len+then-not-index}

pub returns-then-place-len : goal.returns-then-place-len
returns-then-place-len c others same =
    let table = c.loop-page.table.items in
    let here : ℕ = get_or c.args.pages.now c.loop-page.page-index 0 in
    let none : has table here ≡ false = elim c.then-place-len.branch [
      | then-place-len-via-then-place-len w ↦ get_or_past table here false (omega (arith, w.if-place-len, c.len.ensures))
      | then-place-len-via-else-place-len+then-not-index w ↦ told table here w.index.result.now (omega (arith, w.if-place-len, c.len.ensures)) w.index.ensures ∙ w.if-not-index.true
    ] in
    sym (stops table c.args.pages.now c.loop-page.page-index c.loop-page-test.true none) ∙ c.loop-page.invariant ∙ meets c.args.table.items c.args.pages.now others same

pub loop-page-preserved : goal.loop-page-preserved
loop-page-preserved c =
    let table = c.loop-page.table.items in
    let here : ℕ = get_or c.args.pages.now c.loop-page.page-index 0 in
    let within : here < length table = omega (arith, c.if-place-len.false, c.len.ensures) in
    goes_on table c.args.pages.now c.loop-page.page-index c.loop-page-test.true within (told table here c.index.result.now within c.index.ensures ∙ c.if-not-index.false) ∙ c.loop-page.invariant

pub returns : goal.returns
returns c others same =
    sym (ap (each_once (has c.loop-page.table.items)) (drop_all c.loop-page.page-index c.args.pages.now (omega arith))) ∙ c.loop-page.invariant ∙ meets c.args.table.items c.args.pages.now others same
