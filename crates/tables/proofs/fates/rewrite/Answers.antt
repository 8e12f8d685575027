use Rattle.std.proofs.Common.{◌≡◌, ◌<◌, ◌+◌, ◌∙◌, ◌++◌, ◌∷◌, [], ap, sym, append_assoc, arith, length, length-append}
use Rattle.tables.proofs.Rewriting.{back_next, front_more}
use Rattle.tables.proofs.fates.rewrite.Goals as goal

pub loop-fate-preserved : goal.loop-fate-preserved
loop-fate-preserved c =
    let before = c.loop-fate.invariant in
    let yielded = c.loop-fate.yielded in
    let fate = c.in-Some.fate in
    let place = c.loop-fate.place in
    let old = c.args.rows.now.items in
    let rows = c.loop-fate.rows.items in
    let rest = c.next.new.self.rest.items in
    let split : (yielded ++ fate ∷ []) ++ rest ≡ c.args.fates = append_assoc yielded (fate ∷ []) rest ∙ ap (λ l. yielded ++ l) (sym c.in-Some.ensures.steps.0) ∙ before.split in
    let longer : length (yielded ++ fate ∷ []) ≡ place + 1 = omega (arith, length-append yielded (fate ∷ []), before.place) in
    let inside : place < length old = omega (arith, ap length split, length-append (yielded ++ fate ∷ []) rest, longer, c.requires) in
    record {
      split = split;
      place = sym longer;
      kept = c.settle-kept.ensures.kept;
      long = c.settle-kept.ensures.long ∙ before.long;
      front = front_more old rows c.settle-kept.new.rows.items c.loop-fate.kept place c.settle-kept.result yielded fate inside (sym before.place) before.front before.back c.settle-kept.ensures.front;
      back = c.settle-kept.ensures.back ∙ back_next rows old place before.back;
    }
