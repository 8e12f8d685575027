use Rattle.std.proofs.Common.{◌≡◌, ◌∙◌, ◌++◌, ◌<◌, ◌∷◌, [], ℕ, List, Some, ap, arith, get_or, length, refl, slice_get, subst, sym, take, true}
use Rattle.std.proofs.lemmas.List.{take_more}
use Rattle.std.proofs.lemmas.Option.{slice_get_past, slice_get_read}
use Rattle.values.specs.declared.value.Value.{Value}
use Rattle.rql_intervals.specs.Intervals.{has_row}
use Rattle.rql_intervals.specs.RunsSoFar.{AllGoOn}
use Rattle.rql_intervals.specs.declared.runs_so_far.Run.{Run}
use Rattle.rql_intervals.proofs.RunFolds.{goes_past, goes_there, one_item, stays_behind}
use Rattle.rql_intervals.proofs.runs_so_far.go_on.Goals.{then-at-len+then-contains+in_ok-push, else-at-len, else-at-len-via-then-at-len+else-contains, else-at-len-via-else-at-len}
use Rattle.rql_intervals.proofs.runs_so_far.go_on.Goals as goal

seen_as : (place : ℕ) (rows : List (List Value)) (done still stays : List ℕ) (before runs after : List Run)
    → still ≡ stays → runs ≡ after → AllGoOn place rows done stays before after → AllGoOn place rows done still before
    runs
seen_as place rows done still stays before runs after same_still same_runs gone =
    subst (λ l. AllGoOn place rows done l before runs) (sym same_still)
    (subst (λ l. AllGoOn place rows done stays before l) (sym same_runs) gone)

pub loop-at-preserved : goal.loop-at-preserved
loop-at-preserved c =
    let at : ℕ = get_or c.args.ongoing.now c.loop-at.at-index 0 in
    let done = take c.loop-at.at-index c.args.ongoing.now in
    let runs = c.loop-at.runs.items in
    let still = c.loop-at.still.items in
    let before = c.args.runs.now.items in
    let Gone : List ℕ → Type 0 = λ done. AllGoOn c.args.place c.args.rows.now done c.if-at-len.still.items before
    c.if-at-len.runs.items in
    subst Gone (sym (take_more c.args.ongoing.now c.loop-at.at-index 0 c.loop-at-test.true))
    (elim c.if-at-len.branch [
      | then-at-len+then-contains+in_ok-push w ↦
          let run : Run = w.index_mut.result.now in
          let inside : at < length runs = omega (arith, w.if-at-len.true, c.len.ensures) in
          let there : slice_get runs at ≡ Some run = slice_get_read runs (length runs) at run refl inside
          w.index_mut.ensures.value in
          let same : w.index.result.now ≡ run = one_item (slice_get runs at)
          (slice_get_read runs (length runs) at w.index.result.now refl inside w.index.ensures) there in
          let has : has_row run.row c.args.rows.now ≡ true = ap (λ (r : Run). has_row r.row c.args.rows.now) (sym same)
          ∙ sym w.if-contains.ensures in
          seen_as c.args.place c.args.rows.now (done ++ at ∷ []) c.if-at-len.still.items (still ++ at ∷ []) before
          c.if-at-len.runs.items _
          (ap (λ v. v.items) w.still-is ∙ w.in_ok-push.ensures.items) (ap (λ v. v.items) w.runs-is)
          (goes_there c.args.place c.args.rows.now before runs done still at c.loop-at.invariant run there inside has)
      | else-at-len w ↦
          seen_as c.args.place c.args.rows.now (done ++ at ∷ []) c.if-at-len.still.items still before
          c.if-at-len.runs.items runs
          (ap (λ v. v.items) w.still-is) (ap (λ v. v.items) w.runs-is)
          (elim w.else-at-len.branch [
            | else-at-len-via-then-at-len+else-contains v ↦
                let inside : at < length runs = omega (arith, v.if-at-len.true, c.len.ensures) in
                stays_behind c.args.place c.args.rows.now before runs done still at c.loop-at.invariant
                v.index.result.now
                (slice_get_read runs (length runs) at v.index.result.now refl inside v.index.ensures)
                (sym v.if-contains.ensures)
            | else-at-len-via-else-at-len v ↦
                goes_past c.args.place c.args.rows.now before runs done still at c.loop-at.invariant
                (slice_get_past runs at (omega (arith, v.if-at-len.false, c.len.ensures)))
          ])
    ])
