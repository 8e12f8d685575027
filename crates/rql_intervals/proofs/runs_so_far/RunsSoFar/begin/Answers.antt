use Rattle.std.proofs.Common.{◌≡◌, ◌∙◌, ◌+◌, ◌++◌, ◌<◌, ◌∷◌, [], ℕ, ap, append_assoc, arith, drop, false, get_or, length, refl, rules, subst, sym}
use Rattle.rql_intervals.specs.Intervals.{has_row}
use Rattle.rql_intervals.specs.RunsSoFar.{AllFit, begun}
use Rattle.rql_intervals.specs.declared.runs_so_far.Run.{Run}
use Rattle.rql_intervals.proofs.RunFolds.{begun_next, fits_push}
use Rattle.rql_intervals.proofs.runs_so_far.RunsSoFar.begin.Goals as goal

below : (n : ℕ) → n < n + 1
below n = omega arith

pub loop-at-preserved : goal.loop-at-preserved
loop-at-preserved c =
    let before = c.loop-at.invariant in
    let rows = c.args.rows.now in
    let items : c.as_slice-row-items.result.now ≡ rows = search rules in
    let row = c.row-item.result in
    let at : row ≡ get_or rows c.loop-at.at row = search rules in
    let copied : c.new-row.result ≡ row = search rules in
    let run : Run = record { row = row; start = c.args.place; end = c.args.place } in
    let runs = c.loop-at.self.runs.items in
    let last = c.loop-at.self.last in
    let pushed : c.push-in-loop-at.new.self.items ≡ runs ++ run ∷ [] = search rules in
    let added : c.push.new.self.items ≡ c.loop-at.self.ongoing.items ++ length runs ∷ [] = search rules in
    let none : has_row row last ≡ false = search rules in
    record {
      last = before.last;
      runs =
          ap (λ l. l ++ begun c.args.place last (drop (c.loop-at.at + 1) rows)) pushed
          ∙ append_assoc runs (run ∷ []) (begun c.args.place last (drop (c.loop-at.at + 1) rows))
          ∙ ap (λ l. runs ++ l) (sym (begun_next c.args.place last rows c.loop-at.at row (omega (arith, ap length items)) at
          none))
          ∙ before.runs;
      fit = λ fits.
          subst (λ l. AllFit (c.args.place + 1) l c.push-in-loop-at.new.self.items) (sym added)
          (subst (λ l. AllFit (c.args.place + 1) (c.loop-at.self.ongoing.items ++ length runs ∷ []) l) (sym pushed)
          (fits_push (c.args.place + 1) c.loop-at.self.ongoing.items runs run (below c.args.place) refl
          (before.fit fits)));
    }
