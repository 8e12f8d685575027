use Rattle.std.proofs.Common.{◌≡◌, ◌∙◌, ◌+◌, ◌++◌, ◌∷◌, [], ℕ, List, length, take, Ok, ap, sym, subst, arith, append_assoc}
use Rattle.std.proofs.lemmas.List.{length-append}
use Rattle.std.proofs.lemmas.Result.{err_from_is_err_and}
use Rattle.pager.specs.Draft.{drafted}
use Rattle.heap_file.specs.Filling.{placed_from}
use Rattle.heap_file.specs.Work.{all_placed}
use Rattle.heap_file.proofs.Fronts.{length-placed_from, one_more, stopped_at}
use Rattle.heap_file.proofs.Ways.{allowed_stop}
use Rattle.heap_file.proofs.filling.add_some.Goals.{then-filled-rows+in_ok-add+in_ok-push, else-filled-rows}
use Rattle.heap_file.proofs.filling.add_some.Goals as goal

pub returns-in_err-add-clause-placed : goal.returns-in_err-add-clause-placed
returns-in_err-add-clause-placed g c = λ base shown told.
    let p = err_from_is_err_and c.from_residual-in_err-add.result c.from_residual-in_err-add.ensures.1 in
    let filled = c.in_ok-filled.filled in
    let before = c.in_ok-filled.ensures.placed base shown (c.in_err-add.ensures.only_reads.narrows base shown told) in
    rw (p.1, p.2)
    (allowed_stop c.in_err-add.field-0.0
    (λ why h. stopped_at c.args.draft.now.size c.args.first c.args.rows.now (drafted shown c.args.draft.now.list) (drafted shown c.fill.new.draft.list) filled.count c.index-rows-filled.result (placed_from filled.number filled.page filled.count) why c.if-filled-rows.true c.index-rows-filled.is before.1 h)
    (rw c.in_ok-filled.ensures.size at (c.in_err-add.ensures.added base shown told)))

pub returns-clause-placed : goal.returns-clause-placed
returns-clause-placed g c =
    let filled = c.in_ok-filled.filled in
    let size = c.args.draft.now.size in
    let first = c.args.first in
    let rows = c.args.rows.now in
    let told_before = c.args.placed.now.items in
    let front = placed_from filled.number filled.page filled.count in
    let long : length front ≡ filled.count = length-placed_from filled.number filled.page filled.count in
    elim c.if-filled-rows.branch [
      | then-filled-rows+in_ok-add+in_ok-push w ↦
          rw (w.pager-is, w.draft-is, w.placed-is)
          (λ base shown told.
          let before = c.in_ok-filled.ensures.placed base shown (w.in_ok-add.ensures.only_reads.narrows base shown told) in
          let spot : ℕ × ℕ = w.in_ok-add.field-0 in
          let more : List (ℕ × ℕ) = front ++ spot ∷ [] in
          let items : w.push.new.self.items ≡ told_before ++ more =
          w.in_ok-push.ensures.items ∙ ap (λ (ps : List (ℕ × ℕ)). ps ++ spot ∷ []) c.in_ok-push_filled.ensures ∙ append_assoc told_before front (spot ∷ []) in
          let count : length more ≡ filled.count + 1 = omega (arith, length-append front (spot ∷ []), long) in
          let done = one_more size first rows (drafted shown c.args.draft.now.list) (drafted shown c.fill.new.draft.list) (drafted shown w.add.new.draft.list) filled.count w.index-rows-filled.result front spot w.if-filled-rows.true w.index-rows-filled.is before.1 (rw c.in_ok-filled.ensures.size at (w.in_ok-add.ensures.added base shown told)) in
          (more, items, omega (arith, count), omega (arith, count, w.if-filled-rows.true), subst (λ (n : ℕ). all_placed size first (take n rows) (drafted shown c.args.draft.now.list) (Ok (more, drafted shown w.add.new.draft.list))) (sym count) done))
      | else-filled-rows w ↦
          rw (w.pager-is, w.draft-is, w.placed-is)
          (λ base shown told.
          let before = c.in_ok-filled.ensures.placed base shown told in
          (front, c.in_ok-push_filled.ensures, omega (arith, long, w.if-filled-rows.false, c.requires.some), omega (arith, long, before.0), subst (λ (n : ℕ). all_placed size first (take n rows) (drafted shown c.args.draft.now.list) (Ok (front, drafted shown c.fill.new.draft.list))) (sym long) before.1))
    ]

pub returns-clause-few : goal.returns-clause-few
returns-clause-few g c =
    let filled = c.in_ok-filled.filled in
    let front = placed_from filled.number filled.page filled.count in
    let long : length c.push_filled.new.placed.items ≡ length c.args.placed.now.items + filled.count =
    ap length c.in_ok-push_filled.ensures ∙ length-append c.args.placed.now.items front ∙ ap (λ (n : ℕ). length c.args.placed.now.items + n) (length-placed_from filled.number filled.page filled.count) in
    elim c.if-filled-rows.branch [
      | then-filled-rows+in_ok-add+in_ok-push w ↦
          rw w.placed-is (omega (arith, long, ap length w.in_ok-push.ensures.items, length-append c.push_filled.new.placed.items (w.in_ok-add.field-0 ∷ []), w.if-filled-rows.true))
      | else-filled-rows w ↦ rw w.placed-is (omega (arith, long, c.in_ok-filled.ensures.few))
    ]
