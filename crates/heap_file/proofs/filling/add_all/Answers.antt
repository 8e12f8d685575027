use Rattle.std.proofs.Common.{◌≡◌, ◌∙◌, ◌+◌, ℕ, List, drop, length, take, Ok, Err, ap, sym, subst, arith}
use Rattle.std.proofs.lemmas.List.{length-append, length-drop, take_all}
use Rattle.std.proofs.lemmas.Result.{err_from_is_err_and}
use Rattle.values.specs.declared.value.Value.{Value}
use Rattle.pager.specs.Draft.{drafted}
use Rattle.heap_file.specs.Work.{all_placed}
use Rattle.heap_file.proofs.Fronts.{rest_stopped, slice_rest, some_more}
use Rattle.heap_file.proofs.Ways.{allowed_stop}
use Rattle.heap_file.proofs.filling.add_all.Goals as goal

pub returns-in_err-add_some-clause-placed : goal.returns-in_err-add_some-clause-placed
returns-in_err-add_some-clause-placed g c = λ base shown told.
    let p = err_from_is_err_and c.from_residual-in_err-add_some.result c.from_residual-in_err-add_some.ensures.1 in
    let size = c.args.draft.now.size in
    let rows = c.args.rows.now in
    let done = c.len-done.result in
    let under = drafted shown c.args.draft.now.list in
    let mid = drafted shown c.pages.draft.list in
    let before = subst (λ (n : ℕ). all_placed size c.args.first (take n rows) under (Ok (c.pages.placed.items, mid))) (sym (c.len-done.ensures ∙ c.pages.placed.ok.0)) (c.pages.invariant.done base shown (c.in_err-add_some.ensures.only_drafts.narrows base shown told)) in
    rw (p.1, p.2)
    (allowed_stop c.in_err-add_some.field-0.0
    (λ why h. rest_stopped size c.args.first rows under mid done c.pages.placed.items why before (subst (λ (l : List (List Value)). all_placed size c.args.first l mid (Err why)) (slice_rest done rows) h))
    (rw c.pages.invariant.draft_size at (c.in_err-add_some.ensures.placed base shown told)))

pub pages-preserved : goal.pages-preserved
pages-preserved g c =
    let drafts = c.in_ok-add_some.ensures.only_drafts in
    let done = length c.pages.placed.items in
    record {
      done = λ base shown told.
          let size = c.args.draft.now.size in
          let rows = c.args.rows.now in
          let under = drafted shown c.args.draft.now.list in
          let mid = drafted shown c.pages.draft.list in
          let after = drafted shown c.add_some.new.draft.list in
          let before = c.pages.invariant.done base shown (drafts.narrows base shown told) in
          let some = rw c.pages.invariant.draft_size at (c.in_ok-add_some.ensures.placed base shown told) in
          let rest = subst (λ (n : ℕ). all_placed size c.args.first (take (length some.0) (drop n rows)) mid (Ok (some.0, after))) (c.len-done.ensures ∙ c.pages.placed.ok.0)
          (subst (λ (l : List (List Value)). all_placed size c.args.first (take (length some.0) l) mid (Ok (some.0, after))) (slice_rest c.len-done.result rows) some.4) in
          let count : done + length some.0 ≡ length c.add_some.new.placed.items = omega (arith, ap length some.1, length-append c.pages.placed.items some.0) in
          let whole = some_more size c.args.first rows under mid after done (length some.0) c.pages.placed.items some.0 before rest in
          subst (λ (n : ℕ). all_placed size c.args.first (take n rows) under (Ok (c.add_some.new.placed.items, after))) count
          (subst (λ (ps : List (ℕ × ℕ)). all_placed size c.args.first (take (done + length some.0) rows) under (Ok (ps, after))) (sym some.1) whole);
      few = omega (arith, c.in_ok-add_some.ensures.few, length-drop done c.args.rows.now, c.pages.invariant.few, c.len-done.ensures);
      grown = omega (arith, c.in_ok-add_some.ensures.some, c.pages.invariant.grown);
      draft_size = c.in_ok-add_some.ensures.size ∙ c.pages.invariant.draft_size;
      narrows = λ base shown told. c.pages.invariant.narrows base shown (drafts.narrows base shown told);
      goes = g.met.P.Pager.goes_on _ _ _ c.pages.invariant.goes drafts.goes_on;
      size = drafts.size_stays ∙ c.pages.invariant.size;
      steady = drafts.cause ∙ c.pages.invariant.steady;
    }

pub returns-clause-placed : goal.returns-clause-placed
returns-clause-placed g c = λ base shown told.
    let whole : take (length c.pages.placed.items) c.args.rows.now ≡ c.args.rows.now = take_all (length c.pages.placed.items) c.args.rows.now (omega (arith, c.pages.invariant.grown, c.pages-test.false)) in
    subst (λ (l : List (List Value)). all_placed c.args.draft.now.size c.args.first l (drafted shown c.args.draft.now.list) (Ok (c.pages.placed.items, drafted shown c.pages.draft.list))) whole (c.pages.invariant.done base shown told)
