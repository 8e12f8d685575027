use Rattle.std.proofs.Common.{◌≡◌, ◌<◌, ◌++◌, ◌∷◌, ◌∙◌, [], ℕ, List, length, ap, inl, inr, subst, sym, arith, length-append}
use Rattle.std.specs.List.{AllByRecursion, remove}
use Rattle.std.proofs.lemmas.Bool.{eqb-false}
use Rattle.std.proofs.lemmas.Result.{err_from_is_err_and}
use Rattle.pager.specs.Draft.{drafted}
use Rattle.tree_index.specs.declared.walk.Met.{Met}
use Rattle.tree_index.specs.Marking.{all-join}
use Rattle.tree_index.specs.Walk.{IsStored, Meets, children}
use Rattle.tree_index.proofs.Walking.{first-rest, meets-more}
use Rattle.pager.proofs.Stops.{allowed_stop}
use Rattle.tree_index.proofs.walk.walk.Goals as goal

pub returns-in_err-held-clause-walked : goal.returns-in_err-held-clause-walked
returns-in_err-held-clause-walked g c = λ base shown told.
    let p = err_from_is_err_and c.from_residual-in_err-held.result c.from_residual-in_err-held.ensures.1 in
    let m = c.pages.invariant.meeting in
    let some : 0 < length c.pages.todo.items = omega (arith, c.pages.todo.ok.0) in
    let first = first-rest c.pages.todo.items c.remove-page.result some c.remove-page.ensures.value in
    let met = subst (λ (l : List ℕ). Meets c.args.low.now c.args.high.now c.kind-kind.result c.args.draft.now.size (drafted shown c.args.draft.now.list) (c.args.root ∷ []) c.pages.way.items l) first (m.way_is base shown (c.in_err-held.ensures.only_reads.narrows base shown told)) in
    rw (p.1, p.2, ← c.kind-kind.ensures)
    (allowed_stop c.in_err-held.field-0.0
    (λ why h. (c.pages.way.items, c.remove-page.result, remove c.pages.todo.items 0, met, h.0, inr h.1))
    (c.in_err-held.ensures.read base shown told))

pub pages-preserved : goal.pages-preserved
pages-preserved g c =
    let m = c.pages.invariant.meeting in
    let reads = c.in_ok-held.ensures.only_reads in
    let held = c.in_ok-held.held in
    let page = c.remove-page.result in
    let low = c.args.low.now in
    let high = c.args.high.now in
    let rest = remove c.pages.todo.items 0 in
    let met : Met = record { page = page; held = held } in
    let some : 0 < length c.pages.todo.items = omega (arith, c.pages.todo.ok.0) in
    let first = first-rest c.pages.todo.items page some c.remove-page.ensures.value in
    let todo_is : c.append.new.self.items ≡ children low high held ++ rest =
    c.in_ok-append.ensures.items ∙ ap (λ (l : List ℕ). l ++ c.remove-page.new.self.items) c.in_ok-next.ensures ∙ ap (λ (l : List ℕ). children low high held ++ l) c.remove-page.ensures.items in
    let way_is : c.push.new.self.items ≡ c.pages.way.items ++ met ∷ [] = c.in_ok-push.ensures.items in
    let stored : AllByRecursion (IsStored c.args.draft.now.size) (c.pages.way.items ++ met ∷ []) = all-join (IsStored c.args.draft.now.size) c.pages.way.items (met ∷ []) c.pages.invariant.stored ((c.in_ok-held.ensures.there, c.in_ok-held.ensures.writable), tt) in
    record {
      meeting = record {
        count_is = omega (arith, m.count_is, ap length way_is, length-append c.pages.way.items (met ∷ []));
        way_is = λ base shown told.
            let pages = drafted shown c.args.draft.now.list in
            let before = subst (λ (l : List ℕ). Meets low high c.kind-kind.result c.args.draft.now.size pages (c.args.root ∷ []) c.pages.way.items l) first (m.way_is base shown (reads.narrows base shown told)) in
            let more = meets-more low high c.kind-kind.result c.args.draft.now.size pages (c.args.root ∷ []) rest page held c.pages.way.items before (c.in_ok-held.ensures.read base shown told) in
            subst (λ (l : List ℕ). Meets low high c.kind-kind.result c.args.draft.now.size pages (c.args.root ∷ []) c.push.new.self.items l) (sym todo_is)
            (subst (λ (w : List Met). Meets low high c.kind-kind.result c.args.draft.now.size pages (c.args.root ∷ []) w (children low high held ++ rest)) (sym way_is) more);
      };
      stored = subst (AllByRecursion (IsStored c.args.draft.now.size)) (sym way_is) stored;
      narrows = λ base shown told. c.pages.invariant.narrows base shown (reads.narrows base shown told);
      goes = g.met.P.Pager.goes_on _ _ _ c.pages.invariant.goes reads.goes_on;
      size = reads.size_stays ∙ c.pages.invariant.size;
      steady = reads.cause ∙ c.pages.invariant.steady;
    }

pub returns-clause-walked : goal.returns-clause-walked
returns-clause-walked g c = λ base shown told.
    let m = c.pages.invariant.meeting in
    let left = eqb-false _ 0 (sym c.is_empty-2.ensures ∙ c.if-is_empty-2.false) in
    let some : 0 < length c.pages.todo.items = omega (arith, c.pages.todo.ok.0, left) in
    let first = first-rest c.pages.todo.items c.index.result.now some c.index.ensures in
    let met = subst (λ (l : List ℕ). Meets c.args.low.now c.args.high.now c.kind-kind.result c.args.draft.now.size (drafted shown c.args.draft.now.list) (c.args.root ∷ []) c.pages.way.items l) first (m.way_is base shown told) in
    rw (← c.kind-kind.ensures)
    (inr (c.pages.way.items, c.index.result.now, remove c.pages.todo.items 0, met, c.broken.ensures, inl (omega (arith, m.count_is, c.size-end.ensures))))
