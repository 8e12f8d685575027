use Rattle.std.proofs.Common.{◌≡◌, ◌∷◌, ◌∙◌, ◌++◌, [], Ok, Err, ap, subst}
use Rattle.std.specs.List.{AllByRecursion}
use Rattle.std.proofs.lemmas.Result.{err_from_is_err_and}
use Rattle.pager.proofs.Stops.{allowed_stop}
use Rattle.pager.specs.Draft.{drafted}
use Rattle.pager.specs.Pages.{Pages}
use Rattle.index_page.specs.IndexPage.{AreWritable}
use Rattle.tree_index.specs.Filling.{Fills, kept}
use Rattle.tree_index.specs.Marking.{all-join, all-left, all-right}
use Rattle.tree_index.specs.Walk.{IsStored}
use Rattle.tree_index.specs.declared.walk.Met.{Met}
use Rattle.tree_index.proofs.Following.{filled-writable}
use Rattle.tree_index.proofs.OnLeaf.{added_on-at, on-leaf, put_on, run-added, run-ended, run-unwalked, run-whole}
use Rattle.tree_index.proofs.index.add_run.Goals as goal

pub returns-in_err-way-clause-added : goal.returns-in_err-way-clause-added
returns-in_err-way-clause-added g c = λ base shown told.
    let p = err_from_is_err_and c.from_residual.result c.from_residual.ensures.1 in
    rw (p.1, p.2)
    (allowed_stop c.in_err-way.field-0.0
    (λ why h. run-unwalked c.index-entries-0.result c.args.entries.now c.args.draft.now.size c.args.root (drafted shown c.args.draft.now.list) why c.requires.some c.index-entries-0.is h)
    (c.in_err-way.ensures.walked base shown told))

pub fill-requires-clause-held : goal.fill-requires-clause-held
fill-requires-clause-held g c =
    (all-right (IsStored c.args.draft.now.size) c.pop.new.self.items (c.in-Some.field-0 ∷ []) (subst (AllByRecursion (IsStored c.args.draft.now.size)) c.in-Some.ensures.items c.in_ok-way.ensures.stored)).0.1

pub keep-requires : goal.keep-requires
keep-requires g c =
    let leaf = c.in-Some.field-0 in
    let way : AllByRecursion (IsStored c.args.draft.now.size) (c.pop.new.self.items ++ leaf ∷ []) = subst (AllByRecursion (IsStored c.args.draft.now.size)) c.in-Some.ensures.items c.in_ok-way.ensures.stored in
    let stored = (all-right (IsStored c.args.draft.now.size) c.pop.new.self.items (leaf ∷ []) way).0 in
    let fills : Fills leaf.held.entries c.pop.new.self.items c.args.entries.now c.in_ok-filled.field-0 = rw c.deref.ensures.value at c.in_ok-filled.ensures in
    let writable : AreWritable c.in_ok-filled.field-0.held = filled-writable leaf.held.entries _ c.in_ok-filled.field-0.held stored.1 fills.fills in
    rw c.met_of-leaf.ensures.met (stored.0, writable)

pub add_on-requires-clause-stored : goal.add_on-requires-clause-stored
add_on-requires-clause-stored g c =
    let leaf = c.in-Some.field-0 in
    let size = c.args.draft.now.size in
    let front = c.pop.new.self.items in
    let way : AllByRecursion (IsStored size) (front ++ leaf ∷ []) = subst (AllByRecursion (IsStored size)) c.in-Some.ensures.items c.in_ok-way.ensures.stored in
    let stored = (all-right (IsStored size) front (leaf ∷ []) way).0 in
    let fills : Fills leaf.held.entries front c.args.entries.now c.in_ok-filled.field-0 = rw c.deref.ensures.value at c.in_ok-filled.ensures in
    let writable : AreWritable c.in_ok-filled.field-0.held = filled-writable leaf.held.entries _ c.in_ok-filled.field-0.held stored.1 fills.fills in
    let there : IsStored size c.met_of-leaf.result = rw c.met_of-leaf.ensures.met (stored.0, writable) in
    rw c.in_ok-keep.ensures.size (rw c.in_ok-push.ensures.items (all-join (IsStored size) front (c.met_of-leaf.result ∷ []) (all-left (IsStored size) front (leaf ∷ []) way) (there, tt)))

pub returns-then-count-run-clause-added : goal.returns-then-count-run-clause-added
returns-then-count-run-clause-added g c = λ base shown told.
    let leaf = c.in-Some.field-0 in
    let size = c.args.draft.now.size in
    let pages : Pages = drafted shown c.args.draft.now.list in
    let filled = c.in_ok-filled.field-0 in
    let front = c.pop.new.self.items in
    let fills : Fills leaf.held.entries front c.args.entries.now filled = rw c.deref.ensures.value at c.in_ok-filled.ensures in
    let on = on-leaf c.index-entries-0.result fills.first c.args.entries.now fills.rest size c.args.root pages c.in_ok-way.way.items front leaf c.index-entries-0.is fills.begin c.in-Some.ensures.items (c.in_ok-way.ensures.walked base shown told) in
    let mid : drafted shown c.keep.new.draft.list ≡ kept filled.count (put_on leaf filled.held) pages = c.in_ok-keep.ensures.drafted shown ∙ ap (λ (met : Met). kept filled.count met pages) c.met_of-leaf.ensures.met in
    rw mid (run-whole size c.args.root pages front leaf c.args.entries.now filled fills on c.met_of-leaf.ensures.narrow c.if-count-run.true)

pub returns-in_err-add_on-clause-added : goal.returns-in_err-add_on-clause-added
returns-in_err-add_on-clause-added g c = λ base shown told.
    let p = err_from_is_err_and c.from_residual-in_err-add_on.result c.from_residual-in_err-add_on.ensures.1 in
    let leaf = c.in-Some.field-0 in
    let size = c.args.draft.now.size in
    let pages : Pages = drafted shown c.args.draft.now.list in
    let filled = c.in_ok-filled.field-0 in
    let front = c.pop.new.self.items in
    let fills : Fills leaf.held.entries front c.args.entries.now filled = rw c.deref.ensures.value at c.in_ok-filled.ensures in
    let walked = c.in_ok-way.ensures.walked base shown (c.in_err-add_on.ensures.only_drafts.narrows base shown told) in
    let on = on-leaf c.index-entries-0.result fills.first c.args.entries.now fills.rest size c.args.root pages c.in_ok-way.way.items front leaf c.index-entries-0.is fills.begin c.in-Some.ensures.items walked in
    let mid : drafted shown c.keep.new.draft.list ≡ kept filled.count (put_on leaf filled.held) pages = c.in_ok-keep.ensures.drafted shown ∙ ap (λ (met : Met). kept filled.count met pages) c.met_of-leaf.ensures.met in
    let items : c.push.new.self.items ≡ front ++ put_on leaf filled.held ∷ [] = c.in_ok-push.ensures.items ∙ ap (λ (met : Met). front ++ met ∷ []) c.met_of-leaf.ensures.met in
    rw (p.1, p.2)
    (allowed_stop c.in_err-add_on.field-0.0
    (λ why h. run-ended size c.args.root pages front leaf c.args.entries.now filled fills on c.met_of-leaf.ensures.narrow c.index-entries-count.result why c.if-count-run.false c.index-entries-count.is
    (added_on-at c.keep.new.draft.size size c.args.root c.push.new.self.items (front ++ put_on leaf filled.held ∷ []) c.index-entries-count.result (drafted shown c.keep.new.draft.list) (kept filled.count (put_on leaf filled.held) pages) (Err why) c.in_ok-keep.ensures.size items mid h))
    (c.in_err-add_on.ensures.added base shown told))

pub returns-clause-added : goal.returns-clause-added
returns-clause-added g c = λ base shown told.
    let leaf = c.in-Some.field-0 in
    let size = c.args.draft.now.size in
    let pages : Pages = drafted shown c.args.draft.now.list in
    let filled = c.in_ok-filled.field-0 in
    let front = c.pop.new.self.items in
    let fills : Fills leaf.held.entries front c.args.entries.now filled = rw c.deref.ensures.value at c.in_ok-filled.ensures in
    let walked = c.in_ok-way.ensures.walked base shown (c.in_ok-add_on.ensures.only_drafts.narrows base shown told) in
    let on = on-leaf c.index-entries-0.result fills.first c.args.entries.now fills.rest size c.args.root pages c.in_ok-way.way.items front leaf c.index-entries-0.is fills.begin c.in-Some.ensures.items walked in
    let mid : drafted shown c.keep.new.draft.list ≡ kept filled.count (put_on leaf filled.held) pages = c.in_ok-keep.ensures.drafted shown ∙ ap (λ (met : Met). kept filled.count met pages) c.met_of-leaf.ensures.met in
    let items : c.push.new.self.items ≡ front ++ put_on leaf filled.held ∷ [] = c.in_ok-push.ensures.items ∙ ap (λ (met : Met). front ++ met ∷ []) c.met_of-leaf.ensures.met in
    run-added size c.args.root pages front leaf c.args.entries.now filled fills on c.met_of-leaf.ensures.narrow c.index-entries-count.result (drafted shown c.add_on.new.draft.list) c.if-count-run.false c.index-entries-count.is
    (added_on-at c.keep.new.draft.size size c.args.root c.push.new.self.items (front ++ put_on leaf filled.held ∷ []) c.index-entries-count.result (drafted shown c.keep.new.draft.list) (kept filled.count (put_on leaf filled.held) pages) (Ok (tt, drafted shown c.add_on.new.draft.list)) c.in_ok-keep.ensures.size items mid (c.in_ok-add_on.ensures.added base shown told))
