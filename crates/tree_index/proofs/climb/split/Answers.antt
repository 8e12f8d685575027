use Rattle.std.proofs.Common.{◌∷◌, [], ℕ, subst, sym, arith}
use Rattle.std.specs.List.{AllByRecursion}
use Rattle.pager.specs.Draft.{drafted}
use Rattle.pager.specs.Stop.{Allowed}
use Rattle.tree_index.specs.declared.climb.Climb.{Climb}
use Rattle.tree_index.specs.declared.walk.Met.{Met}
use Rattle.tree_index.specs.Marking.{all-join}
use Rattle.tree_index.specs.Placing.{parts-writable}
use Rattle.tree_index.specs.RootPage.{key-writable}
use Rattle.tree_index.specs.Walk.{IsStored}
use Rattle.tree_index.specs.Work.{lifted, split}
use Rattle.tree_index.proofs.Climbed.{split-lifted}
use Rattle.pager.proofs.Stops.{allowed_on}
use Rattle.tree_index.proofs.climb.split.Goals as goal

pub lift-requires-clause-stored : goal.lift-requires-clause-stored
lift-requires-clause-stored g c =
    let size = c.args.draft.now.size in
    let parts = c.in_ok-left.field-0 in
    let met : Met = record { page = c.in_ok-next.next; held = parts.right } in
    let right = (parts-writable c.args.whole c.in_ok-next.next parts c.requires.lawful c.requires.short c.in_ok-left.ensures).1 in
    let all = all-join (IsStored size) c.args.edits (met ∷ []) c.requires.stored ((c.in_ok-next.ensures.inside, right), tt) in
    subst (λ (n : ℕ). AllByRecursion (IsStored n) c.push.new.self) (sym c.in_ok-next.ensures.size) (subst (AllByRecursion (IsStored size)) (sym c.in_ok-push.ensures.ok) all)

pub lift-requires-clause-left : goal.lift-requires-clause-left
lift-requires-clause-left g c = (parts-writable c.args.whole c.in_ok-next.next c.in_ok-left.field-0 c.requires.lawful c.requires.short c.in_ok-left.ensures).0

pub lift-requires-clause-key : goal.lift-requires-clause-key
lift-requires-clause-key g c = key-writable c.args.whole c.in_ok-left.field-0 c.in_ok-next.next c.requires.lawful (omega arith) c.in_ok-left.ensures

pub returns-then-page-root-clause-split : goal.returns-then-page-root-clause-split
returns-then-page-root-clause-split g c = λ base shown told.
    let size = c.args.draft.now.size in
    let pages = drafted shown c.args.draft.now.list in
    let mid = drafted shown c.take.new.draft.list in
    let parts = c.in_ok-left.field-0 in
    let took = c.in_ok-next.ensures.taken base shown (c.lift.ensures.only_drafts.narrows base shown told) in
    let there = subst (λ (n : ℕ). Allowed (λ (x : Climb). (x, drafted shown c.lift.new.draft.list)) (lifted n c.args.root parts.left parts.key c.push.new.self mid) c.lift.result) c.in_ok-next.ensures.size (c.lift.ensures.lifted base shown told) in
    allowed_on (λ (x : Climb). (x, drafted shown c.lift.new.draft.list)) (lifted size c.args.root parts.left parts.key c.push.new.self mid) (split size c.args.root c.args.page c.args.whole c.args.edits pages) c.lift.result
    (split-lifted size c.args.root c.args.page c.args.whole c.args.edits c.push.new.self pages (c.in_ok-next.next, mid) parts c.if-page-root.true took (omega arith) c.in_ok-left.ensures c.in_ok-push.ensures.ok)
    there

pub returns-clause-stored : goal.returns-clause-stored
returns-clause-stored g c =
    let size = c.args.draft.now.size in
    let parts = c.in_ok-left.field-0 in
    let writable = parts-writable c.args.whole c.in_ok-next.next parts c.requires.lawful c.requires.short c.in_ok-left.ensures in
    let right : Met = record { page = c.in_ok-next.next; held = parts.right } in
    let left : Met = record { page = c.args.page; held = parts.left } in
    let one = subst (AllByRecursion (IsStored size)) (sym c.in_ok-push.ensures.ok) (all-join (IsStored size) c.args.edits (right ∷ []) c.requires.stored ((c.in_ok-next.ensures.inside, writable.1), tt)) in
    subst (AllByRecursion (IsStored size)) (sym c.in_ok-push-2.ensures.ok) (all-join (IsStored size) c.push.new.self (left ∷ []) one ((c.requires.there, writable.0), tt))
