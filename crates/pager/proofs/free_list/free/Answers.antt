use Rattle.std.proofs.Common.{◌≡◌, ◌∙◌, true, refl, sym, ap, arith}
use Rattle.pager.specs.Pages.{Pages, with_bytes}
use Rattle.pager.specs.Root.{is_root, in_front}
use Rattle.pager.proofs.Overlays.{is_root-free}
use Rattle.pager.proofs.free_list.free.Goals as goal

pub overflow_add-in_front : goal.overflow_add-in_front
overflow_add-in_front g c =
    let room = is_root-free c.args.draft.now.size c.in_ok-root.root c.in_ok-root.ensures.root in omega arith

pub returns-clause-freed : goal.returns-clause-freed
returns-clause-freed g c = λ base shown told.
    let root = c.in_ok-root.ensures.read base shown told in
    let yes : is_root c.args.draft.now.size (in_front c.args.page c.in_ok-root.root) ≡ true = rw (← c.size-size.ensures) (sym c.is_root.ensures ∙ c.if-not-is_root.false) in
    let pages =
    c.in_ok-put-2.ensures.drafted shown
    ∙ ap (λ (p : Pages). with_bytes p 0 c.page.result) (c.in_ok-put.ensures.drafted shown) in
    rw (root, yes, pages, c.page.ensures, c.free_page.ensures) refl
