use Rattle.std.proofs.Common.{◌∙◌, [], ap}
use Rattle.plain_store.specs.Page.{PlainPage, bytes_in}
use Rattle.plain_store.proofs.Edited.{edit_found, edit_missing}
use Rattle.plain_store.proofs.Stored.{same_at}
use Rattle.plain_store.proofs.pages.shown_page.Goals as goal

pub returns-in-Some : goal.returns-in-Some
returns-in-Some c = edit_found c.args.edits.now c.args.page (bytes_in c.args.pages.now) c.in-Some.bytes.now c.requires.rise c.in-Some.ensures

pub returns-in-None : goal.returns-in-None
returns-in-None c =
    c.bytes.ensures
    ∙ ap (λ (p : PlainPage). p.bytes) (c.index-pages-page.is ∙ same_at c.args.pages.now c.args.page c.index-pages-page.result (record { bytes = []; past = [] }) c.requires.in_store)
    ∙ edit_missing c.args.edits.now c.args.page (bytes_in c.args.pages.now) c.requires.rise c.in-None.ensures
