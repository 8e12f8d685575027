use Rattle.std.proofs.Common.{sym}
use Rattle.journal_book.proofs.EditLists.{own_there, own_apart}
use Rattle.journal_book.proofs.edits.edit_of.Goals as goal

pub returns-in-Ok : goal.returns-in-Ok
returns-in-Ok c = sym (own_there c.args.page c.args.images.now c.in-Ok.place c.index-images-place.result c.requires c.in-Ok.ensures)

pub returns-in-Err : goal.returns-in-Err
returns-in-Err c = sym (own_apart c.args.page c.args.images.now c.in-Err.field-0 c.requires c.in-Err.ensures)
