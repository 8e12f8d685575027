use Rattle.std.proofs.Common.{sym}
use Rattle.journal_book.proofs.EditLists.{there_among, goes_apart}
use Rattle.journal_book.proofs.edits.has_page.Goals as goal

pub returns-in-Ok : goal.returns-in-Ok
returns-in-Ok c = sym (there_among c.args.page c.args.images.now c.in-Ok.field-0 c.in-Ok.ensures)

pub returns-in-Err : goal.returns-in-Err
returns-in-Err c = sym (goes_apart c.args.page c.args.images.now c.in-Err.field-0 c.requires c.in-Err.ensures)
